use Rattle.std.proofs.Common.{length}
use Rattle.rank_papers.specs.Meaning.Certificate.{end_line}
use Rattle.rank_papers.specs.CertificateLines.{entry_in}
use Rattle.rank_papers.proofs.LinesRead.{HasRead}
use Rattle.rank_papers.proofs.certificate_lines.read_lines.Given as goal

-- the entries so far and those of the rest are those of the text
abbrev pub invariant-loop-line : goal.invariant-loop-line
invariant-loop-line l = HasRead 4 (λ n. entry_in l.version) end_line l.text l.found.items l.rest

abbrev pub decreases-loop-line : goal.decreases-loop-line
decreases-loop-line l = length l.rest

use Rattle.std.proofs.Common.{◌≡◌, length}
use Rattle.rank_papers.specs.Meaning.Report.{trimmed}
use Rattle.rank_papers.proofs.row.trimmed.Given as goal

-- what is left is trimmed to the same text
abbrev pub invariant-loop-rest : goal.invariant-loop-rest
invariant-loop-rest l = trimmed l.rest ≡ trimmed l.fn.text

-- and it is shorter each time
abbrev pub decreases-loop-rest : goal.decreases-loop-rest
decreases-loop-rest l = length l.rest

use Rattle.std.proofs.Common.{◌≡◌, List, take, map, None}
use Rattle.ghcn_series.specs.Series.{Data}
use Rattle.rank_query.specs.Meaning.Asked.{Query}
use Rattle.rank_scores.specs.declared.candidate.Candidate.{Candidate}
use Rattle.rank_scores.specs.Morsels.{morsels}
use Rattle.rank_papers.specs.Certificate.{count_of}
use Rattle.rank_check.specs.Survey.{top}
use Rattle.rank_check.specs.Tests.{entry_tests}
use Rattle.rank_check.proofs.Failing.{first_of}
use Rattle.rank_check.proofs.lines.lines_fault.Given as goal

-- no line so far fails a test
abbrev pub invariant-loop-place : goal.invariant-loop-place
invariant-loop-place l =
    (rows : List Candidate) → l.wanted ≡ map (count_of rows) l.lines
    → (q : Query) (c : Data) → l.tops ≡ map (top q) (morsels q c)
    → first_of (entry_tests q c l.kth rows l.counts) 1 (take l.place l.lines) ≡ None

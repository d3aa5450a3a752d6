use Rattle.std.proofs.Common.{◌≡◌, take, map, None}
use Rattle.ghcn_series.specs.Series.{Data}
use Rattle.rank_query.specs.Meaning.Asked.{Query}
use Rattle.rank_papers.specs.ReportLines.{named_in}
use Rattle.rank_papers.specs.Papers.{candidates_of}
use Rattle.rank_check.specs.Survey.{AreFindings}
use Rattle.rank_check.specs.Tests.{row_tests}
use Rattle.rank_check.proofs.Failing.{first_of}
use Rattle.rank_check.proofs.rows.rows_fault.Given as goal

-- no row so far fails a test
abbrev pub invariant-loop-place : goal.invariant-loop-place
invariant-loop-place l =
    (q : Query) → (c : Data) → l.stations ≡ c.stations → AreFindings q c (candidates_of l.rows) l.found
    → first_of (row_tests q c (map named_in l.rows)) 1 (take l.place (map named_in l.rows)) ≡ None

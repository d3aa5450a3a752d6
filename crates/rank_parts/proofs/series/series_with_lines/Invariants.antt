use Rattle.rank_parts.proofs.Walks.{Walked}
use Rattle.rank_parts.proofs.series.series_with_lines.Given as goal

-- that many of the stations so far have a morsel, and each of these has a line
abbrev pub invariant-loop-place : goal.invariant-loop-place
invariant-loop-place l = Walked l.query l.dataset l.lines l.series l.place

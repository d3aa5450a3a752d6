use Rattle.std.proofs.Common.{◌≡◌, map, take}
use Rattle.rank_papers.specs.StationRows.{count_in}
use Rattle.rank_papers.proofs.station_rows.counts_in.Given as goal

-- those of the lines so far
abbrev pub invariant-loop-line : goal.invariant-loop-line
invariant-loop-line l = l.found.items ≡ map (count_in l.ids) (take l.line-index l.lines)

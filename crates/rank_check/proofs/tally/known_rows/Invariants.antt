use Rattle.std.proofs.Common.{◌≡◌, take, map}
use Rattle.rank_check.specs.Marks.{known}
use Rattle.rank_check.proofs.tally.known_rows.Given as goal

-- the rows so far
abbrev pub invariant-loop-row : goal.invariant-loop-row
invariant-loop-row l = l.found.items ≡ map (known l.marks) (take l.row-index l.rows)

use Rattle.rank_parts.proofs.Cited.{◌≡◌, take, map, named_in, rows_with}
use Rattle.rank_parts.proofs.rows.rows_of.Given as goal

-- those of the rows so far
abbrev pub invariant-loop-row : goal.invariant-loop-row
invariant-loop-row l = map named_in l.own.items ≡ rows_with l.id (map named_in (take l.row-index l.rows))

use Rattle.std.proofs.Common.{take}
use Rattle.rank_check.specs.Survey.{IsLast}
use Rattle.rank_check.proofs.tally.last_of.Given as goal

-- no row so far comes after
abbrev pub invariant-loop-row : goal.invariant-loop-row
invariant-loop-row l = IsLast l.last (take l.row-index l.rows)

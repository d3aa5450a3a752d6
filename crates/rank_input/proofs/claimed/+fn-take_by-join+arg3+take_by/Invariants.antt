use Rattle.std.proofs.Common.{◌+◌, ◌*◌}
use Rattle.rank_input.proofs.claimed.+fn-take_by-join+arg3+take_by.Given as goal

-- the other readers are fewer
abbrev pub decreases-join+arg3 : goal.decreases-join+arg3
decreases-join+arg3 g l = 2 * l.others + 1

-- there are that many readers
abbrev pub decreases-take_by : goal.decreases-take_by
decreases-take_by g l = 2 * l.readers

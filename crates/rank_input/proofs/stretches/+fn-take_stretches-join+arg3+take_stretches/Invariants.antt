use Rattle.std.proofs.Common.{◌+◌, ◌*◌}
use Rattle.rank_input.proofs.stretches.+fn-take_stretches-join+arg3+take_stretches.Given as goal

-- there is one share less than the caller's
abbrev pub decreases-join+arg3 : goal.decreases-join+arg3
decreases-join+arg3 g l = 2 * l.before + 1

-- there are that many shares
abbrev pub decreases-take_stretches : goal.decreases-take_stretches
decreases-take_stretches g l = 2 * l.shares

use Rattle.std.proofs.Common.{◌+◌, ◌*◌}
use Rattle.rank_input.proofs.shares.+fn-sizes_by-join+arg2+fn-sizes_by-join+arg3+sizes_by.Given as goal

-- fewer threads than all look at the last paths
abbrev pub decreases-join+arg2 : goal.decreases-join+arg2
decreases-join+arg2 g l = 2 * l.after + 1

-- and at those before them
abbrev pub decreases-join+arg3 : goal.decreases-join+arg3
decreases-join+arg3 g l = 2 * l.before + 1

-- there are that many threads
abbrev pub decreases-sizes_by : goal.decreases-sizes_by
decreases-sizes_by g l = 2 * l.threads

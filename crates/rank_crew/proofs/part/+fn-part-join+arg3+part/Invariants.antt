use Rattle.std.proofs.Common.{◌+◌, ◌*◌}
use Rattle.rank_crew.proofs.part.+fn-part-join+arg3+part.Given as goal

-- a group has one worker less than its caller's
abbrev pub decreases-join+arg3 : goal.decreases-join+arg3
decreases-join+arg3 g l = 2 * l.last + 1

-- a group is as large as its workers are many
abbrev pub decreases-part : goal.decreases-part
decreases-part g l = 2 * l.workers

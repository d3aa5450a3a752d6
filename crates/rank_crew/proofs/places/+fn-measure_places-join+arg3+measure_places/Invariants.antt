use Rattle.std.proofs.Common.{◌+◌, ◌*◌}
use Rattle.rank_crew.proofs.places.+fn-measure_places-join+arg3+measure_places.Given as goal

-- a group has one worker less than its caller's
abbrev pub decreases-join+arg3 : goal.decreases-join+arg3
decreases-join+arg3 g l = 2 * l.last + 1

-- a group is as large as its workers are many
abbrev pub decreases-measure_places : goal.decreases-measure_places
decreases-measure_places g l = 2 * l.workers

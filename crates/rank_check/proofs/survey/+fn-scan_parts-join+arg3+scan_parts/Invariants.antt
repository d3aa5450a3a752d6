use Rattle.std.proofs.Common.{◌+◌, ◌*◌}
use Rattle.rank_check.proofs.survey.+fn-scan_parts-join+arg3+scan_parts.Given as goal

-- there is one worker less than the caller's
abbrev pub decreases-join+arg3 : goal.decreases-join+arg3
decreases-join+arg3 g l = 2 * l.less + 1

-- there are that many workers
abbrev pub decreases-scan_parts : goal.decreases-scan_parts
decreases-scan_parts g l = 2 * l.workers

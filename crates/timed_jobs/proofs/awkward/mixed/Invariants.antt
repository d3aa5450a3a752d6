use Rattle.std.proofs.Common.{length}
use Rattle.timed_jobs.proofs.awkward.mixed.Given as goal

-- each line leaves fewer bytes
abbrev pub decreases-loop-line : goal.decreases-loop-line
decreases-loop-line l = length l.left

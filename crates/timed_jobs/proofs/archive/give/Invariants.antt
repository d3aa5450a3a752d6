use Rattle.std.proofs.Common.{length}
use Rattle.rank_input.specs.Takes.{HasTakenSome}
use Rattle.timed_jobs.proofs.archive.give.Given as goal

-- each piece leaves fewer bytes
abbrev pub decreases-loop-piece : goal.decreases-loop-piece
decreases-loop-piece g l = length l.left

-- something was taken
abbrev pub invariant-loop-piece : goal.invariant-loop-piece
invariant-loop-piece g l = HasTakenSome g.L.LineReader.has_read l.intake

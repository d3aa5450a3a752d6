use Rattle.rank_input.specs.Taken.{HasTakenSome}
use Rattle.timed_jobs.proofs.awkward.rank_small_files.Given as goal

-- something was taken
abbrev pub invariant-loop-place : goal.invariant-loop-place
invariant-loop-place g l = HasTakenSome l.question

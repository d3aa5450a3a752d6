use Rattle.rank_input.specs.Taken.{HasTakenSome}
use Rattle.timed_jobs.proofs.place.ask_about_one.Given as goal

-- something was taken
abbrev pub invariant-loop-behind : goal.invariant-loop-behind
invariant-loop-behind g l = HasTakenSome l.question

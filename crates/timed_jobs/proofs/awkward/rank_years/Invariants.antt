use Rattle.rank_input.specs.Taken.{HasTakenSome}
use Rattle.timed_jobs.proofs.awkward.rank_years.Given as goal

-- something was taken
abbrev pub invariant-loop-year : goal.invariant-loop-year
invariant-loop-year g l = HasTakenSome l.question

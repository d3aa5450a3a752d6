use Rattle.rank_input.specs.Takes.{HasTakenSome}
use Rattle.timed_jobs.proofs.archive.give_archive.Given as goal

-- something was taken
abbrev pub invariant-loop-place : goal.invariant-loop-place
invariant-loop-place g l = HasTakenSome g.L.LineReader.has_read l.intake

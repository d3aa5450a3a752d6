use Rattle.rank_sched.proofs.Cited.{◌≡◌, replicate, Idle}
use Rattle.rank_sched.proofs.machine.idle_turns.Given as goal

-- the turns so far are idle
abbrev pub invariant-loop : goal.invariant-loop
invariant-loop l = l.made.items ≡ replicate l.counter Idle

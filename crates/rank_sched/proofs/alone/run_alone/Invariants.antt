use Rattle.rank_sched.proofs.Cited.{Claim}
use Rattle.rank_sched.proofs.LoneWorker.{Awaits}
use Rattle.rank_sched.proofs.alone.run_alone.Given as goal

-- the worker has had its turn at the morsels so far
abbrev pub invariant-loop : goal.invariant-loop
invariant-loop l = Awaits l.plan l.fn.guess l.counter (Claim 0) l.machine

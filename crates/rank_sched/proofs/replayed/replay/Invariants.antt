use Rattle.rank_sched.proofs.Cited.{take, IsReplayed}
use Rattle.rank_sched.proofs.replayed.replay.Given as goal

-- the events so far were accepted
abbrev pub invariant-loop-accepted : goal.invariant-loop-accepted
invariant-loop-accepted l = IsReplayed l.plan l.workers l.fn.guess (take l.accepted l.events) l.machine

use Rattle.rank_sched.proofs.Cited.{arith}
use Rattle.rank_sched.proofs.Workers.{turns_stopped, not_failed}
use Rattle.rank_sched.proofs.machine.Machine.stopped.Goals as goal

-- the workers have stopped if their turns have
pub returns-then-not-self : goal.returns-then-not-self
returns-then-not-self c = grind (arith, turns_stopped, not_failed)

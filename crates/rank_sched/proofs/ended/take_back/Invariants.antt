use Rattle.rank_sched.proofs.Cited.{length, task_of}
use Rattle.rank_sched.proofs.Ending.{IsBefore}
use Rattle.rank_sched.proofs.ended.take_back.Given as goal

-- the skips of the morsels so far were tried
abbrev pub invariant-loop-morsel : goal.invariant-loop-morsel
invariant-loop-morsel l = IsBefore (task_of l.plan) l.records l.morsel (length l.plan.morsels) l.skips.items l.pool

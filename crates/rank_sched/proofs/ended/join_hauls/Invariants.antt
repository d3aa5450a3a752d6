use Rattle.rank_sched.proofs.Cited.{◌≡◌, ◌++◌, AllByRecursion, into_iter_items, task_of, pool_of, all_records}
use Rattle.rank_sched.proofs.Ending.{HasOwnPool}
use Rattle.rank_sched.proofs.ended.join_hauls.Given as goal

-- the hauls so far were gathered, and those to come have pools of their own
abbrev pub invariant-loop-haul : goal.invariant-loop-haul
invariant-loop-haul l = record {
  own : AllByRecursion (HasOwnPool (task_of l.plan)) (into_iter_items l.haul-iterator);
  records : l.all.items ++ all_records (into_iter_items l.haul-iterator) ≡ all_records l.fn.hauls.items;
  pool : l.best ≡ pool_of (task_of l.plan) l.all.items;
}

use Rattle.rank_sched.proofs.Cited.{sym, ap, ◌∙◌, arith, task_of, pool_of}
use Rattle.rank_sched.proofs.Ending.{own_pools, new_pool, own_parts, records_more, merged}
use Rattle.rank_sched.proofs.ended.join_hauls.Goals as goal

-- at first all hauls are to come
pub loop-haul-init : goal.loop-haul-init
loop-haul-init c = grind (arith, own_pools, new_pool)

-- one haul more is gathered
pub loop-haul-preserved : goal.loop-haul-preserved
loop-haul-preserved c =
    let t = task_of c.args.plan.now in
    let step = c.in-Some.ensures.steps.0 in
    let parts = own_parts t c.in-Some.haul _ _ step c.loop-haul.invariant.own in
    record {
      own = parts.1;
      records = records_more c.loop-haul.all.items _ _ c.in-Some.haul _ _ c.in_ok-append.ensures.items
          step c.loop-haul.invariant.records;
      pool = merged t c.loop-haul.best c.in-Some.haul.pool _ c.loop-haul.all.items c.in-Some.haul.records.items
          c.loop-haul.invariant.pool parts.0.own c.merge.ensures.taken c.merge.ensures.all
          ∙ ap (pool_of t) (sym c.in_ok-append.ensures.items);
    }

use Rattle.rank_sched.proofs.Cited.{◌<◌, ◌≤◌, length, arith, IfOk-weaker}
use Rattle.rank_sched.proofs.LoneWorker.{awaits_first, awaits_look, awaits_settle, awaits_claim, last_claim, lone_sound}
use Rattle.rank_sched.proofs.LoneWorker.{lone_records, lone_answer}
use Rattle.rank_sched.proofs.PlanBest.{best_of_answer}
use Rattle.rank_sched.proofs.alone.run_alone.Goals as goal

-- at the start the worker claims
pub loop-init : goal.loop-init
loop-init c = grind (arith, awaits_first)

-- each turn's claim is awaited
pub advance-requires : goal.advance-requires
advance-requires c = c.loop.invariant.accepted

-- then it looks
pub advance-requires-in-loop : goal.advance-requires-in-loop
advance-requires-in-loop c =
    let few : c.loop.counter < length c.args.plan.now.morsels = omega arith in
    (awaits_look c.args.plan.now c.args.guess c.loop.counter _ _ few c.loop.invariant
    c.in_ok-advance.ensures).accepted

-- then it settles
pub advance-requires-in-loop-2 : goal.advance-requires-in-loop-2
advance-requires-in-loop-2 c =
    let few : c.loop.counter < length c.args.plan.now.morsels = omega arith in
    let looked = awaits_look c.args.plan.now c.args.guess c.loop.counter _ _ few c.loop.invariant
    c.in_ok-advance.ensures in
    (awaits_settle c.args.plan.now c.args.guess _ _ _ looked c.in_ok-advance-2.ensures).accepted

-- then it claims again
pub loop-preserved : goal.loop-preserved
loop-preserved c =
    let few : c.loop.counter < length c.args.plan.now.morsels = omega arith in
    let looked = awaits_look c.args.plan.now c.args.guess c.loop.counter _ _ few c.loop.invariant
    c.in_ok-advance.ensures in
    let settled = awaits_settle c.args.plan.now c.args.guess _ _ _ looked c.in_ok-advance-2.ensures in
    awaits_claim c.args.plan.now c.args.guess _ _ _ settled c.in_ok-advance-3.ensures

-- the last claim is awaited
pub advance-requires-2 : goal.advance-requires-2
advance-requires-2 c = c.loop.invariant.accepted

-- the last claim stops it
pub hauls-requires : goal.hauls-requires
hauls-requires c =
    let past : length c.args.plan.now.morsels ≤ c.loop.counter = omega arith in
    last_claim c.args.plan.now c.args.guess c.loop.counter _ _ c.loop.invariant c.in_ok-advance-4.ensures past

-- the worker's haul is sound
pub finish-requires : goal.finish-requires
finish-requires c = grind (arith, lone_sound)

-- the answer is that of a crew of one, and its best are the query's
pub returns : goal.returns
returns c =
    let past : length c.args.plan.now.morsels ≤ c.loop.counter = omega arith in
    record {
      answer = IfOk-weaker c.finish.result _ _ (λ answer is. lone_answer c.args.plan.now c.args.guess c.loop.counter _ _
          c.loop.invariant c.in_ok-advance-4.ensures c.hauls.result.items answer c.hauls.ensures.hauls
          c.hauls.ensures.sound c.hauls.ensures.under_floor is) c.finish.ensures;
      alone = IfOk-weaker c.finish.result _ _ (λ answer is. lone_records c.args.plan.now c.args.guess c.loop.counter _ _
          c.loop.invariant c.in_ok-advance-4.ensures c.hauls.result.items answer past c.hauls.ensures.hauls is)
          c.finish.ensures;
      best = best_of_answer c.args.plan.now _ c.finish.result c.finish.ensures;
    }

use Rattle.rank_sched.proofs.Cited.{rules, ◌≡◌, map, answers_always, planned_morsel}
use Rattle.rank_sched.specs.Plan as plan
use Rattle.rank_sched.proofs.PlanOrder.{strictly, strictly_ranks}
use Rattle.rank_sched.proofs.PlanMade.{sort-planned}
use Rattle.rank_sched.proofs.plan.Plan.in_turn.Goals as goal

-- a plan with the sorted morsels is the plan of its query over the data
pub invariant_of-result : goal.invariant_of-result
invariant_of-result c =
    let up = c.sort_unstable_by.ensures.sorted (strictly planned_morsel) (strictly_ranks planned_morsel)
    (answers_always _ _ _ (λ f a r g called. search rules)) in
    let same : map planned_morsel c.sort_unstable_by.new.self.items ≡
    (plan.planned c.args.query.now c.args.dataset.now).morsels =
    sort-planned c.args.query.now c.args.dataset.now planned_morsel c.args.morsels.items
    c.sort_unstable_by.new.self.items c.requires.contents c.requires.morsels c.sort_unstable_by.ensures.permutation up in
    record {
      asked = c.requires.asked;
      dataset = c.args.dataset.now;
      right = c.requires.contents;
      plan = cc;
    }

-- the sorted morsels are the plan's
pub returns : goal.returns
returns c =
    let up = c.sort_unstable_by.ensures.sorted (strictly planned_morsel) (strictly_ranks planned_morsel)
    (answers_always _ _ _ (λ f a r g called. search rules)) in
    let same : map planned_morsel c.sort_unstable_by.new.self.items ≡
    (plan.planned c.args.query.now c.args.dataset.now).morsels =
    sort-planned c.args.query.now c.args.dataset.now planned_morsel c.args.morsels.items
    c.sort_unstable_by.new.self.items c.requires.contents c.requires.morsels c.sort_unstable_by.ensures.permutation up in
    cc

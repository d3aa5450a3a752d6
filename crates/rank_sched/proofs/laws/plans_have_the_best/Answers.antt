use Rattle.rank_sched.proofs.PlanBest.{plan_has_best}
use Rattle.rank_sched.proofs.PlanMade.{plan_is_one}
use Rattle.rank_sched.proofs.FairPlans.{plans_fair}
use Rattle.rank_sched.proofs.laws.plans_have_the_best.Goals as goal

-- each law of plans by its lemma
pub returns : goal.returns
returns c = record { one = plan_is_one; fair = plans_fair; best = plan_has_best }

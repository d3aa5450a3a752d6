use Rattle.rank_sched.proofs.Cited.{subst, IsPlan}
use Rattle.rank_sched.proofs.FairPlans.{plans_fair}
use Rattle.rank_sched.proofs.plan.Plan.len.Goals as goal

-- what every plan asks is fair
pub returns-clause-fair : goal.returns-clause-fair
returns-clause-fair c = plans_fair c.args.self.now (subst IsPlan c.self.view_is c.self.invariant)

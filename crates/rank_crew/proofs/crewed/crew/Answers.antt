use Rattle.rank_sched.proofs.PlanBest.{best_of_answer}
use Rattle.rank_crew.proofs.crewed.crew.Goals as goal

-- the best of the plan are those of its query
pub returns-clause-best : goal.returns-clause-best
returns-clause-best g c = best_of_answer c.args.plan.now _ c.finish.result c.finish.ensures

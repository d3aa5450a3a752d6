use Rattle.std.proofs.Common.{subst}
use Rattle.rank_sched.specs.Plan.{Plan}
use Rattle.rank_sched.specs.Task.{task_of}
use Rattle.rank_sched.specs.Hauls.{AreSound}
use Rattle.ranking_tests.proofs.sched.answer_of.Goals as goal

-- the machine's plan is the one that was given
pub finish-requires : goal.finish-requires
finish-requires c =
    subst (λ (p : Plan). AreSound (task_of p) c.hauls.result.items) c.in-Ok.ensures.ok.plan c.hauls.ensures.sound

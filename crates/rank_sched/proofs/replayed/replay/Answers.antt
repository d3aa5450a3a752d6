use Rattle.rank_sched.proofs.Cited.{arith}
use Rattle.rank_sched.proofs.Replays.{replayed-more}
use Rattle.rank_sched.proofs.replayed.replay.Goals as goal

-- one event more was accepted
pub loop-accepted-preserved : goal.loop-accepted-preserved
loop-accepted-preserved c = grind (arith, replayed-more)

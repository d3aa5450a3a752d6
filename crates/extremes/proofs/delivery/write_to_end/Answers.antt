use Rattle.extremes.proofs.Delivering.{more-taken}
use Rattle.extremes.proofs.delivery.write_to_end.Goals as goal

-- what the writer takes goes from the rest to what was given
pub loop-rest-preserved : goal.loop-rest-preserved
loop-rest-preserved g c = more-taken _ _ c.in-Ok.taken _ _ _ c.loop-rest.invariant c.in-Ok.ensures.bytes

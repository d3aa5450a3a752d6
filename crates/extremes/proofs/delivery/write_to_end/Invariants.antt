use Rattle.std.proofs.Common.{length}
use Rattle.extremes.proofs.Delivering.{HasTaken}
use Rattle.extremes.proofs.delivery.write_to_end.Given as goal

-- what is gone from the rest was taken by the writer
abbrev pub invariant-loop-rest : goal.invariant-loop-rest
invariant-loop-rest g l = HasTaken l.text l.rest (g.W.Write.contents l.initial.out) (g.W.Write.contents l.out)

-- each turn takes from the rest
abbrev pub decreases-loop-rest : goal.decreases-loop-rest
decreases-loop-rest g l = length l.rest

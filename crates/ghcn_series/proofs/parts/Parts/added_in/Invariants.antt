use Rattle.ghcn_series.proofs.PartsInOrder.{AreAdded}
use Rattle.ghcn_series.proofs.parts.Parts.added_in.Given as goal

-- the parts so far are added
abbrev pub invariant-loop-number : goal.invariant-loop-number
invariant-loop-number l = AreAdded l.self l.fn.order l.number-index l.ordered

use Rattle.rank_blocks.proofs.Cited.{◌≤ℤ◌}
use Rattle.rank_blocks.proofs.BlockSteps.{IsMostTo}
use Rattle.rank_blocks.proofs.reached.greatest_total.Given as goal

-- if the range has a block, the greatest total is known up to a place
abbrev pub invariant-loop-index : goal.invariant-loop-index
invariant-loop-index l = l.range.first ≤ℤ l.range.last → IsMostTo l.range l.width l.blocks l.index l.greatest

use Rattle.rank_blocks.proofs.BlockSteps.{IsSumTo}
use Rattle.rank_blocks.proofs.reached.window_total.Given as goal

-- the sum is that of the blocks so far
abbrev pub invariant-loop-block : goal.invariant-loop-block
invariant-loop-block l = IsSumTo l.blocks l.window.width l.window.first l.block-index l.total

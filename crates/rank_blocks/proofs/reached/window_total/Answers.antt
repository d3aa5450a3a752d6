use Rattle.rank_blocks.proofs.Cited.{arith, rules, ints}
use Rattle.rank_blocks.proofs.BlockSteps.{sum-bounds, sum-in, sum-out, sum-past}
use Rattle.rank_blocks.proofs.PossibleBlocks.{possible-few}
use Rattle.rank_blocks.proofs.reached.window_total.Goals as goal

-- after the window
pub returns-then-is_before : goal.returns-then-is_before
returns-then-is_before c = search (rules, arith, sum-past)

-- the sum fits
pub sum_of-total-requires : goal.sum_of-total-requires
sum_of-total-requires c = search (rules, arith, possible-few, sum-bounds)

-- with one more block
pub loop-block-preserved : goal.loop-block-preserved
loop-block-preserved c =
    let far = sum-in c.args.blocks.now c.requires c.args.window.width c.args.window.first c.loop-block.block-index
    c.loop-block-test.true _ c.loop-block.invariant in
    let same = sum-out c.args.blocks.now c.requires c.args.window.width c.args.window.first c.loop-block.block-index
    c.loop-block-test.true _ c.loop-block.invariant in
    search (rules, arith, ints)

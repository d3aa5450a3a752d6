use Rattle.rank_blocks.proofs.Cited.{ints, arith, ℤ, Some, sym, ap, ◌∙◌}
use Rattle.rank_blocks.proofs.BlockSteps.{greatest-in, greatest-out, near-read}
use Rattle.rank_blocks.proofs.PossibleBlocks.{possible-at}
use Rattle.rank_blocks.proofs.reached.greatest_day.Goals.{then-is_in, else-is_in}
use Rattle.rank_blocks.proofs.reached.greatest_day.Goals as goal

-- with one more block
pub loop-block-preserved : goal.loop-block-preserved
loop-block-preserved c =
    let lt = c.loop-block-test.true in
    let so_far = c.loop-block.invariant.found in
    elim c.if-is_in.branch [
      | then-is_in w ↦
          let found = w.found-is ∙ ap (λ (z : ℤ). Some z) (near-read _ w.greater.ensures.near) in
          let day = near-read _ (possible-at c.args.blocks.now c.loop-block.block-index lt c.requires).near in
          rw found record {
            found = greatest-in (λ m. m.day) c.args.range c.args.blocks.now c.loop-block.block-index lt _ _
                w.greater.result (sym c.is_in.ensures ∙ w.if-is_in.true) so_far (sym day) w.greater.ensures.greatest;
            near = w.greater.ensures.near;
          }
      | else-is_in w ↦ grind (arith, ints, greatest-out)
    ]

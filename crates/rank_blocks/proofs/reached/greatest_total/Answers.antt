use Rattle.rank_blocks.proofs.Cited.{◌≡◌, ℕ, List, ℤ, sym, ap, ◌∙◌, arith, rules, ints, clamps, Summary}
use Rattle.rank_blocks.proofs.Cited.{summaries_total, ap₂}
use Rattle.rank_blocks.specs.declared.window.Window.{Window}
use Rattle.rank_blocks.proofs.PossibleBlocks.{block_at, possible-drop}
use Rattle.rank_blocks.proofs.BlockSteps.{left-whole, most-in, most-out, most-end}
use Rattle.rank_blocks.proofs.reached.greatest_total.Goals.{then-is_in, else-is_in}
use Rattle.rank_blocks.proofs.reached.greatest_total.Goals as goal

-- the total of a window by its first block and its width
of_window : (ks : List Summary) (w : Window) (first : ℤ) (width : ℕ) → w.first ≡ first → w.width ≡ width
    → summaries_total ks w.width w.first ≡ summaries_total ks width first
of_window ks w first width is_first is_width = grind (arith, ints)

-- the blocks from a place on are possible
pub window_total-requires : goal.window_total-requires
window_total-requires c = search (rules, arith, left-whole, possible-drop)

-- with one more block
pub loop-index-preserved : goal.loop-index-preserved
loop-index-preserved c = λ rises.
    let ms = c.args.blocks.now in
    let i = c.loop-index.index in
    let far = c.loop-index.invariant rises in
    elim c.if-is_in.branch [
      | then-is_in w ↦
          let total = w.window_total.ensures
          ∙ ap₂ (summaries_total _) w.window.ensures.width w.window.ensures.first
          ∙ ap (λ ks. summaries_total ks c.args.width (block_at ms i).number) (left-whole ms i) in
          most-in c.args.range c.args.width ms i _ far c.requires c.loop-index-test.true _
          (w.greatest-is ∙ omega (arith, ints, clamps)) (sym c.is_in.ensures ∙ w.if-is_in.true)
      | else-is_in w ↦ grind (arith, ints, most-out)
    ]

-- after the last block
pub returns : goal.returns
returns c = λ falls rises.
    most-end c.args.range c.args.width c.args.blocks.now c.loop-index.index _ (c.loop-index.invariant rises) falls
    c.loop-index-test.false

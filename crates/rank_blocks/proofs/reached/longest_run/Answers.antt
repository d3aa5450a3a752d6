use Rattle.rank_blocks.proofs.Cited.{rules, ◌≡◌, pos, to_z, w64, sym, ◌∙◌, subst, arith, ints, IsGreatest}
use Rattle.rank_blocks.proofs.PossibleBlocks.{possible-few}
use Rattle.rank_blocks.proofs.RangeRuns.{told-start, told-in, told-out, told-end}
use Rattle.rank_blocks.proofs.reached.longest_run.Goals.{then-is_in, else-is_in}
use Rattle.rank_blocks.proofs.reached.longest_run.Goals as goal

-- before any block
pub loop-block-init : goal.loop-block-init
loop-block-init c = grind (arith, ints, told-start c.args.range c.args.blocks.now)

-- there are few blocks
pub add-runs-requires-clause-room : goal.add-runs-requires-clause-room
add-runs-requires-clause-room c = grind (arith, ints, possible-few c.args.blocks.now c.requires)

-- with one more block
pub loop-block-preserved : goal.loop-block-preserved
loop-block-preserved c =
    let i = c.loop-block.block-index in
    let far = c.loop-block.invariant in
    elim c.if-is_in.branch [
      | then-is_in w ↦
          rw w.runs-is (told-in c.args.range c.args.blocks.now i _ far c.requires c.loop-block-test.true
          w.add-runs.result (sym c.is_in.ensures ∙ w.if-is_in.true) w.add-runs.ensures.runs w.add-runs.ensures.next
          w.add-runs.ensures.room)
      | else-is_in w ↦
          rw w.runs-is (told-out c.args.range c.args.blocks.now i _ far (sym c.is_in.ensures ∙ w.if-is_in.false))
    ]

-- after the last block
pub returns : goal.returns
returns c = λ k s are.
    let is : pos c.loop-block.runs.longest ≡ to_z w64 c.loop-block.runs.longest = omega (arith, ints) in
    subst (IsGreatest _) is (search (rules, arith, ints, told-end))

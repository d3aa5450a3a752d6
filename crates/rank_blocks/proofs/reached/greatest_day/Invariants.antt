use Rattle.rank_blocks.proofs.Cited.{◌≡◌, IfSome, greatest, IsNear}
use Rattle.rank_blocks.proofs.BlockSteps.{made}
use Rattle.rank_blocks.proofs.reached.greatest_day.Given as goal

-- the greatest score of the blocks so far
abbrev pub invariant-loop-block : goal.invariant-loop-block
invariant-loop-block l = record {
  found : greatest (made (λ m. m.day) l.range l.blocks l.block-index) ≡ l.found;
  near : IfSome l.found IsNear;
}

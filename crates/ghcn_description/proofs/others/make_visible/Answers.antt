use Rattle.std.proofs.Common.{length-set, ◌∙◌, arith}
use Rattle.ghcn_description.proofs.ShownText.{shown_more}
use Rattle.ghcn_description.proofs.others.make_visible.Goals as goal

-- one byte more is made visible
pub loop-byte-preserved : goal.loop-byte-preserved
loop-byte-preserved c =
    let so_far = c.loop-byte.invariant in
    let more = shown_more c.loop-byte.byte-items c.args.text.now c.loop-byte.byte-index c.visible.result
    (omega (arith, so_far.many)) so_far.many so_far.printed so_far.left c.visible.ensures in
    record {
      many = length-set c.loop-byte.byte-items c.loop-byte.byte-index _ ∙ so_far.many;
      printed = more.0;
      left = more.1;
    }

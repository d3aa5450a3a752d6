use Rattle.ghcn_series.proofs.Cited.{◌∙◌, arith, length_push}
use Rattle.ghcn_series.proofs.BlockExtremes.{extremes-more}
use Rattle.ghcn_series.proofs.columns.extremes_of.Goals as goal

-- with those of one more block
pub loop-place-preserved : goal.loop-place-preserved
loop-place-preserved c =
    let so_far = c.loop-place.invariant in
    rw c.in_ok-push.ensures.items (record {
      size = length_push c.loop-place.extremes.items c.of.result ∙ omega (arith, so_far.size);
      each = extremes-more c.args.words.now c.args.values.now c.loop-place.extremes.items c.of.result so_far.each
          (rw so_far.size c.of.ensures);
    })

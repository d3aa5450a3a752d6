use Rattle.ghcn_series.proofs.Cited.{ints, get_or, pos, to_z, SFits, w32, sym, ◌∙◌, arith, rules, trailing_zeros}
use Rattle.ghcn_series.proofs.Cited.{to_z-of_z, length-set, bit_at-trailing_zeros, shr_and_one, StandsFor}
use Rattle.ghcn_series.proofs.BlockExtremes.{row-more}
use Rattle.ghcn_series.proofs.extremes.usable_alone.Goals as goal

-- the value of the first usable day
pub loop-place-init : goal.loop-place-init
loop-place-init c =
    let lowest = bit_at-trailing_zeros w32 c.args.word c.requires c.ranges.word.fits in
    let fits : SFits w32 (get_or c.args.values.now (trailing_zeros w32 c.args.word) (pos 0)) = search rules in
    record {
      size = c.told-values;
      first = (trailing_zeros w32 c.args.word, lowest.0, lowest.1, sym (to_z-of_z w32 _ fits));
      filled = λ j lt. absurd (omega arith);
    }

-- with one more place
pub loop-place-preserved : goal.loop-place-preserved
loop-place-preserved c =
    let fits : SFits w32 (get_or c.args.values.now c.loop-place.place (pos 0)) = search rules in
    let p = c.loop-place.place in
    let so_far = c.loop-place.invariant in
    let here : StandsFor c.args.word c.args.values.now p (to_z w32 c.if-word-place-eq1.row-bits) =
    grind (arith, ints, shr_and_one c.args.word p, c.if-word-place-eq1.branch, so_far.first) in
    record {
      size = length-set c.loop-place.row p _ ∙ so_far.size;
      first = so_far.first;
      filled = row-more c.args.word c.args.values.now c.loop-place.row p _ (omega arith) here so_far.filled;
    }

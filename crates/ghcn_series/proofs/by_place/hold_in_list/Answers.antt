use Rattle.ghcn_series.proofs.Cited.{ap, set, ◌∙◌, Series}
use Rattle.std.proofs.lemmas.List.{set-get_or}
use Rattle.ghcn_series.proofs.by_place.hold_in_list.Goals as goal

-- the series is what it was
pub loop-place-preserved : goal.loop-place-preserved
loop-place-preserved c =
    let all = c.loop-place.series.items in let p = c.loop-place.place in
    ap (λ (s : Series). set all p s) (c.hold_extremes.ensures ∙ c.index_mut.ensures.value)
    ∙ set-get_or all p c.index_mut.result.now ∙ c.loop-place.invariant

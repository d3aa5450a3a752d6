use Rattle.ghcn_series.proofs.Cited.{ap, ◌∙◌}
use Rattle.std.proofs.Math.Seq.{map-set_same}
use Rattle.ghcn_series.proofs.by_place.hold_in_lists.Goals as goal

-- the list has the series that it had
pub loop-place-preserved : goal.loop-place-preserved
loop-place-preserved c =
    map-set_same (λ s. s.items) c.loop-place.lists.items c.loop-place.place c.hold_in_list.new.series
    c.index_mut.result.now (c.hold_in_list.ensures ∙ ap (λ s. s.items) c.index_mut.ensures.value)
    ∙ c.loop-place.invariant

-- and so it does if memory runs out
pub returns-in_err-hold_in_list : goal.returns-in_err-hold_in_list
returns-in_err-hold_in_list c =
    map-set_same (λ s. s.items) c.loop-place.lists.items c.loop-place.place c.hold_in_list.new.series
    c.index_mut.result.now (c.hold_in_list.ensures ∙ ap (λ s. s.items) c.index_mut.ensures.value)
    ∙ c.loop-place.invariant

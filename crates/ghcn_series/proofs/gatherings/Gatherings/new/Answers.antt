use Rattle.ghcn_series.proofs.Cited.{◌≡◌, length, ap, ◌∙◌, by_place}
use Rattle.ghcn_series.proofs.PlacedStations.{zeros, none_by_place}
use Rattle.ghcn_series.proofs.gatherings.Gatherings.new.Goals as goal

-- nothing is gathered
pub returns-clause-nothing : goal.returns-clause-nothing
returns-clause-nothing c =
    let none : c.in_ok-vec.field-0.items ≡ zeros (length c.args.stations.now) =
    c.in_ok-vec.ensures.items_if_clones_equal (λ y is. is) ∙ ap zeros c.len-number.ensures.number in
    ap (λ ns. by_place c.new.result.items ns) none
    ∙ ap (λ held. by_place held (zeros (length c.args.stations.now))) c.new.ensures.items
    ∙ none_by_place c.args.stations.now

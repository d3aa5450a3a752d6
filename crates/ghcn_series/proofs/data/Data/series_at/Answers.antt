use Rattle.ghcn_series.proofs.Cited.{refl, ap, ◌∙◌, slice_get, Data}
use Rattle.ghcn_series.proofs.SeriesPlaces.{found-at, at_place}
use Rattle.ghcn_series.proofs.data.Data.series_at.Goals as goal

-- the list at a place has the series of the station there
pub returns : goal.returns
returns c =
    let held = c.self.invariant in let lists = c.self.inside.series in
    c.at.ensures
    ∙ found-at c.args.element c.self.inside.stations lists c.args.place (slice_get lists c.args.place)
    held.listed.distinct held.own refl
    ∙ ap (λ (all : Data). at_place all c.args.element c.args.place) c.self.view_is

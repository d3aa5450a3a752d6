use Rattle.ghcn_series.proofs.Cited.{◌≡◌, Some, sym, ap, ◌∙◌, option_copied, none-some}
use Rattle.std.specs.Prelude.{slice_get}
use Rattle.ghcn_series.proofs.Places.{station_there}
use Rattle.ghcn_series.proofs.gatherings.series_of.Goals as goal

-- the station is there
pub unreachable-requires : goal.unreachable-requires
unreachable-requires c =
    let there = station_there c.args.stations.now c.args.gathered.place c.requires.listed in
    none-some there.0 (sym (rw c.place.ensures at (sym c.at.ensures ∙ ap option_copied c.in-None.is)) ∙ there.1)

-- the series have its ID
pub returns : goal.returns
returns c =
    let here : slice_get c.args.stations.now c.args.gathered.place ≡ Some c.in-Some.station.now =
    ap (slice_get c.args.stations.now) (sym c.place.ensures) ∙ sym c.at.ensures ∙ ap option_copied c.in-Some.is in
    rw here c.into_series.ensures

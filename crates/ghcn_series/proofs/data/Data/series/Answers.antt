use Rattle.ghcn_series.proofs.Cited.{ℕ, sym, ap, ◌∙◌, arith, option_copied, place_of, Data, series_of}
use Rattle.ghcn_series.proofs.SeriesPlaces.{none-unlisted, at_place, listed-at}
use Rattle.ghcn_series.proofs.data.Data.series.Goals as goal

-- a station that isn't listed has no series
pub returns-in_err-place : goal.returns-in_err-place
returns-in_err-place c =
    let held = c.self.invariant in
    ap option_copied c.from_residual.ensures
    ∙ none-unlisted c.args.id.now c.args.element c.self.inside.stations _ held.listed.distinct held.own
    (sym c.place.ensures ∙ c.in_err-place.was)
    ∙ ap (λ (all : Data). series_of all c.args.id.now c.args.element) c.self.view_is

-- a listed one has those at its place
pub returns : goal.returns
returns c =
    let place = ap (λ (all : Data). place_of all.stations c.args.id.now) (sym c.self.view_is)
    ∙ sym c.place.ensures ∙ c.in_ok-place.was in
    c.series_at.ensures ∙ ap (λ (k : ℕ). at_place c.args.self.now c.args.element k) (omega arith)
    ∙ listed-at c.args.self.now c.args.id.now c.args.element c.in_ok-place.field-0 place

use Rattle.ghcn_series.proofs.Cited.{◌≡◌, false, refl, sym, ap, ◌∙◌, IfOk-weaker, filter_map, place_of, is_listed}
use Rattle.ghcn_series.proofs.Cited.{month_on}
use Rattle.ghcn_series.proofs.MonthRows.{for-own}
use Rattle.ghcn_series.proofs.Places.{unlisted-is}
use Rattle.ghcn_series.proofs.ReadMonths.{read-listed, read-unlisted, within_gathered, own_months}
use Rattle.ghcn_series.proofs.reader.Reader.add_month.Goals as goal

-- a listed station has its gatherings
pub add-requires-clause-within : goal.add-requires-clause-within
add-requires-clause-within c =
    within_gathered _ c.args.self.now c.args.row.now.id c.in-Some.place c.requires.read.1.months
    (sym c.place.ensures ∙ c.in-Some.is)

-- which have what was read of it
pub add-requires-clause-gathered : goal.add-requires-clause-gathered
add-requires-clause-gathered c = (
  filter_map month_on c.requires.read.0,
  own_months _ c.args.self.now c.args.row.now.id c.in-Some.place c.requires.read.1.months
      (sym c.place.ensures ∙ c.in-Some.is),
)

-- a month of a listed station is added to its own
pub returns-in-Some-clause-added : goal.returns-in-Some-clause-added
returns-in-Some-clause-added c = IfOk-weaker c.add.result _ _ (λ added adds m right of.
    let place = ap (place_of c.args.self.now.stations) (sym (for-own _ m c.args.row.now of).0) ∙ sym c.place.ensures
    ∙ c.in-Some.is in
    read-listed c.args.self.now _ m c.in-Some.place added place (adds m right of) refl refl refl right) c.add.ensures

-- a month of another station is counted
pub returns-in-None-clause-added : goal.returns-in-None-clause-added
returns-in-None-clause-added c = λ m right of. let own = sym (for-own _ m c.args.row.now of).0 in
    let none : is_listed c.args.self.now.stations m.id ≡ false = unlisted-is c.args.self.now.stations m.id
    (ap (place_of c.args.self.now.stations) own ∙ sym c.place.ensures ∙ c.in-None.is) in
    read-unlisted c.args.self.now _ m none refl refl refl c.saturating_add-self.ensures right

use Rattle.ghcn_series.proofs.Cited.{ℕ, [], List, get_or, ap, sym, ◌∙◌, subst, set, on_ok_weaker, Gathering}
use Rattle.ghcn_series.proofs.Cited.{GatheredByPlace, TurnsTo}
use Rattle.ghcn_series.proofs.HeldStations.{five_if, none_if, turned, turned-new}
use Rattle.ghcn_series.proofs.gatherings.Gatherings.open.Goals as goal

-- a station that is held has five gatherings
pub returns-then-holds-clause-number : goal.returns-then-holds-clause-number
returns-then-holds-clause-number c =
    five_if c.self.inside.numbers.items c.self.inside.held.items c.args.place c.args.self.now.stations
    (ap (λ (v : GatheredByPlace). v.stations) c.self.view_is) c.self.invariant.placed
    (sym c.holds.ensures ∙ c.if-holds.true)

-- which have what it had
pub returns-then-holds-clause-opens : goal.returns-then-holds-clause-opens
returns-then-holds-clause-opens c =
    turned c.args.place c.args.self.now.stations (returns-then-holds-clause-number c)

-- so has one that gets them
pub returns-clause-opens : goal.returns-clause-opens
returns-clause-opens c =
    let olds = c.args.self.now.stations in let five = c.in_ok-station.station.by_element.items in
    let view = ap (λ (v : GatheredByPlace). v.stations) c.self.view_is in
    on_ok_weaker c.hold.result (λ is.
    let put = is ∙ ap (λ (us : List (List Gathering)). set us c.in_ok-station.station.place five) view
    ∙ ap (λ (k : ℕ). set olds k five) c.in_ok-station.ensures.place in
    subst (TurnsTo c.args.place olds) (sym put)
    (turned-new c.args.place olds five c.requires (none_if (get_or olds c.args.place [])
    (sym c.holds.ensures ∙ c.if-holds.false)) c.in_ok-station.ensures.nothing)) c.hold.ensures

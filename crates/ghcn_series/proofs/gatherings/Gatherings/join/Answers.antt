use Rattle.ghcn_series.proofs.Cited.{[], List, get_or, sym, ap, ◌∙◌, subst, arith, into_iter_items, nil_from_length}
use Rattle.ghcn_series.proofs.Cited.{Gathering, GatheredByPlace}
use Rattle.ghcn_series.proofs.HeldStations.{none_if, some_if}
use Rattle.ghcn_series.proofs.JoinedStations.{AreTaken, none_taken, next_within, next_five, one_taken, one_not_taken}
use Rattle.ghcn_series.proofs.JoinedStations.{all_taken}
use Rattle.ghcn_series.proofs.gatherings.Gatherings.join.Goals as goal

-- no station has been taken over yet
pub loop-station-init : goal.loop-station-init
loop-station-init c =
    subst (λ (others : List (List Gathering)). AreTaken c.args.self.now.stations others c.args.self.now.stations
    (into_iter_items c.into_iter-station-iterator.result)) (ap (λ (v : GatheredByPlace). v.stations) c.next.view_is)
    (none_taken c.args.self.now.stations c.next.inside.numbers.items c.next.inside.held.items _
    c.next.invariant.placed c.into_iter-station-iterator.ensures.into_iter_gives.0)

-- the next is one of the list
pub holds-requires : goal.holds-requires
holds-requires c =
    let within = next_within _ _ _ c.in-Some.station _ _ c.loop-station.invariant c.in-Some.ensures.steps.0
    c.requires in omega (arith, c.place.ensures, within)

-- it may have months in both
pub returns-then-holds-clause-apart : goal.returns-then-holds-clause-apart
returns-then-holds-clause-apart c =
    let news = c.loop-station.self.stations in
    one_not_taken _ _ news c.in-Some.station _ _ c.loop-station.invariant c.in-Some.ensures.steps.0 c.requires
    (some_if (get_or news c.in-Some.station.place []) (rw c.place.ensures at (sym c.holds.ensures ∙ c.if-holds.true)))

-- or it is held now
pub hold-requires-clause-within : goal.hold-requires-clause-within
hold-requires-clause-within c =
    next_within _ _ _ c.in-Some.station _ _ c.loop-station.invariant c.in-Some.ensures.steps.0 c.requires

pub hold-requires-clause-none : goal.hold-requires-clause-none
hold-requires-clause-none c = none_if (get_or c.loop-station.self.stations c.in-Some.station.place [])
    (rw c.place.ensures at (sym c.holds.ensures ∙ c.if-holds.false))

pub hold-requires-clause-number : goal.hold-requires-clause-number
hold-requires-clause-number c = next_five _ _ _ c.in-Some.station _ _ c.loop-station.invariant c.in-Some.ensures.steps.0

-- so it has been taken over
pub loop-station-preserved : goal.loop-station-preserved
loop-station-preserved c =
    let news = c.loop-station.self.stations in
    let none = none_if (get_or news c.in-Some.station.place [])
    (rw c.place.ensures at (sym c.holds.ensures ∙ c.if-holds.false)) in
    rw c.in_ok-hold.ensures
    (one_taken _ _ news c.in-Some.station _ _ c.loop-station.invariant c.in-Some.ensures.steps.0 c.requires none)

-- and in the end all have been
pub returns-clause-joined : goal.returns-clause-joined
returns-clause-joined c = all_taken _ _ _ _ c.loop-station.invariant
    (nil_from_length _ (sym c.loop-station.station-iterator.rest.ok.0 ∙ c.in-None.ensures.steps.0))

use Rattle.ghcn_series.proofs.Cited.{ap, on_ok_weaker, GatheredByPlace, by_place}
use Rattle.ghcn_series.proofs.PlacedStations.{placed-set}
use Rattle.ghcn_series.proofs.HeldStations.{settled, none_settled}
use Rattle.ghcn_series.proofs.gatherings.Gatherings.settle.Goals as goal

-- the stations stay placed
pub invariant_of-self : goal.invariant_of-self
invariant_of-self c = record {
  placed = placed-set c.self.inside.numbers.items c.self.inside.held.items c.self.inside.at c.in-Some.station.now
      c.shrink_to_fit.new.self c.in-Some.ensures.item.1 c.shrink_to_fit.ensures.place c.shrink_to_fit.ensures.number
      c.self.invariant.placed;
  here = c.self.invariant.here;
  spare = c.shrink_to_fit.ensures.spare;
}

-- and keep what they have
pub returns-in-Some : goal.returns-in-Some
returns-in-Some c = on_ok_weaker c.shrink_to_fit.result (λ keeps.
    settled c.self.inside.numbers.items c.self.inside.held.items c.self.inside.at c.in-Some.station.now
    c.shrink_to_fit.new.self c.args.self.now.stations (ap (λ (v : GatheredByPlace). v.stations) c.self.view_is)
    c.in-Some.ensures.item.1 keeps) c.shrink_to_fit.ensures.same

-- if there is one
pub returns-in-None : goal.returns-in-None
returns-in-None c =
    none_settled c.args.self.now.stations (by_place c.self.inside.held.items c.self.inside.numbers.items)
    (ap (λ (v : GatheredByPlace). v.stations) c.self.view_is)

use Rattle.ghcn_series.proofs.Cited.{ap, sym, ◌∙◌, GatheredByPlace}
use Rattle.ghcn_series.proofs.HeldStations.{turned, five_here, here_now}
use Rattle.ghcn_series.proofs.gatherings.Gatherings.turn_to.Goals as goal

-- the station of the line before has its gatherings
pub returns-then-is_here-clause-turns : goal.returns-then-is_here-clause-turns
returns-then-is_here-clause-turns c =
    let numbers = c.self.inside.numbers.items in let held = c.self.inside.held.items in
    let same = ap (λ (v : GatheredByPlace). v.last) (sym c.self.view_is) ∙ sym c.if-is_here.true in
    let here = here_now c.args.place c.self.inside.last c.self.inside.at numbers held c.args.self.now c.self.view_is
    same c.requires c.self.invariant.here in
    turned c.args.place c.args.self.now.stations (five_here numbers held c.args.place c.args.self.now.stations
    (ap (λ (v : GatheredByPlace). v.stations) c.self.view_is) c.self.invariant.placed c.self.inside.at here)

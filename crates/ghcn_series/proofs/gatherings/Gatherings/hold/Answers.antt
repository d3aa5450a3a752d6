use Rattle.ghcn_series.proofs.Cited.{◌≡◌, suc, length, ap, arith, length_push, GatheredByPlace}
use Rattle.ghcn_series.proofs.HeldStations.{is_held, not_held, still_here}
use Rattle.ghcn_series.proofs.gatherings.Gatherings.hold.Goals as goal

-- the stations stay placed with it, and that of the line before is where it was
pub invariant_of-self-2 : goal.invariant_of-self-2
invariant_of-self-2 c =
    let g = c.args.station in
    let numbers = c.self.inside.numbers.items in let held = c.self.inside.held.items in
    let view = ap (λ (v : GatheredByPlace). v.stations) c.self.view_is in
    let last : c.len.result ≡ suc (length held) =
    omega (arith, c.len.ensures, c.push.new.self.ok.0, ap length c.in_ok-push.ensures.items, length_push held g) in
    let is = is_held numbers held g c.len.result c.args.self.now.stations view c.requires.within c.requires.none
    c.requires.number c.self.invariant.placed last in
    let none = not_held numbers held g.place c.args.self.now.stations view c.self.invariant.placed c.requires.none in
    record {
      placed = rw (c.in_ok-push.ensures.items, c.place-place.ensures) is.0;
      here = rw c.place-place.ensures (still_here numbers c.self.inside.last c.self.inside.at g.place c.len.result none
          c.self.invariant.here);
      spare = c.self.invariant.spare;
    }

-- and its gatherings are at its place
pub returns : goal.returns
returns c =
    let g = c.args.station in let held = c.self.inside.held.items in
    let last : c.len.result ≡ suc (length held) =
    omega (arith, c.len.ensures, c.push.new.self.ok.0, ap length c.in_ok-push.ensures.items, length_push held g) in
    let is = is_held c.self.inside.numbers.items held g c.len.result c.args.self.now.stations
    (ap (λ (v : GatheredByPlace). v.stations) c.self.view_is) c.requires.within c.requires.none c.requires.number
    c.self.invariant.placed last in
    rw (c.in_ok-push.ensures.items, c.place-place.ensures) is.1

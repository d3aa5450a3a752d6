use Rattle.ghcn_series.proofs.Cited.{◌≡◌, ◌+◌, [], get_or, ap, sym, ◌∙◌, subst, arith, IfOk-weaker, GatheredByPlace}
use Rattle.ghcn_series.proofs.Cited.{AreFiveOf, TurnsTo}
use Rattle.ghcn_series.proofs.PlacedStations.{placed-set}
use Rattle.ghcn_series.proofs.HeldStations.{here_now, gathered_here, month_added}
use Rattle.ghcn_series.proofs.gatherings.Gatherings.add.Goals.{After-index_mut}
use Rattle.ghcn_series.proofs.gatherings.Gatherings.add.Goals as goal

-- the station that was turned to has its number
its_number : (c : After-index_mut) → get_or c.self.inside.numbers.items c.args.place 0 ≡ c.self.inside.at + 1
its_number c =
    here_now c.args.place c.self.inside.last c.self.inside.at c.self.inside.numbers.items c.self.inside.held.items
    c.turn_to.new.self c.self.view_is c.in_ok-turn_to.ensures.last
    (omega (arith, c.requires.within, c.in_ok-turn_to.ensures.turns.number)) c.self.invariant.here

-- its five gatherings have what was read of it
pub add-requires-clause-gathered : goal.add-requires-clause-gathered
add-requires-clause-gathered c =
    let here = its_number (goal.at.add-requires-clause-gathered c).After-index_mut in
    let own = ap (λ (v : GatheredByPlace). get_or v.stations c.args.place []) (sym c.self.view_is)
    ∙ gathered_here c.self.inside.numbers.items c.self.inside.held.items c.args.place c.self.inside.at
    c.self.invariant.placed here c.index_mut.result.now c.index_mut.ensures.value in (
      c.requires.gathered.0,
      subst (AreFiveOf c.args.asked c.requires.gathered.0 c.args.row.now.id) own
          (c.in_ok-turn_to.ensures.turns.own.holds c.args.asked c.requires.gathered.0 c.args.row.now.id
          c.requires.gathered.1),
    )

-- the stations stay placed
pub invariant_of-self : goal.invariant_of-self
invariant_of-self c = record {
  placed = placed-set c.self.inside.numbers.items c.self.inside.held.items c.self.inside.at c.index_mut.result.now
      c.add.new.self c.index_mut.ensures.value c.add.ensures.place c.add.ensures.number c.self.invariant.placed;
  here = c.self.invariant.here;
  spare = c.self.invariant.spare;
}

-- the month is added to its station's
pub returns : goal.returns
returns c =
    let here = its_number (goal.at.returns c).After-index_mut in
    let turns = subst (TurnsTo c.args.place c.args.self.now.stations)
    (ap (λ (v : GatheredByPlace). v.stations) (sym c.self.view_is)) c.in_ok-turn_to.ensures.turns in
    IfOk-weaker c.add.result _ _ (λ added adds m right of.
    month_added c.self.inside.numbers.items c.self.inside.held.items c.args.place c.self.inside.at
    c.self.invariant.placed here c.index_mut.result.now c.index_mut.ensures.value c.args.asked
    c.args.self.now.stations c.add.new.self m added turns (adds m right of)) c.add.ensures.added

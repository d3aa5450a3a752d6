use Rattle.ghcn_series.proofs.Cited.{◌≡◌, rules, [], sym, ap, ◌∙◌, subst, arith, AllByRecursion, nil_from_length}
use Rattle.ghcn_series.proofs.Cited.{map-append, GatheredByPlace, IsReady}
use Rattle.ghcn_series.proofs.ListFacts.{all-at}
use Rattle.ghcn_series.proofs.PlacedSeries.{none_have, next_within, next_gathered, one_has, all_have}
use Rattle.ghcn_series.proofs.Places.{station_there}
use Rattle.ghcn_series.proofs.gatherings.Gatherings.into_series.Goals as goal

-- no station has its series yet
pub loop-gathered-init : goal.loop-gathered-init
loop-gathered-init c =
    let none : c.in_ok-lists.lists.items ≡ [] = search rules in
    rw none (none_have c.args.stations.now _ c.self.inside.numbers.items c.self.inside.held.items _
    c.self.invariant.placed (ap (λ (v : GatheredByPlace). v.stations) c.self.view_is)
    c.into_iter-gathered-iterator.ensures.into_iter_gives.0)

-- the next is one of the list
pub series_of-requires-clause-listed : goal.series_of-requires-clause-listed
series_of-requires-clause-listed c =
    let within = next_within _ _ _ _ c.in-Some.gathered _ _ c.loop-gathered.invariant c.in-Some.ensures.steps.0 in
    omega (arith, c.requires.number, within)

-- and can become series
pub series_of-requires-clause-ready : goal.series_of-requires-clause-ready
series_of-requires-clause-ready c =
    let within = next_within _ _ _ _ c.in-Some.gathered _ _ c.loop-gathered.invariant c.in-Some.ensures.steps.0 in
    subst (AllByRecursion IsReady)
    (next_gathered _ _ _ _ c.in-Some.gathered _ _ c.loop-gathered.invariant c.in-Some.ensures.steps.0)
    (all-at (λ gs. AllByRecursion IsReady gs) c.args.self.stations c.in-Some.gathered.place [] c.requires.ready within)

-- so it has its series
pub loop-gathered-preserved : goal.loop-gathered-preserved
loop-gathered-preserved c =
    let within = next_within _ _ _ _ c.in-Some.gathered _ _ c.loop-gathered.invariant c.in-Some.ensures.steps.0 in
    let there = station_there c.args.stations.now c.in-Some.gathered.place (omega (arith, c.requires.number, within)) in
    rw (c.in_ok-push.ensures.items, map-append (λ s. s.items) c.loop-gathered.lists.items)
    (one_has _ _ _ _ c.in-Some.gathered _ _ c.loop-gathered.invariant c.in-Some.ensures.steps.0 there.0 _
    there.1 (rw there.1 at c.in_ok-series_of.ensures))

-- and in the end all have
pub returns : goal.returns
returns c = c.of.ensures ∙ all_have _ _ _ _ _ c.loop-gathered.invariant
    (nil_from_length _ (sym c.loop-gathered.gathered-iterator.rest.ok.0 ∙ c.in-None.ensures.steps.0)) c.requires.number

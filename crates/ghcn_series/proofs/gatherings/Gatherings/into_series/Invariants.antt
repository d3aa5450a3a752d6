use Rattle.ghcn_series.proofs.Cited.{map, into_iter_items}
use Rattle.ghcn_series.proofs.PlacedSeries.{HaveSeries}
use Rattle.ghcn_series.proofs.gatherings.Gatherings.into_series.Given as goal

-- the stations so far have their series
abbrev pub invariant-loop-gathered : goal.invariant-loop-gathered
invariant-loop-gathered l = HaveSeries l.fn.stations l.fn.self.stations l.numbers.items (map (λ s. s.items) l.lists.items)
    (into_iter_items l.gathered-iterator)

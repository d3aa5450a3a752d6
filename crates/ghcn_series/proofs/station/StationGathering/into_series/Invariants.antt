use Rattle.ghcn_series.proofs.Cited.{◌≡◌, ◌++◌, AllByRecursion, filter_map, into_iter_items, IsReady, gathered_series}
use Rattle.ghcn_series.proofs.Cited.{station_series}
use Rattle.ghcn_series.proofs.station.StationGathering.into_series.Given as goal

-- the gatherings so far are series, and the others can become so
abbrev pub invariant-loop-gathering : goal.invariant-loop-gathering
invariant-loop-gathering l = record {
  ready : AllByRecursion IsReady (into_iter_items l.gathering-iterator);
  whole : l.series.items ++ filter_map (gathered_series l.fn.id) (into_iter_items l.gathering-iterator)
      ≡ station_series l.fn.id l.fn.self.by_element.items;
}

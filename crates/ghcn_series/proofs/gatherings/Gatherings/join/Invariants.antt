use Rattle.std.specs.Vec.Iter.{into_iter_items}
use Rattle.ghcn_series.proofs.JoinedStations.{AreTaken}
use Rattle.ghcn_series.proofs.gatherings.Gatherings.join.Given as goal

-- the stations so far have been taken over
abbrev pub invariant-loop-station : goal.invariant-loop-station
invariant-loop-station l =
    AreTaken l.fn.self.stations l.fn.next.stations l.self.stations (into_iter_items l.station-iterator)

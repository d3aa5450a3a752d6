use Rattle.ghcn_series.proofs.Cited.{◌≡◌, length, AllByRecursion, AreEmpty, KeepsStation}
use Rattle.ghcn_series.proofs.station.StationGathering.shrink_to_fit.Given as goal

-- the station has the months that it had, and no days are in the memory that is spare
abbrev pub invariant-loop-place : goal.invariant-loop-place
invariant-loop-place l = record {
  place : l.self.place ≡ l.fn.self.place;
  number : length l.self.by_element.items ≡ length l.fn.self.by_element.items;
  same : KeepsStation l.fn.self.by_element.items l.self.by_element.items;
  spare : AllByRecursion AreEmpty l.spare.items;
}

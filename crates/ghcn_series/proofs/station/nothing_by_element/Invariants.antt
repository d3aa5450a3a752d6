use Rattle.ghcn_series.proofs.Cited.{◌≡◌, map, take, AllByRecursion, elements, AreEmpty, GathersNothing}
use Rattle.ghcn_series.proofs.station.nothing_by_element.Given as goal

-- the elements so far have a gathering of nothing, and no days are in the memory that is left
abbrev pub invariant-loop-element : goal.invariant-loop-element
invariant-loop-element l = record {
  elements : map (λ g. g.element) l.five.items ≡ take l.element-index elements;
  empty : AllByRecursion GathersNothing l.five.items;
  spare : AllByRecursion AreEmpty l.spare.items;
}

use Rattle.std.proofs.Common.{◌≡◌, get_or}
use Rattle.std.specs.List.{count_by}
use Rattle.ghcn_description.specs.declared.counts.ElementCounts.{ElementCounts}
use Rattle.ghcn_description.specs.Steps.{has_mark}
use Rattle.ghcn_description.proofs.JoinedLines.{AreDoneTo}
use Rattle.ghcn_description.proofs.elements.count_series.Given as goal

-- the elements so far have the series of the stations that are marked
abbrev pub invariant-loop-at : goal.invariant-loop-at
invariant-loop-at l = AreDoneTo (λ i c. (d : ElementCounts)
    → c ≡ record (get_or l.initial.elements i d) { series = count_by (has_mark i) l.with_days }) l.at l.initial.elements
    l.elements

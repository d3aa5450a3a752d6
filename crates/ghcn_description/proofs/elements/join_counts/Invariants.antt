use Rattle.std.proofs.Common.{get_or}
use Rattle.ghcn_description.specs.declared.counts.ElementCounts.{ElementCounts}
use Rattle.ghcn_description.specs.Steps.{JoinsCounts}
use Rattle.ghcn_description.proofs.JoinedLines.{AreDoneTo}
use Rattle.ghcn_description.proofs.elements.join_counts.Given as goal

-- the elements so far have what was counted on both
abbrev pub invariant-loop-at : goal.invariant-loop-at
invariant-loop-at l = AreDoneTo (λ i c. (d : ElementCounts)
    → JoinsCounts (get_or l.initial.elements i d) (get_or l.next i d) c) l.at l.initial.elements l.elements

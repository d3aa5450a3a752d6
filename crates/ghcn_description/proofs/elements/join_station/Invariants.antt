use Rattle.std.proofs.Common.{◌≡◌, Bool, get_or}
use Rattle.std.specs.Prelude.{◌||◌}
use Rattle.ghcn_description.proofs.JoinedLines.{AreDoneTo}
use Rattle.ghcn_description.proofs.elements.join_station.Given as goal

-- the marks so far are those of both
abbrev pub invariant-loop-at : goal.invariant-loop-at
invariant-loop-at l = AreDoneTo (λ i b. (d : Bool) → b ≡ (get_or l.initial.marks i d || get_or l.others i d)) l.at
    l.initial.marks l.marks

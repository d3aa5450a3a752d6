use Rattle.std.proofs.Common.{◌≡◌, Bool, List, get_or}
use Rattle.std.specs.Prelude.{◌||◌}
use lib.Lanes.{zip2}
use Rattle.ghcn_description.proofs.JoinedLines.{AreDoneTo}
use Rattle.ghcn_description.proofs.elements.join_marks.Given as goal

-- the stations so far have the marks of both
abbrev pub invariant-loop-place : goal.invariant-loop-place
invariant-loop-place l = AreDoneTo (λ i bs. (d : List Bool)
    → bs ≡ zip2 ◌||◌ (get_or l.initial.marks i d) (get_or l.others i d)) l.place l.initial.marks l.marks

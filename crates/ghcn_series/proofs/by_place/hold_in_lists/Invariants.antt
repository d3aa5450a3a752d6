use Rattle.ghcn_series.proofs.Cited.{◌≡◌, map}
use Rattle.ghcn_series.proofs.by_place.hold_in_lists.Given as goal

-- no series changed
abbrev pub invariant-loop-place : goal.invariant-loop-place
invariant-loop-place l = map (λ s. s.items) l.lists.items ≡ map (λ s. s.items) l.fn.lists.items

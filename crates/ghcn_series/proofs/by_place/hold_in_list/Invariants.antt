use Rattle.ghcn_series.proofs.Cited.{◌≡◌}
use Rattle.ghcn_series.proofs.by_place.hold_in_list.Given as goal

-- no series changed
abbrev pub invariant-loop-place : goal.invariant-loop-place
invariant-loop-place l = l.series.items ≡ l.fn.series.items

use Rattle.ghcn_series.proofs.Cited.{◌≡◌, pos, get_or, map, range_with_len}
use Rattle.ghcn_series.proofs.parts.by_number.Given as goal

-- the numbers so far are there with their places
abbrev pub invariant-loop-place : goal.invariant-loop-place
invariant-loop-place l = l.order.items ≡ map (λ k. (get_or l.numbers k (pos 0), k)) (range_with_len 0 l.place)

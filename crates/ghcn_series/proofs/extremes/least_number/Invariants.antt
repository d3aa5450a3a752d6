use Rattle.ghcn_series.proofs.Cited.{ℕ, ◌<◌, get_or, pos, ◌≤ℤ◌, IsScoreAmong}
use Rattle.ghcn_series.proofs.extremes.least_number.Given as goal

-- the least so far
abbrev pub invariant-loop-value : goal.invariant-loop-value
invariant-loop-value l = record {
  one : IsScoreAmong (λ v. v) l.values l.least;
  least : (j : ℕ) → j < l.value-index → l.least ≤ℤ get_or l.values j (pos 0);
}

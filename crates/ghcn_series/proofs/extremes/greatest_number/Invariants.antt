use Rattle.ghcn_series.proofs.Cited.{ℕ, ◌<◌, get_or, pos, ◌≤ℤ◌, IsScoreAmong}
use Rattle.ghcn_series.proofs.extremes.greatest_number.Given as goal

-- the greatest so far
abbrev pub invariant-loop-value : goal.invariant-loop-value
invariant-loop-value l = record {
  one : IsScoreAmong (λ v. v) l.values l.greatest;
  most : (j : ℕ) → j < l.value-index → get_or l.values j (pos 0) ≤ℤ l.greatest;
}

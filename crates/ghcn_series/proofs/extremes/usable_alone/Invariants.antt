use Rattle.ghcn_series.proofs.Cited.{◌≡◌, ℕ, ◌<◌, length, get_or, pos, IsUsableScore, StandsFor}
use Rattle.ghcn_series.proofs.extremes.usable_alone.Given as goal

-- each place so far has a value that stands for its own
abbrev pub invariant-loop-place : goal.invariant-loop-place
invariant-loop-place l = record {
  size : length l.row ≡ 32;
  first : IsUsableScore (λ v. v) l.word l.values l.first;
  filled : (j : ℕ) → j < l.place → StandsFor l.word l.values j (get_or l.row j (pos 0));
}

use Rattle.ghcn_series.proofs.Cited.{◌<◌, ◌≡◌, ℕ, length, JoinsAt}
use Rattle.ghcn_series.proofs.parts.joined.Given as goal

-- the places so far are joined
abbrev pub invariant-loop-place : goal.invariant-loop-place
invariant-loop-place l = record {
  long : length l.both ≡ 32;
  so_far : (j : ℕ) → j < l.place → JoinsAt l.values l.more l.both j;
}

use Rattle.ghcn_series.proofs.Cited.{◌≡◌, ℕ, ◌<◌, ◌≤◌, get_or, pos, ◌==◌, int_le, bit_at}
use Rattle.ghcn_series.proofs.days.places_from.Given as goal

-- the bits so far are those of the values read
abbrev pub invariant-loop-place : goal.invariant-loop-place
invariant-loop-place l = record {
  read : (j : ℕ) → j < l.place → (bit_at l.word j == 1) ≡ int_le l.least (get_or l.values j (pos 0));
  unread : (j : ℕ) → l.place ≤ j → bit_at l.word j ≡ 0;
}

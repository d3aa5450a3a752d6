-- Sums of the values of days in a row.
use Rattle.std.proofs.Common.{◌≡◌, refl, ℕ, ◌+◌, ◌*◌, ◌<◌, List, drop, length, get_or, arith, ℤ, pos, neg_ℤ}
use Rattle.std.proofs.Common.{◌+ℤ◌, ◌≤ℤ◌, ◌<ℤ◌}
use Rattle.std.proofs.lemmas.Int.{ints}
use Rattle.std.proofs.lemmas.List.{drop_more}
use Rattle.rank_scores.specs.Windows.{sum}

-- the first of some values have this sum, and each value is of 32 bits
pub record IsSumTo (values : List ℤ) (i : ℕ) (s : ℤ) : Type 0 where
  pub left : s +ℤ sum (drop i values) ≡ sum values
  pub low : neg_ℤ (pos (i * 2_147_483_648)) ≤ℤ s
  pub high : s ≤ℤ pos (i * 2_147_483_648)

-- so it is with one value more
pub one_more : (values : List ℤ) (i : ℕ) (s v : ℤ) → i < length values → v ≡ get_or values i (pos 0)
    → neg_ℤ (pos 2_147_483_648) ≤ℤ v → v <ℤ pos 2_147_483_648 → IsSumTo values i s
    → IsSumTo values (i + 1) (s +ℤ v)
one_more values i s v lt is low high h =
    let split : sum (drop i values) ≡ get_or values i (pos 0) +ℤ sum (drop (i + 1) values) =
    rw (drop_more values i (pos 0) lt) refl in
    let left = h.left in let below = h.low in let above = h.high in
    record {
      left = omega (arith, ints, left, split, is);
      low = omega (arith, ints, below, low);
      high = omega (arith, ints, above, high);
    }

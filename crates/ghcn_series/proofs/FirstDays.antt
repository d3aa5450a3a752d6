-- The first day of a block, and the days after it.
use Rattle.ghcn_series.proofs.Cited.{◌≡◌, ◌≢◌, ℕ, zero, suc, ◌+◌, ◌-◌, ◌/◌, ◌%◌, ◌<◌, ◌≤◌, ◌^◌, true, List, [], ◌∷◌}
use Rattle.ghcn_series.proofs.Cited.{length, get_or, Option, Some, None, inl, inr, refl, sym, ap, ◌∙◌, arith, ℤ, pos}
use Rattle.ghcn_series.proofs.Cited.{◌+ℤ◌, w32, neg_ℤ, ◌≤ℤ◌, bit_and, bit_at, trailing_zeros, filter_map}
use Rattle.ghcn_series.proofs.Cited.{range_with_len, cases_lt, bit_at-zero, bit_at-trailing_zeros, bit_at_and}
use Rattle.ghcn_series.proofs.Cited.{bit_at_lowest, bit_at-suc, ints, is_day, IsBlock, DayValue, block_start, day_at}
use Rattle.ghcn_series.proofs.Cited.{block_days, days_from, AreCalendarDays}
use Rattle.std.specs.Prelude.{⊤}
use Rattle.std.proofs.lemmas.Nat.{shr-shr}
use Rattle.std.specs.Iterator.{YieldsFirst, MakesProgress, item_count}

-- a word that is shifted down has its upper bits
pub shifted-bit : (w t j : ℕ) → bit_at (w / 2 ^ t) j ≡ bit_at w (t + j)
shifted-bit w t j = ap (λ (n : ℕ). n % 2) (shr-shr w t j)

-- words with the same bits at some places have the same days there
pub same-bits : (n : ℤ) (vs : List ℤ) (w v : ℕ) (s m : ℕ) → ((i : ℕ) → s ≤ i → i < s + m → bit_at w i ≡ bit_at v i)
    → filter_map (day_at (n, (w, vs))) (range_with_len s m) ≡ filter_map (day_at (n, (v, vs))) (range_with_len s m)
same-bits n vs w v s zero same = refl
same-bits n vs w v s (suc m) same = rw (same s (omega arith) (omega arith))
    (rw (same-bits n vs w v (s + 1) m (λ i le lt. same i (omega arith) (omega arith))))

-- a word without bits at some places has no days there
pub none-set : (n : ℤ) (vs : List ℤ) (w : ℕ) (s m : ℕ) → ((i : ℕ) → s ≤ i → i < s + m → bit_at w i ≡ 0)
    → filter_map (day_at (n, (w, vs))) (range_with_len s m) ≡ []
none-set n vs w s zero none = refl
none-set n vs w s (suc m) none =
    rw (none s (omega arith) (omega arith)) (none-set n vs w (s + 1) m (λ i le lt. none i (omega arith) (omega arith)))

-- the day of the lowest bit comes first, and those of the other bits come after it
pub lowest-first : (n : ℤ) (vs : List ℤ) (w v t : ℕ) (s m : ℕ) → s ≤ t → t < s + m → bit_at w t ≡ 1 → bit_at v t ≡ 0
    → ((i : ℕ) → i < t → bit_at w i ≡ 0) → ((i : ℕ) → i < s + m → i ≢ t → bit_at v i ≡ bit_at w i)
    → filter_map (day_at (n, (w, vs))) (range_with_len s m) ≡ (block_start n +ℤ pos t, get_or vs t (pos 0))
    ∷ filter_map (day_at (n, (v, vs))) (range_with_len s m)
lowest-first n vs w v t s zero le lt set cleared below other = absurd (omega arith)
lowest-first n vs w v t s (suc m) le lt set cleared below other = elim (cases_lt s t) [
  | inl before ↦
      let nor : bit_at v s ≡ 0 = other s (omega arith) (omega arith) ∙ below s before in
      rw (below s before, nor) (lowest-first n vs w v t (s + 1) m (omega arith) (omega arith) set cleared below
      (λ i less ne. other i (omega arith) ne))
  | inr here ↦
      let is : s ≡ t = omega arith in
      let same = same-bits n vs w v (s + 1) m (λ i more less. sym (other i (omega arith) (omega arith))) in
      rw (same, is, set, cleared)
]

-- a block whose word is 0 has no days
pub block-empty : (n : ℤ) (vs : List ℤ) (w : ℕ) → w ≡ 0 → block_days (n, (w, vs)) ≡ []
unfolding days_from
block-empty n vs w e = none-set n vs w 0 32 (λ i le lt. ap (λ (k : ℕ). bit_at k i) e ∙ bit_at-zero i)

-- one less has no bit at the place of the lowest one, and the same after it
one_less : (t w : ℕ) → bit_at w t ≡ 1 → ((i : ℕ) → i < t → bit_at w i ≡ 0)
    → (bit_at (w - 1) t ≡ 0) × ((i : ℕ) → t ≤ i → bit_at (w - 1) (suc i) ≡ bit_at w (suc i))
one_less zero w set below =
    let odd : w % 2 ≡ 1 = sym (bit_at_lowest w) ∙ set in let half : (w - 1) / 2 ≡ w / 2 = omega (arith, odd) in (
      bit_at_lowest (w - 1) ∙ omega (arith, odd),
      λ i le. bit_at-suc (w - 1) i ∙ ap (λ (n : ℕ). bit_at n i) half ∙ sym (bit_at-suc w i),
    )
one_less (suc t) w set below =
    let even : w % 2 ≡ 0 = sym (bit_at_lowest w) ∙ below 0 (omega arith) in
    let half : (w - 1) / 2 ≡ w / 2 - 1 = omega (arith, even) in
    let rest = one_less t (w / 2) (sym (bit_at-suc w t) ∙ set)
    (λ i lt. sym (bit_at-suc w i) ∙ below (suc i) (omega (arith, lt))) in (
      bit_at-suc (w - 1) t ∙ ap (λ (n : ℕ). bit_at n t) half ∙ rest.0,
      λ i le.
          let before : suc (i - 1) ≡ i = omega (arith, le) in
          let same = rw before at (rest.1 (i - 1) (omega (arith, le))) in
          bit_at-suc (w - 1) i ∙ ap (λ (n : ℕ). bit_at n i) half ∙ same ∙ sym (bit_at-suc w i),
    )

-- a word without its lowest bit
abbrev pub without_lowest : ℕ → ℕ
without_lowest w = bit_and w (w - 1)

module _ (w : ℕ) (some : 0 < w) (fits : w < 2 ^ 32) where
  -- that bit is gone
  lowest-gone : bit_at (without_lowest w) (trailing_zeros w32 w) ≡ 0
  lowest-gone = let lowest = bit_at-trailing_zeros w32 w some fits in
      let less = one_less (trailing_zeros w32 w) w lowest.1 lowest.2 in
      omega (arith, bit_at_and w (w - 1) (trailing_zeros w32 w), less.0)

  -- and all others stay
  others-stay : (i : ℕ) → i ≢ trailing_zeros w32 w → bit_at (without_lowest w) i ≡ bit_at w i
  others-stay i ne =
      let lowest = bit_at-trailing_zeros w32 w some fits in
      let less = one_less (trailing_zeros w32 w) w lowest.1 lowest.2 in
      elim (cases_lt i (trailing_zeros w32 w)) [
        | inl lt ↦ omega (arith, bit_at_and w (w - 1) i, lowest.2 i lt)
        | inr le ↦
            let before : suc (i - 1) ≡ i = omega (arith, le, ne) in
            let same = rw before at (less.1 (i - 1) (omega (arith, le, ne))) in
            omega (arith, bit_at_and w (w - 1) i, same)
      ]

-- the first day of a block is at the lowest bit of its word
pub block-first : (n : ℤ) (vs : List ℤ) (w : ℕ) → 0 < w → w < 2 ^ 32
    → block_days (n, (w, vs)) ≡ (block_start n +ℤ pos (trailing_zeros w32 w), get_or vs (trailing_zeros w32 w) (pos 0))
    ∷ block_days (n, (without_lowest w, vs))
unfolding days_from
block-first n vs w some fits = let lowest = bit_at-trailing_zeros w32 w some fits in
    lowest-first n vs w (without_lowest w) (trailing_zeros w32 w) 0 32 (omega arith) lowest.0 lowest.1
    (lowest-gone w some fits) lowest.2 (λ i lt ne. others-stay w some fits i ne)

-- the calendar's days fit
pub day-range : (d : ℤ) → is_day d ≡ true → (neg_ℤ (pos 719_162) ≤ℤ d) × (d ≤ℤ pos 2_932_896)
day-range d e = grind (arith, ints)

-- the block of a day of the calendar
pub block-of_day : (n : ℤ) (j : ℕ) → j < 32 → is_day (block_start n +ℤ pos j) ≡ true → IsBlock n
block-of_day n j lt is = let range = day-range (block_start n +ℤ pos j) is in
    record { low = omega (arith, ints, range.0); high = omega (arith, ints, range.1) }

module _ (n : ℤ) (w : ℕ) (are : AreCalendarDays n w) (some : 0 < w) (fits : w < 2 ^ 32) where
  -- the day of the lowest bit is a day of the calendar
  pub lowest-day : is_day (block_start n +ℤ pos (trailing_zeros w32 w)) ≡ true
  lowest-day = let at = bit_at-trailing_zeros w32 w some fits in are.days (trailing_zeros w32 w) at.0 at.1

  -- the bits that stay belong to days too
  pub days-left : AreCalendarDays n (without_lowest w)
  days-left = record {
    days = λ j lt set.
        let gone : bit_at (without_lowest w) (trailing_zeros w32 w) ≡ 0 = lowest-gone w some fits in
        let other : j ≢ trailing_zeros w32 w = λ same. omega (arith, gone, set, ap (bit_at (without_lowest w)) same) in
        are.days j lt (sym (others-stay w some fits j other) ∙ set);
  }

  -- the block is one of the calendar's
  pub lowest-block : IsBlock n
  lowest-block = block-of_day n (trailing_zeros w32 w) (bit_at-trailing_zeros w32 w some fits).0 lowest-day

-- days after a first one are fewer
pub fewer : (all rest : List DayValue) (x : DayValue) → all ≡ x ∷ rest → length rest < length all
fewer all rest x e = let long : length all ≡ length (x ∷ rest) = ap (λ (l : List DayValue). length l) e in omega arith

-- so a day that is yielded leaves fewer
pub progress : (all left : List DayValue) (r : Option DayValue)
    → YieldsFirst (λ (days : List DayValue). days) all r left
    → MakesProgress (λ _. ⊤) (item_count (λ (days : List DayValue). days)) all r left
progress all left None yields = record { on = λ _. tt; keeps = tt; rests = λ _. tt }
progress all left (Some x) yields = record { on = λ _. (tt, tt, fewer all left x yields); keeps = tt; rests = λ _. tt }

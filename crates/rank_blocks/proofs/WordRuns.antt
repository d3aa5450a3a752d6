-- The runs of the bits of a word.
use Rattle.rank_blocks.proofs.Cited.{◌≡◌, ℕ, zero, suc, ◌+◌, ◌-◌, ◌*◌, ◌/◌, ◌%◌, ◌<◌, ◌≤◌, ◌^◌, true, min, inl, inr}
use Rattle.rank_blocks.proofs.Cited.{refl, ap, ◌∙◌, arith, w32, bit_and, bit_at, bit_not, leading_ones, trailing_ones}
use Rattle.rank_blocks.proofs.Cited.{trailing_zeros, bit_at-zero, bit_at_and, bit_at_above, bit_at_cat_low}
use Rattle.rank_blocks.proofs.Cited.{bit_at_cat_high, bit_at_not, bit_at_ones, bit_at-trailing_ones}
use Rattle.rank_blocks.proofs.Cited.{bit_at-trailing_zeros, pow-succ', has_bit, AllPass, ComeFirst, ComeLast, ints}
use Rattle.rank_blocks.proofs.Cited.{cases_lt, sym, ◌==◌}
use Rattle.std.specs.Prelude.{count_ones}
use Rattle.std.proofs.lemmas.Nat.Bits.{bit_at-suc, bit_at_lowest}
use lib.Count.{ones_step}
use Rattle.std.proofs.lemmas.Nat.{leading_top}
use Rattle.ghcn_series.proofs.LastDays.{highest-bit}

-- the bits of a word moved up by one place
moved-up : (w k : ℕ) → k + 1 < 32 → bit_at (w * 2 ^ 1 % 2 ^ 32) (k + 1) ≡ bit_at w k
moved-up w k lt =
    let whole : (w * 2 ^ 1 / 2 ^ 32) * 2 ^ 32 + w * 2 ^ 1 % 2 ^ 32 ≡ w * 2 ^ 1 + 0 = omega arith in
    let low = bit_at_cat_low (w * 2 ^ 1 / 2 ^ 32) 32 (w * 2 ^ 1 % 2 ^ 32) (k + 1) lt in
    grind (arith, whole, low, bit_at_cat_high w 1 0 (k + 1))

-- a word that is moved up has no lowest bit
lowest-empty : (w : ℕ) → bit_at (w * 2 ^ 1 % 2 ^ 32) 0 ≡ 0
lowest-empty w = grind (arith, ints, bit_at_cat_low, bit_at-zero)

-- what remains of a word: a bit is set at each place at which more than n bits of the word that are set end; and n set
-- bits follow one another somewhere
pub record AreEnds (word n ends : ℕ) : Type 0 where
  pub some : (k : ℕ) → k < 32 → bit_at ends k ≡ 1 → (n ≤ k) × AllPass (has_bit word) (k - n) (k + 1)
  pub every : (k : ℕ) → k < 32 → n ≤ k → AllPass (has_bit word) (k - n) (k + 1) → bit_at ends k ≡ 1
  pub somewhere : (from : ℕ) × (from + n ≤ 32) × AllPass (has_bit word) from (from + n)

module _ (word n ends : ℕ) (are : AreEnds word n ends) (fits : ends < 2 ^ 32) where
  -- the bits that are set in a word and in the word moved up
  abbrev next : ℕ
  next = bit_and ends (ends * 2 ^ 1 % 2 ^ 32)

  -- a bit is set if it was set, and the one before it too
  next-bit : (j k : ℕ) → j ≡ k + 1 → j < 32 → bit_at next j ≡ min (bit_at ends j) (bit_at ends k)
  next-bit j k is lt = bit_at_and ends (ends * 2 ^ 1 % 2 ^ 32) j
      ∙ ap (min (bit_at ends j)) (ap (bit_at (ends * 2 ^ 1 % 2 ^ 32)) is ∙ moved-up ends k (omega arith))

  -- if a bit remains, one set bit more ends at its place
  next-some : (k : ℕ) → k < 32 → bit_at next k ≡ 1 → (n + 1 ≤ k) × AllPass (has_bit word) (k - (n + 1)) (k + 1)
  next-some zero lt bit = absurd (omega (arith, bit_at_and ends (ends * 2 ^ 1 % 2 ^ 32) 0, lowest-empty ends))
  next-some (suc k) lt bit =
      let both = next-bit (suc k) k (omega arith) lt in
      let first = are.some k (omega arith) (omega arith) in
      let second = are.some (suc k) lt (omega arith) in
      (omega (arith, first.0), λ i low high. grind (arith, first.1 i, second.1 i))

  -- if a bit remains, more than n set bits follow one another
  longer : (ends ≡ 0 → ⊥) → (from : ℕ) × (from + (n + 1) ≤ 32) × AllPass (has_bit word) from (from + (n + 1))
  longer some_end =
      let lowest = bit_at-trailing_zeros w32 ends (omega (arith, some_end)) fits in
      let end : ℕ = trailing_zeros w32 ends in
      let run = are.some end lowest.0 lowest.1 in
      (end - n, omega (arith, run.0, lowest.0), λ i low high. run.1 i low (omega (arith, run.0)))

  -- one bit more
  pub ends-next : (ends ≡ 0 → ⊥) → n < 32 → AreEnds word (n + 1) (bit_and ends (ends * 2 ^ 1 % 2 ^ 32))
  ends-next some_end within = record {
    some = next-some;
    every = λ k lt low pass.
        let here = are.every k lt (omega arith) (λ i above. pass i (omega arith)) in
        let before = are.every (k - 1) (omega arith) (omega arith)
        (λ i above below. pass i (omega arith) (omega arith)) in
        next-bit k (k - 1) (omega arith) lt ∙ omega arith;
    somewhere = longer some_end;
  }

-- all bits of a full word are set
full-set : (word j : ℕ) → word ≡ 2 ^ 32 - 1 → j < 32 → has_bit word j ≡ true
full-set word j full lt = grind (arith, ints, ap (λ (w : ℕ). bit_at w j) full ∙ bit_at_ones 32 j lt)

-- all bits of a full word come first
full-first : trailing_ones w32 4_294_967_295 ≡ 32
unfolding lib.Count.count_trailing_zeros
full-first = refl

-- and last
full-last : leading_ones w32 4_294_967_295 ≡ 32
unfolding lib.Count.count_leading_zeros
full-last = refl

-- the bits that come first
pub first-ones : (word : ℕ) → word < 2 ^ 32 → ComeFirst (has_bit word) 32 (trailing_ones w32 word)
first-ones word fits =
    elim (cases_lt (word + 1) (2 ^ 32)) [
      | inl other ↦ let lowest = bit_at-trailing_ones w32 word other in grind (arith, ints, lowest)
      | inr le ↦ let full : word ≡ 2 ^ 32 - 1 = omega arith in grind (arith, ints, full-first, full-set)
    ]

-- the bits that come last
pub last-ones : (word : ℕ) → word < 2 ^ 32 → ComeLast (has_bit word) 32 (leading_ones w32 word)
last-ones word fits =
    elim (cases_lt (word + 1) (2 ^ 32)) [
      | inr le ↦ let full : word ≡ 2 ^ 32 - 1 = omega arith in grind (arith, ints, full-last, full-set)
      | inl other ↦
          let unset : ℕ = bit_not w32 word in
          let top = leading_top 32 unset (omega arith) (omega arith) in
          let j : ℕ = top.0 in
          let highest = (highest-bit unset j top.2 (omega (arith, top.3, pow-succ' 2 j))).0 in
          record {
            within = omega arith;
            pass = λ from at k low high.
                let above = bit_at_above unset (suc j) k top.3 (omega arith) in
                grind (arith, ints, bit_at_not w32 word k fits high, above);
            begins = λ k at.
                let here : k ≡ j = omega arith in
                grind (arith, ints, bit_at_not w32 word k fits, ap (bit_at unset) here ∙ highest);
          }
    ]

-- the bits of half a word are those of the word from the second on
half-bit : (word k : ℕ) → has_bit (word / 2) k ≡ has_bit word (k + 1)
half-bit word k =
    let at : suc k ≡ k + 1 = omega arith in
    ap (λ (b : ℕ). b == 1) (sym (bit_at-suc word k)) ∙ ap (has_bit word) at

-- set bits that follow one another are no more than all that are set
pub few-ones : (len from word : ℕ) → AllPass (has_bit word) from (from + len) → len ≤ count_ones word
few-ones zero from word pass = omega arith
few-ones (suc n) zero word pass =
    let half = few-ones n 0 (word / 2) (λ k low high. half-bit word k ∙ pass (k + 1) (omega arith) (omega arith)) in
    let lowest : word % 2 ≡ 1 = grind (arith, ints, pass 0 (omega arith) (omega arith), bit_at_lowest word) in
    omega (arith, ones_step word, lowest, half)
few-ones (suc n) (suc from) word pass =
    let half = few-ones (suc n) from (word / 2)
    (λ k low high. half-bit word k ∙ pass (k + 1) (omega arith) (omega arith)) in
    omega (arith, ones_step word, half)

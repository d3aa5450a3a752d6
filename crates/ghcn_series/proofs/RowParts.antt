-- A row in two parts of blocks.
use Rattle.ghcn_series.proofs.Cited.{◌≡◌, ℕ, zero, suc, ◌+◌, ◌-◌, ◌*◌, ◌/◌, ◌%◌, ◌<◌, ◌≤◌, ◌^◌, List, ◌++◌, length}
use Rattle.ghcn_series.proofs.Cited.{take, drop, get_or, add-zero, replicate, Option, Some, None, IsSome, inl, inr}
use Rattle.ghcn_series.proofs.Cited.{refl, sym, ap, subst, ◌∙◌, arith, true, ℤ, pos, ◌+ℤ◌, bit_at, option_or, cases_lt}
use Rattle.ghcn_series.proofs.Cited.{false≢true, common_steps, ints, get_or-take, get_or-drop, get_or_append_left}
use Rattle.ghcn_series.proofs.Cited.{get_or-append_right, bit_at-zero, bit_at_above, is_day, block_of, DayValue}
use Rattle.ghcn_series.proofs.Cited.{value_on, Block, block_start, value_at, days_from, block_days, IsPacked, AreNew}
use Rattle.ghcn_series.proofs.Cited.{AreJoined, IsRow, IsValueFrom}
use Rattle.std.proofs.lemmas.Nat.{shl-shr, shr_split}
use Rattle.std.proofs.lemmas.Nat.Bits.{bit_at_cat_low}
use Rattle.ghcn_series.specs.Parts.{HasBitsOf}
use Rattle.ghcn_series.proofs.Lookups.{from-value, from-other, block-value, block-other, block-holds, or_none, at_day}
use Rattle.ghcn_series.proofs.JoinedDays.{same_block, or_assoc}
use Rattle.ghcn_series.proofs.FirstDays.{shifted-bit}

-- a first choice that is there is chosen
some_either : (a b : Option ℤ) → IsSome a → IsSome (option_or a b)
some_either None b some = absurd cc
some_either (Some x) b some = some

-- a day that a block has lies in it
pub own-block : (b : Block) (d : ℤ) → IsSome (value_on (block_days b) d) → b.0 ≡ block_of d
own-block b d some = elim (same_block b.0 (block_of d)) [
  | inl here ↦ here
  | inr other ↦ absurd (false≢true (subst IsSome (block-other b d other) some))
]

-- the values that a row has in the block that many places after the one in which it begins
abbrev pub IsPartOf : List ℤ → ℕ → ℕ → List ℤ → Type 0
IsPartOf values place offset part = (j : ℕ) → j < 32 → IsValueFrom values place (j + offset) (get_or part j (pos 0))

-- a block has what a row has that many places after the beginning of the block in which the row begins
pub record IsPart (first : ℤ) (place w : ℕ) (vs : List ℤ) (offset : ℕ) (b : Block) : Type 0 where
  pub row : IsRow first w vs
  pub below : place < 32
  pub starts : block_start b.0 +ℤ pos place ≡ first +ℤ pos offset
  pub bits : HasBitsOf w place offset b.1.0
  pub values : IsPartOf vs place offset b.1.1

module _ (first : ℤ) (place w : ℕ) (vs : List ℤ) (offset : ℕ) (b : Block) (p : IsPart first place w vs offset b) where
  -- what is true at a place of the block, if it is true before the row, in the row and after it
  at_part : (P : ℕ → Type 0) (j : ℕ) → (j + offset < place → P j) → (place + 32 ≤ j + offset → P j)
      → ((k : ℕ) → k < 32 → k + place ≡ j + offset → P j) → P j
  at_part P j before behind within = elim (cases_lt (j + offset) place) [
    | inl less ↦ before less
    | inr from ↦ elim (cases_lt (j + offset) (place + 32)) [
      | inl inside ↦ within (j + offset - place) (omega arith) (omega arith)
      | inr more ↦ behind more
    ]
  ]

  -- the block has the values of the row's days
  pub part-value : (j : ℕ) → j < 32 → value_on (days_from first w vs) (block_start b.0 +ℤ pos j)
      ≡ value_at b.1.0 b.1.1 j
  part-value j lt = at_part (λ j. value_on (days_from first w vs) (block_start b.0 +ℤ pos j) ≡ value_at b.1.0 b.1.1 j) j
      (λ less. rw ((p.bits j lt).before less)
      (from-other first w vs (block_start b.0 +ℤ pos j) (λ k _ e. omega (arith, ints, p.starts, e))))
      (λ more. rw ((p.bits j lt).behind more)
      (from-other first w vs (block_start b.0 +ℤ pos j) (λ k less e. omega (arith, ints, p.starts, e))))
      (λ k less is. let day : block_start b.0 +ℤ pos j ≡ first +ℤ pos k = omega (arith, ints, p.starts) in
      rw (day, (p.bits j lt).within k less is, (p.values j lt).within k less is) (from-value first w vs k less))

  -- and is as it may be
  pub part-packed : b.1.0 < 2 ^ 32 → 0 < b.1.0 → IsPacked b
  part-packed fits some = record {
    present = some;
    fits = fits;
    zeros = λ j lt none.
        at_part (λ j. get_or b.1.1 j (pos 0) ≡ pos 0) j (p.values j lt).before (p.values j lt).behind (λ k less is.
        (p.values j lt).within k less is ∙ p.row.zeros k less (sym ((p.bits j lt).within k less is) ∙ none));
    days = λ j lt set.
        at_part (λ j. is_day (block_start b.0 +ℤ pos j) ≡ true) j
        (λ less. let none = (p.bits j lt).before less in absurd (omega arith))
        (λ more. let none = (p.bits j lt).behind more in absurd (omega arith))
        (λ k less is. let day : first +ℤ pos k ≡ block_start b.0 +ℤ pos j = omega (arith, ints, p.starts) in
        subst (λ (d : ℤ). is_day d ≡ true) day (p.row.days k less (sym ((p.bits j lt).within k less is) ∙ set)));
  }

  -- in that block the row has nothing else
  pub in_part : (d : ℤ) → b.0 ≡ block_of d → value_on (days_from first w vs) d ≡ value_on (block_days b) d
  in_part d is =
      let Same : ℤ → Type 0 = λ x. value_on (days_from first w vs) x ≡ value_on (block_days b) x in
      at_day Same d (subst (λ (n : ℤ). (j : ℕ) → j < 32 → Same (block_start n +ℤ pos j)) is
      (λ j lt. part-value j lt ∙ sym (block-value b j lt)))

module _ (first : ℤ) (place w : ℕ) (vs : List ℤ) (one two : Block) (p : IsPart first place w vs 0 one)
    (q : IsPart first place w vs 32 two) where
  -- the days of the row
  abbrev days : List DayValue
  days = days_from first w vs

  -- no day is in both blocks
  differ : (d : ℤ) → one.0 ≡ block_of d → two.0 ≡ block_of d → ⊥
  differ d a b = omega (arith, ints, p.starts, q.starts, a, b)

  -- a day of neither block isn't in the row
  in_neither : (d : ℤ) → (one.0 ≡ block_of d → ⊥) → (two.0 ≡ block_of d → ⊥) → value_on days d ≡ None
  in_neither d a b = from-other first w vs d (λ j lt e. elim (cases_lt (place + j) 32) [
    | inl below ↦ a (omega (arith, ints, block-holds d, p.starts))
    | inr above ↦ let less = p.below in b (omega (arith, ints, block-holds d, q.starts))
  ])

  -- the two parts have the row's days
  row-split : (d : ℤ) → value_on days d ≡ option_or (value_on (block_days one) d) (value_on (block_days two) d)
  row-split d = elim (same_block one.0 (block_of d)) [
    | inl here ↦ rw (block-other two d (differ d here), or_none (value_on (block_days one) d))
        (in_part first place w vs 0 one p d here)
    | inr other ↦ rw (block-other one d other) (elim (same_block two.0 (block_of d)) [
      | inl there ↦ in_part first place w vs 32 two q d there
      | inr none ↦ rw (block-other two d none) (in_neither d other none)
    ])
  ]

  module _ (old : List DayValue) (fresh : AreNew old days) where
    -- if the row is new, its first part is
    pub new-one : AreNew old (block_days one)
    new-one d some = fresh d (subst IsSome (sym (row-split d))
        (some_either (value_on (block_days one) d) (value_on (block_days two) d) some))

    -- and its second part is, after the first
    pub new-two : (mid : List DayValue) → AreJoined old (block_days one) mid → AreNew mid (block_days two)
    new-two mid joined d some =
        let there = own-block two d some in
        rw (joined d, fresh d (subst IsSome (sym (in_part first place w vs 32 two q d there)) some))
        (block-other one d (λ here. differ d here there))

    -- both parts joined one after the other are the row joined
    pub joined-both : (mid new : List DayValue) → AreJoined old (block_days one) mid
        → AreJoined mid (block_days two) new → AreJoined old days new
    joined-both mid new a b d = rw (b d, a d, row-split d)
        (sym (or_assoc (value_on old d) (value_on (block_days one) d) (value_on (block_days two) d)))

-- ---- the bits of both parts

-- bits below a place are those of the whole
bit-low : (x j : ℕ) → j < 32 → bit_at (x % 2 ^ 32) j ≡ bit_at x j
bit-low x j lt = sym (bit_at_cat_low (x / 2 ^ 32) 32 (x % 2 ^ 32) j lt) ∙ ap (λ (n : ℕ). bit_at n j) (shr_split x 32)

-- a word that is moved up has no bits below the place
bit-below : (w k i : ℕ) → i < k → bit_at (w * 2 ^ k) i ≡ 0
bit-below w k i lt = (rw (add-zero (w * 2 ^ k)) at (bit_at_cat_low w k 0 i lt)) ∙ bit_at-zero i

-- and its own from there on
bit-moved_up : (w k i : ℕ) → bit_at (w * 2 ^ k) (k + i) ≡ bit_at w i
bit-moved_up w k i = sym (shifted-bit (w * 2 ^ k) k i) ∙ ap (λ (n : ℕ). bit_at n i) (shl-shr w k)

-- a word shifted up has the row's bits in its first block
pub low-bits : (w place : ℕ) → place < 32 → HasBitsOf w place 0 (w * 2 ^ place % 2 ^ 32)
low-bits w place below j lt = record {
  before = λ h. bit-low (w * 2 ^ place) j lt ∙ bit-below w place j (omega arith);
  behind = λ h. absurd (omega arith);
  within = λ k less is. let here : j ≡ place + k = omega arith in
      bit-low (w * 2 ^ place) j lt ∙ ap (bit_at (w * 2 ^ place)) here ∙ bit-moved_up w place k;
}

-- a word shifted down has those of the next one
pub high-bits : (w place : ℕ) → w < 2 ^ 32 → place < 32 → HasBitsOf w place 32 (w / 2 ^ 1 / 2 ^ (31 - place))
high-bits w place fits below j lt =
    let at = shifted-bit (w / 2 ^ 1) (31 - place) j ∙ shifted-bit w 1 (31 - place + j) in record {
      before = λ h. absurd (omega arith);
      behind = λ h. at ∙ bit_at_above w 32 (1 + (31 - place + j)) fits (omega arith);
      within = λ k less is. at ∙ ap (bit_at w) (omega arith);
    }

-- ---- the values of both parts

-- a row of zeros has 0 everywhere
pub zero_at : (n j : ℕ) → get_or (replicate n (pos 0)) j (pos 0) ≡ pos 0
zero_at zero j = refl
zero_at (suc n) zero = refl
zero_at (suc n) (suc j) = zero_at n j

-- a row between zeros is at its place
pub placed-row : (vs zs ys rest : List ℤ) (place : ℕ) → place < 32 → length vs ≡ 32 → length zs ≡ 64 → ys ≡ vs
    → ((j : ℕ) → get_or zs j (pos 0) ≡ pos 0) → ((j : ℕ) → get_or rest j (pos 0) ≡ pos 0) → (at : ℕ)
    → IsValueFrom vs place at (get_or (take place zs ++ (ys ++ rest)) at (pos 0))
placed-row vs zs ys rest place below whole long is none more-none at =
    let before : length (take place zs) ≡ place = grind (arith, common_steps, long) in
    let own : length ys ≡ 32 = ap (λ (l : List ℤ). length l) is ∙ whole in record {
      before = λ less. get_or_append_left (take place zs) (ys ++ rest) (pos 0) at (omega (arith, before))
          ∙ get_or-take place zs at (pos 0) less ∙ none at;
      behind = λ more. get_or-append_right (take place zs) (ys ++ rest) place at (pos 0) before (omega arith)
          ∙ get_or-append_right ys rest 32 (at - place) (pos 0) own (omega arith) ∙ more-none (at - place - 32);
      within = λ k less at_is. let here : at - place ≡ k = omega arith in
          get_or-append_right (take place zs) (ys ++ rest) place at (pos 0) before (omega arith)
          ∙ get_or_append_left ys rest (pos 0) (at - place) (omega (arith, own))
          ∙ ap (λ (l : List ℤ). get_or l (at - place) (pos 0)) is ∙ ap (λ (i : ℕ). get_or vs i (pos 0)) here;
    }

-- the first block of two has its part of a row
pub first-part : (vs both xs : List ℤ) (place : ℕ) → xs ≡ take 32 both
    → ((at : ℕ) → at < 64 → IsValueFrom vs place at (get_or both at (pos 0))) → IsPartOf vs place 0 xs
first-part vs both xs place is stands j lt =
    rw (is, get_or-take 32 both j (pos 0) lt, add-zero j) (stands j (omega arith))

-- and so has the second
pub second-part : (vs both xs : List ℤ) (place : ℕ) → xs ≡ drop 32 both
    → ((at : ℕ) → at < 64 → IsValueFrom vs place at (get_or both at (pos 0))) → IsPartOf vs place 32 xs
second-part vs both xs place is stands j lt =
    let same : 32 + j ≡ j + 32 = omega arith in
    rw (is, get_or-drop 32 both j (pos 0), same) (stands (j + 32) (omega arith))

-- Days of blocks in order rise, and rising days are determined by their values alone.
use Rattle.ghcn_series.proofs.Cited.{◌≡◌, ℕ, zero, suc, ◌+◌, ◌<◌, Bool, true, false, List, [], ◌∷◌, ◌++◌, length}
use Rattle.ghcn_series.proofs.Cited.{get_or, Some, None, refl, sym, ap, subst, ◌∙◌, arith, ℤ, pos, ◌+ℤ◌, ◌<ℤ◌, ◌≤ℤ◌}
use Rattle.ghcn_series.proofs.Cited.{inl, inr, ◌==◌, bit_at, cons_option, filter_map, range_with_len, AllByRecursion}
use Rattle.ghcn_series.proofs.Cited.{IsStrictlySortedBy, keys_of, Less, int_cmp, int_ranked, ints, by_lt_z, none-some}
use Rattle.ghcn_series.proofs.Cited.{same_Some, block_of, DayValue, value_on, Block, block_start, if_so, day_at}
use Rattle.ghcn_series.proofs.Cited.{block_days, days_from, days_of_blocks, blocks_of, AreRising, AreColumns}
use Rattle.ghcn_series.proofs.ListFacts.{each-weaker, each-append}
use Rattle.ghcn_series.proofs.JoinedDays.{same_block}
use Rattle.ghcn_series.proofs.Lookups.{no_block, int_eq-no, int_eq-yes, block-holds, blocks-at, blocks-length}
use Rattle.ghcn_series.proofs.PartDays.{each-place}
use Rattle.ghcn_series.proofs.Nexts.{AreOf, block-own}

-- a day before rising ones leaves them rising
cons-rising : (t : Bool) (x : DayValue) (xs : List DayValue) → AllByRecursion (λ y. x.0 <ℤ y.0) xs → AreRising xs
    → AreRising (cons_option (if_so t x) xs)
cons-rising true x xs all rise = (all, rise)
cons-rising false x xs all rise = rise

-- the days at a block's places rise
places-rise : (b : Block) (s n : ℕ) → AreRising (filter_map (day_at b) (range_with_len s n))
places-rise b s zero = tt
places-rise b s (suc n) = cons-rising (bit_at b.1.0 s == 1) (block_start b.0 +ℤ pos s, get_or b.1.1 s (pos 0))
    (filter_map (day_at b) (range_with_len (s + 1) n))
    (each-place (λ (d : ℤ). (block_start b.0 +ℤ pos s) <ℤ d) b.0 b.1.1 b.1.0 (s + 1) n
    (λ j more lt set. omega (arith, ints, more))) (places-rise b (s + 1) n)

-- the days of a block rise
pub block-rises : (b : Block) → AreRising (block_days b)
unfolding days_from
block-rises b = places-rise b 0 32

-- days of a block and rising ones of later blocks rise
rising-append : (n : ℤ) (xs ys : List DayValue) → AreOf n xs → AllByRecursion (λ y. n <ℤ block_of y.0) ys → AreRising xs
    → AreRising ys → AreRising (xs ++ ys)
rising-append n [] ys own later a b = b
rising-append n (x ∷ xs) ys own later a b = (
  each-append (λ (y : DayValue). x.0 <ℤ y.0) xs ys a.0
      (each-weaker (λ (y : DayValue). n <ℤ block_of y.0) (λ (y : DayValue). x.0 <ℤ y.0) ys
      (λ y lt. omega (arith, ints, block-holds x.0, block-holds y.0, own.0, lt)) later),
  rising-append n xs ys own.1 later a.1 b,
)

-- the blocks' numbers are greater than one
all_later : (n : ℤ) (bs : List Block) → ((k : ℕ) → k < length bs → n <ℤ (get_or bs k no_block).0)
    → AllByRecursion (λ y. n <ℤ block_of y.0) (days_of_blocks bs)
all_later n [] h = tt
all_later n (b ∷ bs) h = each-append (λ (y : DayValue). n <ℤ block_of y.0) (block_days b) (days_of_blocks bs)
    (each-weaker (λ (x : DayValue). block_of x.0 ≡ b.0) (λ (y : DayValue). n <ℤ block_of y.0) (block_days b)
    (λ x e. subst (λ (z : ℤ). n <ℤ z) (sym e) (h 0 (omega arith))) (block-own b))
    (all_later n bs (λ k lt. h (suc k) (omega arith)))

-- the days of rising blocks rise
blocks-rise : (bs : List Block) → ((i j : ℕ) → i < j → j < length bs
    → (get_or bs i no_block).0 <ℤ (get_or bs j no_block).0) → AreRising (days_of_blocks bs)
blocks-rise [] h = tt
blocks-rise (b ∷ bs) h = rising-append b.0 (block_days b) (days_of_blocks bs) (block-own b)
    (all_later b.0 bs (λ k lt. h 0 (suc k) (omega arith) (omega arith)))
    (block-rises b) (blocks-rise bs (λ i j lt in_range. h (suc i) (suc j) (omega arith) (omega arith)))

-- the days of columns rise
pub columns-rise : (ns : List ℤ) (ws : List ℕ) (vs : List (List ℤ)) → AreColumns ns ws vs
    → AreRising (days_of_blocks (blocks_of ns ws vs))
columns-rise ns ws vs cols = blocks-rise (blocks_of ns ws vs) (λ i j lt in_range.
    let words = cols.blocks.enough_words in
    let values = cols.blocks.enough_values in
    let within : j < length ns = omega (arith, blocks-length ns ws vs words values, in_range) in
    rw (blocks-at ns ws vs i words values (omega arith), blocks-at ns ws vs j words values within)
    (cols.rise.less i j lt within))

-- ---- days whose numbers are in order

-- days whose keys are greater are later
keys-later : (d : ℤ) (xs : List DayValue) → AllByRecursion (λ k. int_cmp d k ≡ Less) (keys_of xs)
    → AllByRecursion (λ y. d <ℤ y.0) xs
keys-later d [] all = tt
keys-later d (x ∷ xs) all = (int_ranked d x.0 Less (sym all.0), keys-later d xs all.1)

-- days whose keys are in order rise
pub keys-rise : (xs : List DayValue) → IsStrictlySortedBy int_cmp (keys_of xs) → AreRising xs
unfolding IsStrictlySortedBy
keys-rise [] sorted = tt
keys-rise (x ∷ xs) sorted = (keys-later x.0 xs sorted.0, keys-rise xs sorted.1)

-- ---- rising days are determined by their values

-- the first of other days is skipped
pub behind : (x : DayValue) (xs : List DayValue) (d : ℤ) → (x.0 ≡ d → ⊥) → value_on (x ∷ xs) d ≡ value_on xs d
behind x xs d other = rw (int_eq-no x.0 d other)

-- the first day has its value
pub front : (x : DayValue) (xs : List DayValue) → value_on (x ∷ xs) x.0 ≡ Some x.1
front x xs = rw (int_eq-yes x.0 x.0 refl)

-- a day before all has no value
pub before_all : (xs : List DayValue) (d : ℤ) → AllByRecursion (λ y. d <ℤ y.0) xs → value_on xs d ≡ None
before_all [] d all = refl
before_all (x ∷ xs) d all = behind x xs d (λ e. let lt = all.0 in omega (arith, ints, e)) ∙ before_all xs d all.1

-- days after the same first day have the same values
rest_same : (x y : DayValue) (xs ys : List DayValue) → x.0 ≡ y.0 → AllByRecursion (λ z. x.0 <ℤ z.0) xs
    → AllByRecursion (λ z. y.0 <ℤ z.0) ys
    → ((d : ℤ) → value_on (x ∷ xs) d ≡ value_on (y ∷ ys) d) → (d : ℤ) → value_on xs d ≡ value_on ys d
rest_same x y xs ys day a b same d = elim (same_block x.0 d) [
  | inl here ↦ before_all xs d (rw here at a) ∙ sym (before_all ys d (rw (sym day ∙ here) at b))
  | inr other ↦ sym (behind x xs d other) ∙ same d ∙ behind y ys d (λ e. other (day ∙ e))
]

-- of two lists with the same values, of which one rises, the other doesn't begin before it
first_same : (x y : DayValue) (xs ys : List DayValue) → AllByRecursion (λ z. y.0 <ℤ z.0) ys
    → value_on (x ∷ xs) x.0 ≡ value_on (y ∷ ys) x.0 → y.0 ≤ℤ x.0
first_same x y xs ys later same = by_lt_z x.0 y.0 (λ (lt : x.0 <ℤ y.0).
    let all = each-weaker (λ (z : DayValue). y.0 <ℤ z.0) (λ (z : DayValue). x.0 <ℤ z.0) ys
    (λ z more. omega (arith, ints, lt, more)) later in
    absurd (none-some x.1 (sym (before_all (y ∷ ys) x.0 (lt, all)) ∙ sym same ∙ front x xs))) (λ (ge : y.0 ≤ℤ x.0). ge)

-- two lists of rising days with the same values are one
pub same-from_values : (xs ys : List DayValue) → AreRising xs → AreRising ys → ((d : ℤ) → value_on xs d ≡ value_on ys d)
    → xs ≡ ys
same-from_values [] [] a b same = refl
same-from_values [] (y ∷ ys) a b same = absurd (none-some y.1 (same y.0 ∙ front y ys))
same-from_values (x ∷ xs) [] a b same = absurd (none-some x.1 (sym (same x.0) ∙ front x xs))
same-from_values (x ∷ xs) (y ∷ ys) a b same =
    let ge = first_same x y xs ys b.0 (same x.0) in let le = first_same y x ys xs a.0 (sym (same y.0)) in
    let day : x.0 ≡ y.0 = omega (arith, ints, ge, le) in
    let value : x.1 ≡ y.1 = same_Some x.1 y.1 (sym (front x xs) ∙ same x.0 ∙ ap (value_on (y ∷ ys)) day ∙ front y ys) in
    let rest = same-from_values xs ys a.1 b.1 (rest_same x y xs ys day a.0 b.0 same) in λ i. (day i, value i) ∷ rest i

-- Days of a block in a row, and those whose values pass a test.
use Rattle.ghcn_series.proofs.Cited.{◌≡◌, ◌≢◌, ℕ, zero, suc, ◌+◌, ◌-◌, ◌*◌, ◌/◌, ◌%◌, ◌<◌, ◌≤◌, ◌^◌, Bool, true, false}
use Rattle.ghcn_series.proofs.Cited.{List, [], ◌∷◌, length, get_or, inl, inr, refl, sym, ap, ◌∙◌, arith, ℤ, pos, ◌+ℤ◌}
use Rattle.ghcn_series.proofs.Cited.{◌<ℤ◌, w32, min, add-zero, zero-add, ap₂, ◌==◌, ◌&&◌, bit_and, bit_or, filter}
use Rattle.ghcn_series.proofs.Cited.{int_le, int_lt, bit_at, trailing_zeros, filter_map, range_with_len, cons_option}
use Rattle.ghcn_series.proofs.Cited.{cases_lt, cases_Bool, nat_tests, ints, pow-succ', bit_at_and, bit_at-lt}
use Rattle.ghcn_series.proofs.Cited.{bit_at_not, bit_at_above, bit_at-trailing_zeros, bit_at_ones, bit_at_or}
use Rattle.ghcn_series.proofs.Cited.{bit_at-zero, bit_at_lowest, bit_at-suc, count_ones, DayValue, block_start, day_at}
use Rattle.ghcn_series.proofs.Cited.{if_so, block_days, days_from, AreInARow}
use Rattle.std.proofs.Common.{max, below_more, take, drop, length-drop, length-take, subst}
use Rattle.std.specs.List.{AllByRecursion}
use Rattle.std.proofs.lemmas.List.{drop_more}
use Rattle.std.specs.Int.{from_bool, trailing_ones}
use Rattle.std.proofs.Math.Nat.{div-le_self}
use Rattle.std.proofs.lemmas.Nat.Bits.{bit_at-trailing_ones, bit_at_set_same, bit_at_set_other}
use lib.Count.{ones_step}
use Rattle.ghcn_series.specs.Packed.{ArePlacesOf, EndsRun, TakesRun, TakesRow, days_in_a_row}
use Rattle.ghcn_series.proofs.FirstDays.{none-set, shifted-bit}
use Rattle.ghcn_series.proofs.PartDays.{both-parts, each-day, first-in, first-out, later-bit}

-- ---- places of values that pass a test

-- a bit is added if a word has none yet
added-bit : (word p : ℕ) (b : Bool) → p < 32 → bit_at word p ≡ 0 → bit_at (bit_or word (from_bool b * 2 ^ p % 2 ^ 32)) p
    ≡ from_bool b
added-bit word p true lt unset = bit_at_set_same w32 word p lt
added-bit word p false lt unset = grind (arith, ints, bit_at_or, bit_at-zero)

-- and the others stay
other-bit : (word p j : ℕ) (b : Bool) → p < 32 → j ≢ p → bit_at (bit_or word (from_bool b * 2 ^ p % 2 ^ 32)) j
    ≡ bit_at word j
other-bit word p j true lt other = bit_at_set_other w32 word p lt j other
other-bit word p j false lt other = grind (arith, ints, bit_at_or, bit_at-zero)

module _ (test : ℤ → Bool) (values : List ℤ) (word p : ℕ) (b : Bool) (lt : p < 32)
    (is : b ≡ test (get_or values p (pos 0))) where
  -- a word of the values before a place, with that of the place
  pub places-more : ((j : ℕ) → p ≤ j → bit_at word j ≡ 0)
      → ((j : ℕ) → j < p → (bit_at word j == 1) ≡ test (get_or values j (pos 0)))
      → (j : ℕ) → j < p + 1 → (bit_at (bit_or word (from_bool b * 2 ^ p % 2 ^ 32)) j == 1) ≡ test
      (get_or values j (pos 0))
  places-more unread read = grind (arith, ints, below_more, other-bit, added-bit)

  -- it has no bit after that place
  pub places-unread : ((j : ℕ) → p ≤ j → bit_at word j ≡ 0) → (j : ℕ) → p + 1 ≤ j
      → bit_at (bit_or word (from_bool b * 2 ^ p % 2 ^ 32)) j ≡ 0
  places-unread unread = grind (arith, ints, other-bit)

-- the places that aren't those of values from a least one on are those of values below it
pub places-below : (least : ℤ) (values : List ℤ) (word : ℕ) → word < 2 ^ 32 → ArePlacesOf (int_le least) values word
    → ArePlacesOf (λ v. int_lt v least) values (4294967295 - word)
places-below least values word fits are j lt =
    let here = are j lt in
    let turned : bit_at (4294967295 - word) j ≡ 1 - bit_at word j = bit_at_not w32 word j fits lt in
    let less = bit_at-lt word j in
    grind (arith, ints, nat_tests)

-- both of two bits are set if the lesser is
both-set : (a b : ℕ) → a < 2 → b < 2 → (min a b == 1) ≡ ((a == 1) && (b == 1))
both-set a b less_a less_b = grind (arith, nat_tests)

-- a day is kept if it is there and its value passes
kept-one : (test : ℤ → Bool) (there kept : Bool) (x : DayValue) (xs : List DayValue) → kept ≡ (there && test x.1)
    → cons_option (if_so kept x) (filter (λ y. test y.1) xs) ≡ filter (λ y. test y.1) (cons_option (if_so there x) xs)
kept-one test false kept x xs is = rw is
kept-one test true kept x xs is = elim (cases_Bool (test x.1)) [
  | inl e ↦ rw (is, e)
  | inr e ↦ rw (is, e)
]

-- of the days at some places those are kept whose values pass
kept-from : (test : ℤ → Bool) (n : ℤ) (vs : List ℤ) (w v s m : ℕ)
    → ((j : ℕ) → s ≤ j → j < s + m → (bit_at v j == 1) ≡ test (get_or vs j (pos 0)))
    → filter_map (day_at (n, (bit_and w v, vs))) (range_with_len s m)
    ≡ filter (λ x. test x.1) (filter_map (day_at (n, (w, vs))) (range_with_len s m))
kept-from test n vs w v s zero are = refl
kept-from test n vs w v s (suc m) are =
    rw (kept-from test n vs w v (s + 1) m (λ j more lt. are j (omega arith) (omega arith)))
    (kept-one test (bit_at w s == 1) (bit_at (bit_and w v) s == 1) (block_start n +ℤ pos s, get_or vs s (pos 0))
    (filter_map (day_at (n, (w, vs))) (range_with_len (s + 1) m))
    (rw (bit_at_and w v s, ← are s (omega arith) (omega arith))
    (both-set (bit_at w s) (bit_at v s) (bit_at-lt w s) (bit_at-lt v s))))

-- of the days of a block those are kept whose values pass
pub kept-days : (test : ℤ → Bool) (n : ℤ) (vs : List ℤ) (w v : ℕ) → ArePlacesOf test vs v
    → block_days (n, (bit_and w v, vs)) ≡ filter (λ x. test x.1) (block_days (n, (w, vs)))
unfolding days_from
kept-days test n vs w v are = kept-from test n vs w v 0 32 (λ j more lt. are j (omega arith))

-- ---- how many days there are

-- a day is one more if its bit is set
cons-long : (bit : ℕ) (x : DayValue) (xs : List DayValue) → bit < 2
    → length (cons_option (if_so (bit == 1) x) xs) ≡ bit + length xs
cons-long zero x xs less = sym (zero-add (length xs))
cons-long (suc zero) x xs less = omega arith
cons-long (suc (suc b)) x xs less = absurd (omega (arith, less))

-- what each place up to an end adds a bit to is as much as these bits are set
pub counted-from : (f : ℕ → ℕ → ℕ) (b : ℕ → ℕ) (end : ℕ) → ((s : ℕ) → f s 0 ≡ 0)
    → ((s m : ℕ) → s + suc m ≡ end → f s (suc m) ≡ b s + f (s + 1) m)
    → (v s m : ℕ) → s + m ≡ end → ((i : ℕ) → i < m → b (s + i) ≡ bit_at v i) → v < 2 ^ m → f s m ≡ count_ones v
unfolding count_ones
counted-from f b end none more v s zero at same fits =
    let empty : v ≡ 0 = omega (arith, fits) in none s ∙ sym (ap count_ones empty)
counted-from f b end none more v s (suc m) at same fits =
    let first : b s ≡ v % 2 = (rw (add-zero s) at (same 0 (omega arith))) ∙ bit_at_lowest v in
    let half : v / 2 < 2 ^ m = let twice = pow-succ' 2 m in omega (arith, fits, twice) in
    more s m at ∙ ap₂ (λ (x y : ℕ). x + y) first (counted-from f b end none more (v / 2) (s + 1) m (omega (arith, at))
    (λ i lt. let next : s + 1 + i ≡ s + suc i = omega arith in
    ap b next ∙ same (suc i) (omega (arith, lt)) ∙ bit_at-suc v i) half) ∙ sym (ones_step v)

-- a block has a day for each bit of its word
pub long-days : (n : ℤ) (vs : List ℤ) (w : ℕ) → w < 2 ^ 32 → length (block_days (n, (w, vs))) ≡ count_ones w
unfolding days_from
long-days n vs w fits =
    counted-from (λ s m. length (filter_map (day_at (n, (w, vs))) (range_with_len s m))) (bit_at w) 32 (λ s. refl)
    (λ s m at. cons-long (bit_at w s) (block_start n +ℤ pos s, get_or vs s (pos 0))
    (filter_map (day_at (n, (w, vs))) (range_with_len (s + 1) m)) (bit_at-lt w s))
    w 0 32 refl (λ i lt. let same : 0 + i ≡ i = omega arith in ap (bit_at w) same) fits

-- ---- days in a row

-- if the bits from one place up to another one are set, and no others, the days are in a row
row-among : (n : ℤ) (vs : List ℤ) (w t k s m : ℕ) (f : ℤ) → f ≡ block_start n +ℤ pos (max s t) → t < k → s ≤ k
    → k ≤ s + m → ((j : ℕ) → j < t → bit_at w j ≡ 0) → ((j : ℕ) → t ≤ j → j < k → bit_at w j ≡ 1)
    → ((j : ℕ) → k ≤ j → bit_at w j ≡ 0)
    → AreInARow f (block_start n +ℤ pos (k - 1)) (filter_map (day_at (n, (w, vs))) (range_with_len s m))
row-among n vs w t k s zero f is lt le more before set unset =
    let same : s ≡ k = omega arith in omega (arith, ints, same, lt, is)
row-among n vs w t k s (suc m) f is lt le more before set unset = elim (cases_lt s t) [
  | inl under ↦ rw (before s under)
      (row-among n vs w t k (s + 1) m f (omega (arith, ints, is)) lt (omega arith) (omega arith) before set unset)
  | inr ge ↦ elim (cases_lt s k) [
    | inl inside ↦ rw (set s ge inside) (
      omega (arith, ints, is),
      row-among n vs w t k (s + 1) m (f +ℤ pos 1) (omega (arith, ints, is)) lt (omega arith) (omega arith)
          before set unset,
    )
    | inr end ↦
        let same : s ≡ k = omega arith in
        let none : filter_map (day_at (n, (w, vs))) (range_with_len s (suc m)) ≡ [] =
        none-set n vs w s (suc m) (λ j at un. unset j (omega arith)) in
        rw none (omega (arith, ints, same, lt, is))
  ]
]

-- so are those of a block
pub row-behind : (n : ℤ) (vs : List ℤ) (w t k : ℕ) → t < k → k ≤ 32 → ((j : ℕ) → j < t → bit_at w j ≡ 0)
    → ((j : ℕ) → t ≤ j → j < k → bit_at w j ≡ 1) → ((j : ℕ) → k ≤ j → bit_at w j ≡ 0)
    → AreInARow (block_start n +ℤ pos t) (block_start n +ℤ pos (k - 1)) (block_days (n, (w, vs)))
unfolding days_from
row-behind n vs w t k lt few =
    row-among n vs w t k 0 32 (block_start n +ℤ pos t) (omega (arith, ints)) lt (omega arith) (omega arith)

-- they have the values of these places
values-among : (n : ℤ) (vs : List ℤ) (w t k s m at : ℕ) (f : ℤ) → at ≡ max s t → f ≡ block_start n +ℤ pos at → t < k
    → k ≤ s + m → s + m ≤ length vs → ((j : ℕ) → j < t → bit_at w j ≡ 0)
    → ((j : ℕ) → t ≤ j → j < k → bit_at w j ≡ 1) → ((j : ℕ) → k ≤ j → bit_at w j ≡ 0)
    → filter_map (day_at (n, (w, vs))) (range_with_len s m) ≡ days_in_a_row f (take (k - at) (drop at vs))
values-among n vs w t k s zero at f here is lt more fits before set unset =
    let none : k - at ≡ 0 = omega arith in rw none refl
values-among n vs w t k s (suc m) at f here is lt more fits before set unset = elim (cases_lt s t) [
  | inl under ↦ rw (before s under)
      (values-among n vs w t k (s + 1) m at f (omega arith) is lt (omega arith) (omega arith) before set unset)
  | inr ge ↦ elim (cases_lt s k) [
    | inl inside ↦
        let same : at ≡ s = omega arith in
        let first : f ≡ block_start n +ℤ pos s = omega (arith, ints, is, same) in
        let size : k - s ≡ suc (k - (s + 1)) = omega arith in
        rw (set s ge inside, same, size, drop_more vs s (pos 0) (omega arith), first)
        (ap (λ (xs : List DayValue). (block_start n +ℤ pos s, get_or vs s (pos 0)) ∷ xs)
        (values-among n vs w t k (s + 1) m (s + 1) (block_start n +ℤ pos s +ℤ pos 1) (omega arith)
        (omega (arith, ints)) lt (omega arith) (omega arith) before set unset))
    | inr end ↦
        let none : filter_map (day_at (n, (w, vs))) (range_with_len s (suc m)) ≡ [] =
        none-set n vs w s (suc m) (λ j from to. unset j (omega arith)) in
        let empty : k - at ≡ 0 = omega arith in
        rw (none, empty) refl
  ]
]

-- days in a row from a first to a last one that isn't before it are some
pub row-some : (first last : ℤ) (days : List DayValue) → first <ℤ (last +ℤ pos 1) → AreInARow first last days
    → 0 < length days
row-some first last [] lt row = absurd (omega (arith, ints, lt, row))
row-some first last (x ∷ xs) lt row = omega arith

-- if all bits are set, that many follow one another
all-ones : trailing_ones w32 4_294_967_295 ≡ 32
unfolding lib.Count.count_trailing_zeros
all-ones = refl

-- the lowest bits of a word are ones up to the first that isn't
lowest-ones : (v : ℕ) → v < 2 ^ 32
    → ((i : ℕ) → i < trailing_ones w32 v → bit_at v i ≡ 1) × (bit_at v (trailing_ones w32 v) ≡ 0)
lowest-ones v fits = elim (cases_lt (v + 1) (2 ^ 32)) [
  | inl other ↦ let first = bit_at-trailing_ones w32 v other in (first.2, first.1)
  | inr le ↦
      let full : v ≡ 2 ^ 32 - 1 = omega arith in
      let many : trailing_ones w32 v ≡ 32 = ap (trailing_ones w32) full ∙ all-ones in (
        λ i lt. ap (λ (u : ℕ). bit_at u i) full ∙ bit_at_ones 32 i (omega (arith, lt, many)),
        bit_at_above v 32 (trailing_ones w32 v) fits (omega (arith, many)),
      )
]

-- the lowest bits of a word end at the place at which the shifted word's ones end
pub run-ends : (w : ℕ) → 0 < w → w < 2 ^ 32
    → EndsRun w (trailing_zeros w32 w + trailing_ones w32 (w / 2 ^ trailing_zeros w32 w))
run-ends w some fits =
    let t : ℕ = trailing_zeros w32 w in
    let v : ℕ = w / 2 ^ t in let o : ℕ = trailing_ones w32 v in
    let lowest = bit_at-trailing_zeros w32 w some fits in
    let ones = lowest-ones v (omega (arith, div-le_self w (2 ^ t), fits)) in
    let first : bit_at v 0 ≡ 1 = (rw (add-zero t) at (shifted-bit w t 0)) ∙ lowest.1 in
    let one : o ≡ 0 → ⊥ = λ none. omega (arith, first, ap (bit_at v) (sym none) ∙ ones.1) in
    let row : (j : ℕ) → t ≤ j → j < t + o → bit_at w j ≡ 1 = λ j le lt.
    let here : j ≡ t + (j - t) = omega (arith, le) in
    ap (bit_at w) here ∙ sym (shifted-bit w t (j - t)) ∙ ones.0 (j - t) (omega (arith, le, lt)) in record {
      some = omega (arith, one);
      few =
          let above : bit_at w 32 ≡ 0 = bit_at_above w 32 32 fits (omega arith) in
          let past : 32 < t + o → ⊥ = λ lt. omega (arith, above, row 32 (omega (arith, lowest.0)) lt) in
          omega (arith, past);
      row = row;
      ends = sym (shifted-bit w t o) ∙ ones.1;
    }

module _ (n : ℤ) (vs : List ℤ) (w k : ℕ) (fits : w < 2 ^ 32) (some : 0 < w) (ends : EndsRun w k) where
  -- the place of the lowest bit
  abbrev t : ℕ
  t = trailing_zeros w32 w

  -- the last day of the run
  abbrev last : ℤ
  last = block_start n +ℤ pos (k - 1)

  -- the word of the run
  abbrev run : ℕ
  run = bit_and w (2 ^ k - 1)

  -- its days are in a row
  in_a_row : AreInARow (block_start n +ℤ pos t) last (block_days (n, (run, vs)))
  in_a_row = row-behind n vs run t k ends.some ends.few
      (λ j lt. first-in n vs w k ends.few j (omega (arith, lt, ends.some))
      ∙ (bit_at-trailing_zeros w32 w some fits).2 j lt)
      (λ j at under. first-in n vs w k ends.few j under ∙ ends.row j at under)
      (λ j more. first-out n vs w k ends.few j more)

  -- and these are its days, with their values
  valued : length vs ≡ 32 → block_days (n, (run, vs)) ≡ days_in_a_row (block_start n +ℤ pos t) (take (k - t) (drop t vs))
  unfolding days_from
  valued size = values-among n vs run t k 0 32 t (block_start n +ℤ pos t) (omega arith) refl ends.some
      (let few = ends.few in omega (arith, few)) (omega (arith, size))
      (λ j lt. first-in n vs w k ends.few j (let under = ends.some in omega (arith, lt, under))
      ∙ (bit_at-trailing_zeros w32 w some fits).2 j lt)
      (λ j at under. first-in n vs w k ends.few j under ∙ ends.row j at under)
      (λ j more. first-out n vs w k ends.few j more)

  -- what is taken of a block's days is its first run
  pub takes-run : TakesRun (block_days (n, (w, vs))) (block_start n +ℤ pos t, last)
      (block_days (n, (bit_and w (2 ^ 32 - 2 ^ k), vs)))
  takes-run = record {
    run = block_days (n, (run, vs));
    some = row-some _ _ _ (let under = ends.some in omega (arith, ints, under)) in_a_row;
    row = in_a_row;
    parts = both-parts n vs w k ends.few;
    apart = each-day (λ (d : ℤ). (last +ℤ pos 1) <ℤ d) n vs (bit_and w (2 ^ 32 - 2 ^ k)) (λ j lt set.
        let other : j ≢ k =
        λ same. omega (arith, bit_at_and w (2 ^ 32 - 2 ^ k) j, ap (bit_at w) same ∙ ends.ends, set) in
        let under = ends.some in
        omega (arith, ints, later-bit w k j set, other, under));
  }

  -- and the first of them are taken in a row with their values
  pub takes-row : length vs ≡ 32 → TakesRow (block_days (n, (w, vs))) (block_start n +ℤ pos t)
      (take (k - t) (drop t vs)) (block_days (n, (bit_and w (2 ^ 32 - 2 ^ k), vs)))
  unfolding days_from takes-run
  takes-row size =
      let under = ends.some in
      let few = ends.few in
      let long : length (take (k - t) (drop t vs)) ≡ k - t =
      length-take (k - t) (drop t vs) ∙ (rw (length-drop t vs) (omega (arith, size, few))) in
      record {
        some = omega (arith, long, under);
        few = omega (arith, long, few);
        parts = rw (← valued size) takes-run.parts;
        apart = rw long (subst (λ (d : ℤ). AllByRecursion (λ x. d <ℤ x.0) (block_days (n, (bit_and w (2 ^ 32 - 2 ^ k), vs))))
            (omega (arith, ints, under)) takes-run.apart);
      }

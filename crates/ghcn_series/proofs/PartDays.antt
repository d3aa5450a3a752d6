-- The days of a block up to a place, and those after it.
use Rattle.ghcn_series.proofs.Cited.{◌≡◌, ℕ, zero, suc, ◌+◌, ◌-◌, ◌<◌, ◌≤◌, ◌^◌, List, [], ◌∷◌, ◌++◌, length, get_or}
use Rattle.ghcn_series.proofs.Cited.{Option, Some, None, refl, sym, ap, ◌∙◌, arith, ℤ, pos, ◌+ℤ◌, inl, inr, ◌<ℤ◌, ◌==◌}
use Rattle.ghcn_series.proofs.Cited.{bit_and, bit_at, filter_map, range_with_len, cons_option, AllByRecursion, cases_lt}
use Rattle.ghcn_series.proofs.Cited.{ints, bit_at_and, bit_at-lt, bit_at_ones, DayValue, block_start, day_at, if_so}
use Rattle.ghcn_series.proofs.Cited.{block_days, days_from, AreCalendarDays, BeginsBy}
use Rattle.std.specs.Prelude.{slice_get}
use Rattle.std.proofs.lemmas.Nat.{pow_pos}
use Rattle.std.proofs.lemmas.Nat.Bits.{bit_at_ones_above, bit_at_mask_inside}
use Rattle.std.proofs.lemmas.Nat.Bits.{bit_at_mask_below}
use Rattle.ghcn_series.proofs.FirstDays.{same-bits, none-set, block-first}

-- a day in front of days and of others
cons-append : (o : Option DayValue) (xs ys : List DayValue) → cons_option o (xs ++ ys) ≡ cons_option o xs ++ ys
cons-append None xs ys = refl
cons-append (Some x) xs ys = refl

-- the days that some of a word's bits leave are in the calendar
pub some-bits : (n : ℤ) (w mask : ℕ) → AreCalendarDays n w → AreCalendarDays n (bit_and w mask)
some-bits n w mask are =
    record { days = λ j lt set. are.days j lt (omega (arith, bit_at_and w mask j, bit_at-lt w j, set)) }

-- a bit of both of two words is one of the second
of-mask : (w mask j : ℕ) → bit_at (bit_and w mask) j ≡ 1 → bit_at mask j ≡ 0 → ⊥
of-mask w mask j set none = omega (arith, bit_at_and w mask j, set, none)

-- a bit of the first k places is at one of them
pub first-bit : (w k j : ℕ) → bit_at (bit_and w (2 ^ k - 1)) j ≡ 1 → j < k
first-bit w k j set =
    let out : k ≤ j → ⊥ = λ more. of-mask w (2 ^ k - 1) j set (bit_at_ones_above k j more) in omega (arith, out)

-- and one after them isn't
pub later-bit : (w k j : ℕ) → bit_at (bit_and w (2 ^ 32 - 2 ^ k)) j ≡ 1 → k ≤ j
later-bit w k j set =
    let out : j < k → ⊥ = λ lt. of-mask w (2 ^ 32 - 2 ^ k) j set (bit_at_mask_below k 32 j lt) in omega (arith, out)

-- the bits after the first k are those that aren't among the first
pub ones-left : (k : ℕ) → 4294967295 - (2 ^ k - 1) ≡ 2 ^ 32 - 2 ^ k
ones-left k = let some : 0 < 2 ^ k = pow_pos k in omega (arith, some)

module _ (n : ℤ) (vs : List ℤ) (w k : ℕ) (le : k ≤ 32) where
  -- the bits of the first k places
  abbrev first_bits : ℕ
  first_bits = bit_and w (2 ^ k - 1)

  -- and those after them
  abbrev later_bits : ℕ
  later_bits = bit_and w (2 ^ 32 - 2 ^ k)

  -- the first places have their bits of the word
  pub first-in : (j : ℕ) → j < k → bit_at first_bits j ≡ bit_at w j
  first-in j lt = omega (arith, bit_at_and w (2 ^ k - 1) j, bit_at_ones k j lt, bit_at-lt w j)

  -- and no others
  pub first-out : (j : ℕ) → k ≤ j → bit_at first_bits j ≡ 0
  first-out j more = omega (arith, bit_at_and w (2 ^ k - 1) j, bit_at_ones_above k j more)

  -- so it is with the places after them
  pub later-in : (j : ℕ) → k ≤ j → j < 32 → bit_at later_bits j ≡ bit_at w j
  later-in j more lt = omega (arith, bit_at_and w (2 ^ 32 - 2 ^ k) j, bit_at_mask_inside k 32 j more lt, bit_at-lt w j)

  -- which have no others either
  pub later-out : (j : ℕ) → j < k → bit_at later_bits j ≡ 0
  later-out j lt = omega (arith, bit_at_and w (2 ^ 32 - 2 ^ k) j, bit_at_mask_below k 32 j lt)

  -- the days at some places of a word
  abbrev at : ℕ → ℕ → ℕ → List DayValue
  at v s m = filter_map (day_at (n, (v, vs))) (range_with_len s m)

  -- the days at some places are those of the first bits, and those of the others
  cut-days : (s m : ℕ) → s + m ≤ 32 → at w s m ≡ at first_bits s m ++ at later_bits s m
  cut-days s zero few = refl
  cut-days s (suc m) few = elim (cases_lt s k) [
    | inl lt ↦ rw (first-in s lt, later-out s lt, cut-days (s + 1) m (omega arith))
        (cons-append (day_at (n, (w, vs)) s) (at first_bits (s + 1) m) (at later_bits (s + 1) m))
    | inr ge ↦
        let none = none-set n vs first_bits s (suc m) (λ i more under. first-out i (omega arith)) in
        rw none (same-bits n vs w later_bits s (suc m) (λ i more under. sym (later-in i (omega arith) (omega arith))))
  ]

  -- a block's days are those of both parts of its word
  pub both-parts : block_days (n, (w, vs)) ≡ block_days (n, (first_bits, vs)) ++ block_days (n, (later_bits, vs))
  unfolding days_from
  both-parts = cut-days 0 32 (omega arith)

-- what holds of the days of all bits holds of each day
cons-each : (P : ℤ → Type 0) (bit : ℕ) (x : DayValue) (xs : List DayValue) → bit < 2 → (bit ≡ 1 → P x.0)
    → AllByRecursion (λ y. P y.0) xs → AllByRecursion (λ y. P y.0) (cons_option (if_so (bit == 1) x) xs)
cons-each P zero x xs less holds rest = rest
cons-each P (suc zero) x xs less holds rest = (holds refl, rest)
cons-each P (suc (suc b)) x xs less holds rest = absurd (omega (arith, less))

-- what is true of the days of some places is true of each day there
pub each-place : (P : ℤ → Type 0) (n : ℤ) (vs : List ℤ) (w s m : ℕ)
    → ((j : ℕ) → s ≤ j → j < s + m → bit_at w j ≡ 1 → P (block_start n +ℤ pos j))
    → AllByRecursion (λ x. P x.0) (filter_map (day_at (n, (w, vs))) (range_with_len s m))
each-place P n vs w s zero holds = tt
each-place P n vs w s (suc m) holds = cons-each P (bit_at w s) (block_start n +ℤ pos s, get_or vs s (pos 0))
    (filter_map (day_at (n, (w, vs))) (range_with_len (s + 1) m)) (bit_at-lt w s) (holds s (omega arith) (omega arith))
    (each-place P n vs w (s + 1) m (λ j more lt. holds j (omega arith) (omega arith)))

-- so it is with all places of a block
pub each-day : (P : ℤ → Type 0) (n : ℤ) (vs : List ℤ) (w : ℕ)
    → ((j : ℕ) → j < 32 → bit_at w j ≡ 1 → P (block_start n +ℤ pos j))
    → AllByRecursion (λ x. P x.0) (block_days (n, (w, vs)))
unfolding days_from
each-day P n vs w holds = each-place P n vs w 0 32 (λ j more lt. holds j (omega arith))

-- no bit, no day, and the other way round
pub no-day : (n : ℤ) (vs : List ℤ) (w : ℕ) → w < 2 ^ 32 → block_days (n, (w, vs)) ≡ [] → w ≡ 0
no-day n vs zero fits none = refl
no-day n vs (suc w) fits none =
    let first = block-first n vs (suc w) (omega arith) fits in absurd (cc (sym first ∙ none))

-- the first of the days of two parts, of which the first has one
pub first-of_parts : (cur rest : List DayValue) → 0 < length cur → slice_get (cur ++ rest) 0 ≡ slice_get cur 0
first-of_parts [] rest some = absurd (omega (arith, some))
first-of_parts (x ∷ xs) rest some = refl

-- days that aren't none have one
pub some-day : (days : List DayValue) → (days ≡ [] → ⊥) → 0 < length days
some-day [] not = absurd (not refl)
some-day (x ∷ xs) not = omega arith

-- if the first of some days comes no later than a last one, it is among those up to that one
pub begins-taken : (last : ℤ) (cur rest taken left : List DayValue) → 0 < length cur → BeginsBy last (cur ++ rest)
    → cur ≡ taken ++ left → AllByRecursion (λ x. last <ℤ x.0) left → 0 < length taken
begins-taken last cur rest (t ∷ ts) left some begins parts later = omega arith
begins-taken last [] rest [] left some begins parts later = absurd (omega (arith, some))
begins-taken last (x ∷ xs) rest [] [] some begins parts later = absurd cc
begins-taken last (x ∷ xs) rest [] (y ∷ ys) some begins parts later =
    let same : x ≡ y = cc in let day : x.0 ≡ y.0 = ap (λ (d : DayValue). d.0) same in
    absurd (omega (arith, ints, begins, later.0, day))

-- if the block at hand has no day left, the next one comes
pub begun-next : (all cur behind block rest : List DayValue) → cur ++ behind ≡ all → cur ≡ [] → behind ≡ block ++ rest
    → all ≡ block ++ rest
begun-next all cur behind block rest is none parts = sym is ∙ ap (λ (days : List DayValue). days ++ behind) none ∙ parts

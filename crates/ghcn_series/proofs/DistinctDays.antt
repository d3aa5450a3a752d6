-- The usable days of months of different times are different days.
use Rattle.ghcn_series.proofs.Cited.{◌≡◌, ℕ, ◌+◌, ◌≤◌, Bool, true, false, List, [], ◌∷◌, Option, Some, None, refl, sym}
use Rattle.ghcn_series.proofs.Cited.{ap, ◌∙◌, subst, arith, ℤ, pos, ◌||◌, int_le, int_eq, filter_map, flat_map}
use Rattle.ghcn_series.proofs.Cited.{enumerate_from, cons_option, IsDistinct, AllByRecursion, option_and_then, keys_of}
use Rattle.ghcn_series.proofs.Cited.{both_ways, and_from, eq-eqb, day_number, Month, Reading, may_be_negative, DayValue}
use Rattle.ghcn_series.proofs.Cited.{fact_if, counted_day, usable_day, usable_days, same_time, cond_some, map-append}
use Rattle.ghcn_fields.specs.Meaning.Dates.{civil}
use Rattle.ghcn_fields.proofs.CivilDates.{civil-is}
use Rattle.ghcn_series.proofs.Lookups.{int_eq-no}
use Rattle.ghcn_series.proofs.MonthDays.{has_number, civil_of}
use Rattle.ghcn_series.proofs.ListFacts.{each-append, both_distinct, each-weaker}

-- a day's number gives its date back
date_is : (y m d : ℕ) (n : ℤ) → day_number y m d ≡ Some n → civil n ≡ (y, m, d)
date_is y m d n e =
    let has = has_number y m d n e in ap civil has.1 ∙ civil-is y m d (civil_of y m d has.0) has.0.year.0 has.0.year.1

-- the day is the j-th of the month
abbrev IsDayOf : Month → ℕ → ℤ → Type 0
IsDayOf m j n = day_number m.year m.month j ≡ Some n

-- days of different dates differ
apart_by_date : (a b : Month) (i j : ℕ) (m n : ℤ) → (a.year ≡ b.year → a.month ≡ b.month → i ≡ j → ⊥)
    → IsDayOf a i m → IsDayOf b j n → int_eq m n ≡ false
apart_by_date a b i j m n other p q = int_eq-no m n (λ same.
    let dates : ◌≡◌ {A = ℕ × ℕ × ℕ} (a.year, a.month, i) (b.year, b.month, j) = sym (date_is a.year a.month i m p)
    ∙ ap civil same ∙ date_is b.year b.month j n q in
    other (ap (λ (t : ℕ × ℕ × ℕ). t.0) dates) (ap (λ (t : ℕ × ℕ × ℕ). t.1) dates) (ap (λ (t : ℕ × ℕ × ℕ). t.2) dates))

-- what a usable day is made of
abbrev pub Parts : Month → Option ℤ → Option ℤ → DayValue → Type 0
Parts m day value d = (day ≡ Some d.0) × (value ≡ Some d.1) × ((may_be_negative m.element || int_le (pos 0) d.1) ≡ true)

-- a fact that counts has a day and a value that its element can have
pub parts_of : (m : Month) (b : Bool) (o v : Option ℤ) (d : DayValue)
    → option_and_then counted_day (fact_if m b o v) ≡ Some d → Parts m o v d
parts_of m false (Some n) (Some v) d e =
    let is = cond_some {A = DayValue} (may_be_negative m.element || int_le (pos 0) v) (n, v) d e in
    subst (Parts m (Some n) (Some v)) is.1 (refl, refl, is.0)
parts_of m b o v d e = absurd cc

-- a usable day is the day of its place
pub is_day_of : (m : Month) (j : ℕ) (r : Reading) (d : DayValue) → usable_day m (j, r) ≡ Some d → IsDayOf m j d.0
is_day_of m j r d e = (parts_of m r.flagged (day_number m.year m.month j) r.value d e).0

-- each of these days is in the month, from a place on
abbrev AreFrom : Month → ℕ → List ℤ → Type 0
AreFrom m low days = AllByRecursion (λ n. (j : ℕ) × (low ≤ j) × IsDayOf m j n) days

-- a day isn't one of those of other dates
apart_from : (a b : Month) (i low : ℕ) (n : ℤ) (days : List ℤ)
    → ((j : ℕ) → low ≤ j → a.year ≡ b.year → a.month ≡ b.month → i ≡ j → ⊥) → IsDayOf a i n → AreFrom b low days
    → AllByRecursion (λ k. int_eq n k ≡ false) days
apart_from a b i low n days other is =
    each-weaker (λ k. (j : ℕ) × (low ≤ j) × IsDayOf b j k) (λ k. int_eq n k ≡ false) days
    (λ k of. apart_by_date a b i of.0 n k (other of.0 of.1) is of.2)

-- the usable days of readings from a place on are at such places, and differ
usable_from : (m : Month) (low : ℕ) (rs : List Reading)
    → AreFrom m low (keys_of (filter_map (usable_day m) (enumerate_from low rs)))
    × IsDistinct int_eq (keys_of (filter_map (usable_day m) (enumerate_from low rs)))
unfolding IsDistinct
usable_from m low [] = (tt, tt)
usable_from m low (r ∷ rs) =
    let rest : List DayValue = filter_map (usable_day m) (enumerate_from (low + 1) rs) in
    let both = usable_from m (low + 1) rs in
    let later : AreFrom m low (keys_of rest) =
    each-weaker (λ n. (j : ℕ) × (low + 1 ≤ j) × IsDayOf m j n) _ (keys_of rest)
    (λ n of. (of.0, omega (arith, of.1), of.2)) both.0 in
    elim (usable_day m (low, r)) as (λ o. usable_day m (low, r) ≡ o
    → AreFrom m low (keys_of (cons_option o rest)) × IsDistinct int_eq (keys_of (cons_option o rest))) [
      | None ↦ λ is. (later, both.1)
      | Some d ↦ λ is.
          let own = is_day_of m low r d is in
          let other = apart_from m m low (low + 1) d.0 (keys_of rest) (λ j le _ _ e. omega (arith, le, e)) own both.0 in
          (((low, omega arith, own), later), (other, both.1))
    ] refl

-- a day isn't one of those of months of other times
apart_from_others : (a : Month) (i : ℕ) (n : ℤ) (ms : List Month) → AllByRecursion (λ b. same_time a b ≡ false) ms
    → IsDayOf a i n → AllByRecursion (λ k. int_eq n k ≡ false) (keys_of (flat_map usable_days ms))
apart_from_others a i n [] all is = tt
apart_from_others a i n (b ∷ bs) all is =
    rw (map-append (λ (x : DayValue). x.0) (usable_days b) (flat_map usable_days bs))
    (each-append (λ k. int_eq n k ≡ false) (keys_of (usable_days b)) (keys_of (flat_map usable_days bs))
    (apart_from a b i 1 n _ (λ j le year month _. both_ways (same_time a b) all.0
    (and_from _ _ (eq-eqb a.year b.year year) (eq-eqb a.month b.month month))) is (usable_from b 1 b.days).0)
    (apart_from_others a i n bs all.1 is))

-- months of different times have different usable days
pub distinct_days : (ms : List Month) → IsDistinct same_time ms → IsDistinct int_eq (keys_of (flat_map usable_days ms))
unfolding IsDistinct
distinct_days [] distinct = tt
distinct_days (m ∷ ms) distinct =
    rw (map-append (λ (x : DayValue). x.0) (usable_days m) (flat_map usable_days ms))
    (both_distinct int_eq (keys_of (usable_days m)) (keys_of (flat_map usable_days ms)) (usable_from m 1 m.days).1
    (distinct_days ms distinct.1) (each-weaker (λ n. (j : ℕ) × (1 ≤ j) × IsDayOf m j n)
    _ (keys_of (usable_days m)) (λ x of. apart_from_others m of.0 x ms distinct.0 of.2) (usable_from m 1 m.days).0))

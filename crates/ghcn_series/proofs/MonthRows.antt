-- A month's usable days by their places.
use Rattle.ghcn_series.proofs.Cited.{◌≡◌, ℕ, zero, suc, ◌+◌, ◌<◌, ◌≤◌, Bool, true, false, cond, List, [], ◌∷◌, get_or}
use Rattle.ghcn_series.proofs.Cited.{Option, Some, None, inl, inr, refl, sym, ap, subst, ◌∙◌, arith, ℤ, pos, ◌+ℤ◌, ◌<ℤ◌}
use Rattle.ghcn_series.proofs.Cited.{◌≤ℤ◌, unsigned_abs, bit_at, cons_option, filter_map, enumerate_from, option_map}
use Rattle.ghcn_series.proofs.Cited.{option_and_then, cases_lt, lt-ltb, le-ltb, ints, by_lt_z, same_Some, days_in_month}
use Rattle.ghcn_series.proofs.Cited.{days_from_civil, days_in_month_bounds, is_day, day_number, Month, Reading}
use Rattle.ghcn_series.proofs.Cited.{MonthRow, IsMonth, IsRowOf, DayValue, value_on, fact_if, days_from, IsRow, day_of}
use Rattle.ghcn_series.proofs.Cited.{row_days, IsRowFor, counted_day, usable_day, usable_days}
use Rattle.std.proofs.Common.{◌-ℤ◌}
use Rattle.ghcn_files.specs.Rows.{value_at, if_possible, no_reading, day_value, AreDays}
use Rattle.ghcn_series.specs.Gathered.{usable_value}
use Rattle.ghcn_series.proofs.Lookups.{from-value, from-other}
use Rattle.ghcn_series.proofs.RisingDays.{behind, front}
use Rattle.ghcn_series.proofs.MonthDays.{IsOfCalendar, has_number, day_number-is, day_number-after}
use Rattle.ghcn_series.proofs.DistinctDays.{is_day_of}
use Rattle.ghcn_series.proofs.ReadySeries.{is_day-numbered}

-- ---- a row with its days or without

-- it has the month's ID and element
pub for-own : (kept : Bool) (m : Month) (row : MonthRow) → IsRowFor kept m row
    → (row.id ≡ m.id) × (row.element ≡ m.element)
for-own kept m row (inl of) = (of.id, of.element)
for-own kept m row (inr of) = (of.id, of.element)

-- and its days, if they are kept
pub for-kept : (kept : Bool) (m : Month) (row : MonthRow) → kept ≡ true → IsRowFor kept m row → IsRowOf true m row
for-kept kept m row is (inl of) = of
for-kept kept m row is (inr of) = rw is at of

-- ---- days by their places

-- a day of the calendar counts as its reading does
counted_is : (m : Month) (flagged : Bool) (v : Option ℤ) (n : ℤ)
    → option_map (λ (x : DayValue). x.1) (option_and_then counted_day (fact_if m flagged (Some n) v))
    ≡ cond flagged None (option_and_then (if_possible m.element) v)
counted_is m flagged v n = grind arith

-- a day that the calendar lacks doesn't count
missing_is : (m : Month) (flagged : Bool) (v : Option ℤ)
    → option_map (λ (x : DayValue). x.1) (option_and_then counted_day (fact_if m flagged None v)) ≡ None
missing_is m true v = refl
missing_is m false v = refl

-- what can't be anything is nothing
none_if : {X : Type 0} (o : Option X) → ((x : X) → o ≡ Some x → ⊥) → o ≡ None
none_if None never = refl
none_if (Some x) never = absurd (never x refl)

-- the usable value of a day is that of its month's row
pub usable_is : (m : Month) (j : ℕ) → IsMonth m → usable_value m j ≡ day_value m j
usable_is m j right =
    let r : Reading = get_or m.days j no_reading in
    let days : ℕ = days_in_month (pos m.year) m.month in
    elim (cases_lt j days) [
      | inl lt ↦
          let is : IsOfCalendar m.year m.month (j + 1) =
          record { year = right.year; month = right.month; day = (omega arith, omega (arith, lt)) } in
          rw (day_number-is m.year m.month (j + 1) is, lt-ltb j days lt)
          (counted_is m r.flagged r.value (days_from_civil (pos m.year) m.month (j + 1)))
      | inr past ↦
          let none = none_if (day_number m.year m.month (j + 1))
          (λ n is. omega (arith, past, (has_number m.year m.month (j + 1) n is).0.day)) in
          rw (none, le-ltb j days past) (missing_is m r.flagged r.value)
    ]

-- a reading of nothing isn't usable
pub unread : (m : Month) (j : ℕ) → usable_day m (j, no_reading) ≡ None
unread m j = elim (day_number m.year m.month j) as (λ o. option_and_then counted_day (fact_if m false o None) ≡ None) [
  | None ↦ refl
  | Some n ↦ refl
]

module _ (m : Month) (first : ℤ) (begins : day_number m.year m.month 1 ≡ Some first) where
  -- the usable day at a place comes that many days after the first
  day-at : (k : ℕ) (r : Reading) (x : DayValue) → usable_day m (k + 1, r) ≡ Some x → x.0 ≡ first +ℤ pos k
  day-at k r x is =
      let day = is_day_of m (k + 1) r x is in
      let has = has_number m.year m.month (k + 1) x.0 day in
      let after = day_number-after m.year m.month k first begins (omega (arith, has.0.day)) in
      same_Some x.0 (first +ℤ pos k) (sym day ∙ after.0)

  -- a day that isn't that of a place is looked up after it
  after_place : (r : Reading) (rs : List Reading) (s : ℕ) (d : ℤ) → (first +ℤ pos s ≡ d → ⊥)
      → value_on (filter_map (usable_day m) (enumerate_from (s + 1) (r ∷ rs))) d
      ≡ value_on (filter_map (usable_day m) (enumerate_from (s + 1 + 1) rs)) d
  after_place r rs s d other =
      let rest : List DayValue = filter_map (usable_day m) (enumerate_from (s + 1 + 1) rs) in
      elim (usable_day m (s + 1, r)) as
      (λ o. usable_day m (s + 1, r) ≡ o → value_on (cons_option o rest) d ≡ value_on rest d) [
        | None ↦ λ is. refl
        | Some x ↦ λ is. behind x rest d (λ e. other (sym (day-at s r x is) ∙ e))
      ] refl

  -- a day at none of some places isn't usable
  elsewhere : (rs : List Reading) (s : ℕ) (d : ℤ) → ((k : ℕ) → s ≤ k → first +ℤ pos k ≡ d → ⊥)
      → value_on (filter_map (usable_day m) (enumerate_from (s + 1) rs)) d ≡ None
  elsewhere [] s d other = refl
  elsewhere (r ∷ rs) s d other =
      after_place r rs s d (other s (omega arith)) ∙ elsewhere rs (s + 1) d (λ k le. other k (omega (arith, le)))

  -- the day at a place has its value
  found : (rs : List Reading) (s j k : ℕ) → s + j ≡ k
      → value_on (filter_map (usable_day m) (enumerate_from (s + 1) rs)) (first +ℤ pos k)
      ≡ option_map (λ (x : DayValue). x.1) (usable_day m (k + 1, get_or rs j no_reading))
  found [] s j k at = sym (ap (option_map (λ (x : DayValue). x.1)) (unread m (k + 1)))
  found (r ∷ rs) s zero k at =
      let rest : List DayValue = filter_map (usable_day m) (enumerate_from (s + 1 + 1) rs) in
      let same : k ≡ s = omega (arith, at) in
      rw same (elim (usable_day m (s + 1, r)) as (λ o. usable_day m (s + 1, r) ≡ o
      → value_on (cons_option o rest) (first +ℤ pos s) ≡ option_map (λ (x : DayValue). x.1) o) [
        | None ↦ λ is. elsewhere rs (s + 1) (first +ℤ pos s) (λ i le e. omega (arith, ints, le, e))
        | Some x ↦ λ is. ap (value_on (x ∷ rest)) (sym (day-at s r x is)) ∙ front x rest
      ] refl)
  found (r ∷ rs) s (suc j) k at =
      after_place r rs s (first +ℤ pos k) (λ e. omega (arith, ints, at, e)) ∙ found rs (s + 1) j k (omega (arith, at))

  -- no month has a day past its 31st
  past-none : (k : ℕ) (r : Reading) → 31 ≤ k → usable_day m (k + 1, r) ≡ None
  past-none k r past = none_if (usable_day m (k + 1, r)) (λ x is.
      let has = has_number m.year m.month (k + 1) x.0 (is_day_of m (k + 1) r x is) in
      omega (arith, past, has.0.day, days_in_month_bounds (pos m.year) m.month))

  module _ (w : ℕ) (vs : List ℤ) (right : IsMonth m) (row : AreDays (day_value m) w vs) where
    -- the row has the usable value of each day
    row-holds : (k : ℕ) → k < 32 → value_at w vs k ≡ usable_value m k
    row-holds k lt = elim (cases_lt k 31) [
      | inl less ↦ row.holds k less ∙ sym (usable_is m k right)
      | inr last ↦
          let same : k ≡ 31 = omega (arith, lt, last) in
          let unset : bit_at w 31 ≡ 0 = omega (arith, row.fits) in
          rw (past-none k (get_or m.days k no_reading) last, same, unset) refl
    ]

    -- on each day from the first one on, the row has the values of the month's usable days
    on_day : (k : ℕ) → value_on (days_from first w vs) (first +ℤ pos k) ≡ value_on (usable_days m) (first +ℤ pos k)
    on_day k =
        let usable = found m.days 0 k k (omega arith) in
        elim (cases_lt k 32) [
          | inl lt ↦ from-value first w vs k lt ∙ row-holds k lt ∙ sym usable
          | inr past ↦
              let none = past-none k (get_or m.days k no_reading) (omega (arith, past)) in
              from-other first w vs (first +ℤ pos k) (λ j lt e. omega (arith, ints, lt, past, e))
              ∙ sym (rw none at usable)
        ]

    -- the days of a month's row have the values of its usable days
    pub row-values : (d : ℤ) → value_on (days_from first w vs) d ≡ value_on (usable_days m) d
    row-values d = by_lt_z d first (λ (lt : d <ℤ first).
        from-other first w vs d (λ j less e. omega (arith, ints, lt, e))
        ∙ sym (elsewhere m.days 0 d (λ k le e. omega (arith, ints, lt, e))))
        (λ (ge : first ≤ℤ d).
        let k : ℕ = unsigned_abs (d -ℤ first) in
        let at : first +ℤ pos k ≡ d = omega (arith, ints, ge) in
        subst (λ (z : ℤ). value_on (days_from first w vs) z ≡ value_on (usable_days m) z) at (on_day k))

    -- and are as those of a row may be
    pub row-is : IsRow first w vs
    row-is = record {
      fits = omega (arith, row.fits);
      zeros = λ j lt. row.zeros j;
      days = λ j lt set. usable j (get_or vs j (pos 0)) (sym (rw set at (row-holds j lt)));
    }
      where
        usable : (j : ℕ) (v : ℤ) → usable_value m j ≡ Some v → is_day (first +ℤ pos j) ≡ true
        usable j v some = elim (usable_day m (j + 1, get_or m.days j no_reading)) as
            (λ o. usable_day m (j + 1, get_or m.days j no_reading) ≡ o → option_map (λ (x : DayValue). x.1) o
            ≡ Some v → is_day (first +ℤ pos j) ≡ true) [
              | None ↦ λ is e. absurd cc
              | Some x ↦ λ is e. ap is_day (sym (day-at j (get_or m.days j no_reading) x is))
                  ∙ is_day-numbered m.year m.month (j + 1) x.0 (is_day_of m (j + 1) (get_or m.days j no_reading) x is)
            ] refl some

-- a month's row at the place of its first day: as a row may be, with the values of the month's usable days
pub row-at : (m : Month) (row : MonthRow) (first number block : ℤ) (place : ℕ) → IsMonth m → IsRowOf true m row
    → day_number row.year row.month 1 ≡ Some first → number ≡ block → day_of block place ≡ first
    → IsRow (day_of number place) row.word row.values
    × ((d : ℤ) → value_on (row_days number place row.word row.values) d ≡ value_on (usable_days m) d)
row-at m row first number block place right of first_is near at =
    let begins : day_number m.year m.month 1 ≡ Some first = rw (← of.year, ← of.month) first_is in
    let is : day_of number place ≡ first = ap (λ (n : ℤ). day_of n place) near ∙ at in
    let values = row-values m first begins row.word row.values right of.days in
    rw is (row-is m first begins row.word row.values right of.days, values)

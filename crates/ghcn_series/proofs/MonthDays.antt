-- The days of a month by their places, and what of them counts.
use Rattle.ghcn_series.proofs.Cited.{◌≡◌, ℕ, ◌+◌, ◌<◌, ◌≤◌, Bool, true, cond, Some, None, sym, ap, ◌∙◌, arith, ℤ, pos}
use Rattle.ghcn_series.proofs.Cited.{◌+ℤ◌, nat_tests, ints, cond_some, days_in_month, days_from_civil, is_day}
use Rattle.ghcn_series.proofs.Cited.{day_number, is_day-from_civil}
use Rattle.jiff_core.specs.Calendar.{IsCivilDate}
use Rattle.jiff_core.proofs.SignedLemmas.{signed_arith}
use Rattle.jiff_core.proofs.CalendarLemmas.{days_from_civil-day_count, day_count-day}
use Rattle.ghcn_fields.specs.Days.{day_if, is_date}

-- a day of a month that many places after its first
later_day : (y : ℤ) (m i : ℕ) → days_from_civil y m (i + 1) ≡ days_from_civil y m 1 +ℤ pos i
later_day y m i =
    let later = days_from_civil-day_count y m (i + 1) in
    let first = days_from_civil-day_count y m 1 in
    omega (arith, signed_arith, later, first, day_count-day y m (i + 1) 1 (omega arith) (omega arith))

-- what the parts of a date are
pub record IsOfCalendar (y m d : ℕ) : Type 0 where
  pub year : (1 ≤ y) × (y ≤ 9999)
  pub month : (1 ≤ m) × (m ≤ 12)
  pub day : (1 ≤ d) × (d ≤ days_in_month (pos y) m)

-- parts of the calendar are a date of it
pub civil_of : (y m d : ℕ) → IsOfCalendar y m d → IsCivilDate (pos y) m d
civil_of y m d is = ((omega (arith, ints, is.year), omega (arith, ints, is.year)), is.month, is.day)

-- the parts of a date are in the calendar
pub from_date : (y m d : ℕ) → is_date y m d ≡ true → IsOfCalendar y m d
from_date y m d e = record {
  year = (grind (arith, nat_tests), grind (arith, nat_tests));
  month = (grind (arith, nat_tests), grind (arith, nat_tests));
  day = (grind (arith, nat_tests), grind (arith, nat_tests));
}

-- a day that has a number is in the calendar, and its number is that of its date
pub has_number : (y m d : ℕ) (n : ℤ) → day_number y m d ≡ Some n
    → IsOfCalendar y m d × (n ≡ days_from_civil (pos y) m d)
has_number y m d n e =
    let is = cond_some (is_date y m d) (days_from_civil (pos y) m d) n e in (from_date y m d is.0, sym is.1)

-- a day of the calendar has its number
pub day_number-is : (y m d : ℕ) → IsOfCalendar y m d → day_number y m d ≡ Some (days_from_civil (pos y) m d)
day_number-is y m d is =
    let date : is_date y m d ≡ true = grind (arith, nat_tests, is.year, is.month, is.day) in
    ap (λ (b : Bool). cond b (Some (days_from_civil (pos y) m d)) None) date

-- the day that many places after a month's first
pub day_number-after : (y m i : ℕ) (first : ℤ) → day_number y m 1 ≡ Some first → i < days_in_month (pos y) m
    → (day_number y m (i + 1) ≡ Some (first +ℤ pos i)) × (day_if (first +ℤ pos i) ≡ Some (first +ℤ pos i))
day_number-after y m i first is lt =
    let has = has_number y m 1 first is in
    let of : IsOfCalendar y m (i + 1) =
    record { year = has.0.year; month = has.0.month; day = (omega arith, omega arith) } in
    let day = is_day-from_civil y m (i + 1) (civil_of y m (i + 1) of) of.year.0 in
    let same : days_from_civil (pos y) m (i + 1) ≡ first +ℤ pos i = rw has.1 (later_day (pos y) m i) in
    let counts = ap (λ (b : Bool). cond b (Some (first +ℤ pos i)) None) (ap is_day (sym same) ∙ day) in
    (day_number-is y m (i + 1) of ∙ ap (λ (z : ℤ). Some z) same, counts)

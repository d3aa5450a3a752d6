-- Whole years and then whole months, taken off a day number, leave the date.
use Rattle.std.proofs.Common.{◌≡◌, ℕ, zero, suc, ◌+◌, ◌-◌, ◌<◌, ◌≤◌, true, refl, arith, ℤ, pos, negsuc, ◌-ℤ◌, ◌<ℤ◌}
use Rattle.std.proofs.Common.{◌≤ℤ◌, rules, inl, inr}
use Rattle.std.specs.Prelude.{unsigned_abs}
use Rattle.std.proofs.lemmas.Bool.Decides.{nat_tests}
use Rattle.std.proofs.lemmas.Bool.{cases_lt}
use Rattle.jiff_core.specs.Calendar.{day_count, days_of_months, days_from_civil, days_in_month, days_in_year}
use Rattle.jiff_core.specs.Calendar.{IsCivilDate}
use Rattle.jiff_core.proofs.SignedLemmas.{signed_arith}
use Rattle.jiff_core.proofs.CalendarLemmas.{days_from_civil-day_count, day_count-day_of_year, day_count-next_year}
use Rattle.jiff_core.proofs.CalendarLemmas.{day_count-lt_year, days_of_months-zero, days_of_months_more, day_count-end}
use Rattle.jiff_core.proofs.CalendarLemmas.{days_of_months_all, day_count-lt_month, day_count-day}
use Rattle.ghcn_fields.specs.Meaning.Days.{first_day, is_day, last_day}
use Rattle.ghcn_fields.specs.Meaning.Dates.{year_and_rest, month_and_day, civil}
use Rattle.ghcn_fields.proofs.DayNumbers.{first_count, is_day-from_civil}

-- if no year may be taken off, the year stays
pub year-zero : (y n : ℕ) → year_and_rest 0 y n ≡ (y, n)
unfolding year_and_rest
year-zero y n = refl

-- days that are fewer than the year has stay in it
pub year-stop : (more y n : ℕ) → n < days_in_year (pos y) → year_and_rest (suc more) y n ≡ (y, n)
unfolding year_and_rest
year-stop more y n lt = grind (arith, nat_tests)

-- otherwise the year is taken off
pub year-go : (more y n : ℕ) → days_in_year (pos y) ≤ n
    → year_and_rest (suc more) y n ≡ year_and_rest more (suc y) (n - days_in_year (pos y))
unfolding year_and_rest
year-go more y n le = grind (arith, nat_tests)

-- if no month may be taken off, the month stays
pub month-zero : (y m n : ℕ) → month_and_day 0 y m n ≡ (m, suc n)
unfolding month_and_day
month-zero y m n = refl

-- days that are fewer than the month has stay in it
pub month-stop : (more y m n : ℕ) → n < days_in_month (pos y) m → month_and_day (suc more) y m n ≡ (m, suc n)
unfolding month_and_day
month-stop more y m n lt = grind (arith, nat_tests)

-- otherwise the month is taken off
pub month-go : (more y m n : ℕ) → days_in_month (pos y) m ≤ n
    → month_and_day (suc more) y m n ≡ month_and_day more y (suc m) (n - days_in_month (pos y) m)
unfolding month_and_day
month-go more y m n le = grind (arith, nat_tests)

-- a number that isn't negative is its own magnitude
pub abs-of : (z : ℤ) → pos 0 ≤ℤ z → pos (unsigned_abs z) ≡ z
abs-of z h = grind arith

-- a year from first to last, and a day of it, that lies n days after the first of the years
record IsYearAndRest (first last n : ℕ) (r : ℕ × ℕ) : Type 0 where
  from : first ≤ r.0
  to : r.0 ≤ last
  rest : r.1 < days_in_year (pos r.0)
  whole : n + day_count (pos first) 1 1 ≡ day_count (pos r.0) 1 1 + r.1

-- whole years are taken off until the day is in one
years_taken : (more first n : ℕ) → n + day_count (pos first) 1 1 < day_count (pos (first + more + 1)) 1 1
    → IsYearAndRest first (first + more) n (year_and_rest more first n)
years_taken zero first n lt =
    let next = day_count-next_year (pos first) (pos (first + 0 + 1)) (omega (arith, signed_arith))
    (omega (arith, signed_arith)) in
    rw (year-zero first n) (grind arith)
years_taken (suc more) first n lt = elim (cases_lt n (days_in_year (pos first))) [
  | inl here ↦ rw (year-stop more first n here) (grind arith)
  | inr later ↦
      let next = day_count-next_year (pos first) (pos (suc first)) (omega (arith, signed_arith))
      (omega (arith, signed_arith)) in
      let r = years_taken more (suc first) (n - days_in_year (pos first)) (grind arith) in
      rw (year-go more first n later) (grind arith)
]

-- the same of a month and a day of it
record IsMonthAndDay (year first last n : ℕ) (r : ℕ × ℕ) : Type 0 where
  from : first ≤ r.0
  to : r.0 ≤ last
  low : 1 ≤ r.1
  high : r.1 ≤ days_in_month (pos year) r.0
  whole : n + days_of_months (pos year) (first - 1) + 1 ≡ days_of_months (pos year) (r.0 - 1) + r.1

-- whole months are taken off until the day is in one
months_taken : (more year first n : ℕ) → 1 ≤ first
    → n + days_of_months (pos year) (first - 1) < days_of_months (pos year) (first + more)
    → IsMonthAndDay year first (first + more) n (month_and_day more year first n)
months_taken zero year first n low lt =
    let more = days_of_months_more (pos year) first low in rw (month-zero year first n) (grind arith)
months_taken (suc more) year first n low lt = elim (cases_lt n (days_in_month (pos year) first)) [
  | inl here ↦ rw (month-stop more year first n here) (grind arith)
  | inr later ↦
      let next = days_of_months_more (pos year) first low in
      let r = months_taken more year (suc first) (n - days_in_month (pos year) first) (omega arith) (grind arith) in
      rw (month-go more year first n later) (grind arith)
]

-- a day isn't before the first day
pub day-low : (n : ℤ) → is_day n ≡ true → first_day ≤ℤ n
day-low n e = grind arith

-- nor after the last one
day-high : (n : ℤ) → is_day n ≡ true → n ≤ℤ last_day
day-high n e = grind arith

-- the date that is found for a day is one of the calendar, in the years 1 to 9999, and has the day's number
pub record IsDateOf (day : ℤ) (found : ℕ × ℕ × ℕ) : Type 0 where
  pub low : 1 ≤ found.0
  pub date : IsCivilDate (pos found.0) found.1 found.2
  pub number : days_from_civil (pos found.0) found.1 found.2 ≡ day

-- the date that is found for a day is such a date
pub civil-date_of : (day : ℤ) → is_day day ≡ true → IsDateOf day (civil day)
civil-date_of day is =
    let low : first_day ≤ℤ day = day-low day is in
    let high : day ≤ℤ last_day = day-high day is in
    let n : ℕ = unsigned_abs (day -ℤ first_day) in
    let back : pos n ≡ day -ℤ first_day = abs-of (day -ℤ first_day) (omega (arith, signed_arith, low)) in
    let few : n ≤ 3_652_058 = omega (arith, signed_arith, back, high) in
    let r : ℕ × ℕ = year_and_rest 9998 1 n in
    let years : IsYearAndRest 1 9999 n r = years_taken 9998 1 n (omega (arith, first_count, day_count-end, few)) in
    let m : ℕ × ℕ = month_and_day 11 r.0 1 r.1 in
    let months : IsMonthAndDay r.0 1 12 r.1 m = months_taken 11 r.0 1 r.1 (omega arith)
    (omega (arith, days_of_months-zero (pos r.0), days_of_months_all (pos r.0), years.rest)) in
    let whole = day_count-day_of_year (pos r.0) m.0 m.1 months.low in
    record {
      low = years.from;
      date = (
        (omega (arith, signed_arith), omega (arith, signed_arith, years.to)),
        (months.from, months.to),
        (months.low, months.high),
      );
      number = omega (
        arith,
        signed_arith,
        days_from_civil-day_count (pos r.0) m.0 m.1,
        whole,
        years.whole,
        months.whole,
        days_of_months-zero (pos r.0),
        back,
        first_count,
      );
    }

-- dates with the same number of days before them are in the same year
same_year : (y m d y₂ m₂ d₂ : ℕ) → IsCivilDate (pos y) m d → IsCivilDate (pos y₂) m₂ d₂
    → day_count (pos y) m d ≡ day_count (pos y₂) m₂ d₂ → y ≡ y₂
same_year y m d y₂ m₂ d₂ p q e = grind (arith, signed_arith, day_count-lt_year)

-- and are the same
same_date : (y m d y₂ m₂ d₂ : ℕ) → IsCivilDate (pos y) m d → IsCivilDate (pos y₂) m₂ d₂
    → day_count (pos y) m d ≡ day_count (pos y₂) m₂ d₂ → ◌≡◌ {A = ℕ × ℕ × ℕ} (y, m, d) (y₂, m₂, d₂)
same_date y m d y₂ m₂ d₂ p q e =
    let year = same_year y m d y₂ m₂ d₂ p q e in
    let more = day_count-lt_month (pos y) m d m₂ d₂ p q.2.0 in
    let less = day_count-lt_month (pos y₂) m₂ d₂ m d q p.2.0 in
    let day = day_count-day (pos y) m d d₂ p.2.0 q.2.0 in
    grind arith

-- the date of a day number is the one that has it
pub civil-is : (y m d : ℕ) → IsCivilDate (pos y) m d → 1 ≤ y → y ≤ 9999
    → civil (days_from_civil (pos y) m d) ≡ (y, m, d)
civil-is y m d date low high =
    let f : ℕ × ℕ × ℕ = civil (days_from_civil (pos y) m d) in
    let found = civil-date_of (days_from_civil (pos y) m d) (is_day-from_civil y m d date low) in
    same_date f.0 f.1 f.2 y m d found.date date (omega (
      arith,
      signed_arith,
      found.number,
      days_from_civil-day_count (pos f.0) f.1 f.2,
      days_from_civil-day_count (pos y) m d,
    ))

-- a date before the year 1 has a number below the first day's
before_one : (y : ℤ) (m d : ℕ) → IsCivilDate y m d → y <ℤ pos 1 → days_from_civil y m d <ℤ first_day
before_one y m d date lt =
    grind (arith, nat_tests, signed_arith, days_from_civil-day_count, day_count-lt_year, first_count)

-- a date whose day number isn't before the first day
pub civil-date : (y : ℤ) (m d : ℕ) → IsCivilDate y m d → first_day ≤ℤ days_from_civil y m d
    → civil (days_from_civil y m d) ≡ (unsigned_abs y, m, d)
civil-date (pos zero) m d date low = absurd (omega
    (arith, signed_arith, low, before_one (pos 0) m d date (omega (arith, signed_arith))))
civil-date (pos (suc y)) m d date low = civil-is (suc y) m d date (omega arith) (omega (arith, signed_arith, date.0.1))
civil-date (negsuc y) m d date low = absurd (omega
    (arith, signed_arith, low, before_one (negsuc y) m d date (omega (arith, signed_arith))))

-- a date from the year 1 on
pub civil-of : (y : ℤ) (m d : ℕ) → IsCivilDate y m d → pos 1 ≤ℤ y
    → civil (days_from_civil y m d) ≡ (unsigned_abs y, m, d)
civil-of y m d date low = search (rules, civil-is, signed_arith)

-- Each day number of the years 1 to 9999 is the number of the date that is found for it.
use Rattle.std.proofs.Common.{◌≡◌, ◌↔◌, ℕ, ◌≤◌, true, Some, arith, ℤ, pos}
use Rattle.std.proofs.lemmas.Bool.Decides.{nat_tests}
use Rattle.jiff_core.specs.Calendar.{days_from_civil, IsCivilDate}
use Rattle.jiff_core.proofs.SignedLemmas.{signed_arith}
use Rattle.ghcn_fields.specs.Meaning.Days.{is_day}
use Rattle.ghcn_fields.specs.Days.{is_date, day_number}
use Rattle.ghcn_fields.specs.Meaning.Dates.{civil}
use Rattle.ghcn_fields.proofs.DayNumbers.{is_day-date}
use Rattle.ghcn_fields.proofs.CivilDates.{civil-is, civil-date_of}

-- and a date is what the calendar has
pub is_date-to_civil : (y m d : ℕ) → is_date y m d ≡ true → (1 ≤ y) × (y ≤ 9999) × IsCivilDate (pos y) m d
is_date-to_civil y m d e = grind arith

-- year, month and day of a day lead back to it
pub day_number-civil : (day : ℤ) → is_day day ≡ true → day_number (civil day).0 (civil day).1 (civil day).2 ≡ Some day
day_number-civil day is = grind (arith, nat_tests, civil-date_of)

-- a day that is found is a date, and has its number
pub day_number-some : (y m d : ℕ) (day : ℤ) → day_number y m d ≡ Some day
    → (is_date y m d ≡ true) × (days_from_civil (pos y) m d ≡ day)
day_number-some y m d day e = grind arith

-- a date has the number of a day if and only if it is that day's year, month and day of the month
pub day_number-law : (y m d : ℕ) (n : ℤ)
    → (day_number y m d ≡ Some n) ↔ ((is_day n ≡ true) × (civil n ≡ (y, m, d)))
day_number-law y m d n =
    grind (arith, nat_tests, is_date-to_civil, day_number-civil, day_number-some, signed_arith, is_day-date, civil-is)

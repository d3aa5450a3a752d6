-- Dates: year, month and day of the month, and their text.
use Rattle.std.specs.Prelude.{ℕ, zero, suc, ◌-◌, true, false, nat_lt, List, ◌∷◌, ◌++◌, ℤ, pos, ◌-ℤ◌, unsigned_abs}
use Rattle.jiff_core.specs.Calendar.{days_in_month, days_in_year}
use Rattle.ghcn_fields.specs.Meaning.NumberTexts.{last_digits}
use Rattle.ghcn_fields.specs.Meaning.Days.{first_day}

-- the day that is n days after 1 January of a year: its own year, and how many days of that year come before it. The
-- first argument is the greatest number of years that are passed. 366 days after 1 January 2020 it is 2021 and 0.
unfoldable pub year_and_rest : ℕ → ℕ → ℕ → ℕ × ℕ
year_and_rest zero year n = (year, n)
year_and_rest (suc more) year n = elim (nat_lt n (days_in_year (pos year))) [
  | true ↦ (year, n)
  | false ↦
      year_and_rest more (suc year) (n - days_in_year (pos year))
]

-- the day that is n days after the first day of a month of a year: its own month, and its day of the month, from 1. The
-- first argument is the greatest number of months that are passed. 31 days after 1 January it is 2 and 1.
unfoldable pub month_and_day : ℕ → ℕ → ℕ → ℕ → ℕ × ℕ
month_and_day zero year month n = (month, suc n)
month_and_day (suc more) year month n = elim
    (nat_lt n (days_in_month (pos year) month)) [
      | true ↦ (month, suc n)
      | false ↦
          month_and_day more year (suc month) (n - days_in_month (pos year) month)
    ]

-- the date of a day by its number: year, month and day of the month. Whole years are counted from 0001-01-01 on, and
-- then whole months.
abbrev pub civil : ℤ → ℕ × ℕ × ℕ
civil n =
    let year = year_and_rest 9998 1 (unsigned_abs (n -ℤ first_day)) in
    let month = month_and_day 11 year.0 1 year.1 in
    (year.0, month.0, month.1)

-- the text of a date, YYYY-MM-DD
abbrev pub date_bytes : ℕ × ℕ × ℕ → List ℕ
date_bytes date = last_digits 4 date.0 ++ 45 ∷ last_digits 2 date.1 ++ 45 ∷ last_digits 2 date.2

-- the text of a day's date, YYYY-MM-DD
abbrev pub date_text : ℤ → List ℕ
date_text n = date_bytes (civil n)

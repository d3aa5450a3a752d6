-- Dates of the calendar with the numbers of their days, and blocks of days.
use Rattle.std.specs.Prelude.{ℕ, Bool, ◌&&◌, if◌then◌else◌, Option, None, Some, ℤ, pos, ◌≤ℤ◌}
use Rattle.std.specs.Int.{int_div_euclid}
use Rattle.jiff_core.specs.Calendar.{days_from_civil, days_in_month}
use Rattle.ghcn_fields.specs.Meaning.Days.{is_within, first_day, last_day, is_day}

-- the calendar has a day with this year, month and day of the month, in the years 1 to 9999
abbrev pub is_date : ℕ → ℕ → ℕ → Bool
is_date year month day = is_within 1 9999 year && is_within 1 12 month && is_within 1
    (days_in_month (pos year) month) day

-- the number of the day with this date, if the calendar has it
abbrev pub day_number : ℕ → ℕ → ℕ → Option ℤ
day_number year month day = if is_date year month day then Some (days_from_civil (pos year) month day) else None

-- n, if it is the number of a day
abbrev pub day_if : ℤ → Option ℤ
day_if n = if is_day n then Some n else None

-- the block of 32 days that holds a day: block 0 has the days 0 to 31
abbrev pub block_of : ℤ → ℤ
block_of n = int_div_euclid n (pos 32)

-- b is the number of a block that holds a day of the years 1 to 9999
pub record IsBlock (b : ℤ) : Type 0 where
  pub low : block_of first_day ≤ℤ b
  pub high : b ≤ℤ block_of last_day

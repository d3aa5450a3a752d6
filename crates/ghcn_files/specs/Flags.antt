-- The values of a month that a quality check flagged.
use Rattle.std.specs.Prelude.{◌≡◌, ℕ, ◌+◌, ◌<◌, Bool, false, ◌&&◌, nat_le, pos, List}
use Rattle.std.specs.List.{count_by, enumerate_from}
use Rattle.std.specs.Option.{is_some}
use Rattle.jiff_core.specs.Calendar.{days_in_month}
use Rattle.ghcn_files.specs.declared.month.Month.{Month}
use Rattle.ghcn_files.specs.declared.month.Reading.{Reading}
use Rattle.ghcn_files.specs.Months.{is_flagged}

-- a day, by its place and its reading, is one of that many, and has a flagged value, which isn't missing
abbrev pub is_flagged_value : ℕ → ℕ × Reading → Bool
is_flagged_value days x = nat_le x.0 days && x.1.flagged && is_some x.1.value

-- how many values of a month's days a quality check flagged
abbrev pub flagged_values : Month → ℕ
flagged_values m = count_by (is_flagged_value (days_in_month (pos m.year) m.month)) (enumerate_from 1 m.days)

-- the first n days of a line have no quality flag
abbrev pub HasNoFlag : List ℕ → ℕ → Type 0
HasNoFlag line n = (j : ℕ) → j < n → is_flagged line (j + 1) ≡ false

-- A month's values as a row: a word of the days whose values count, and the values of those days.
use Rattle.std.specs.Prelude.{◌≡◌, ℕ, ◌+◌, ◌<◌, ◌^◌, ◌==◌, ◌||◌, Bool, true, false, if◌then◌else◌, List, get_or, Option}
use Rattle.std.specs.Prelude.{None, Some, Result, Ok, Err, ℤ, pos, neg_ℤ, int_le, nat_lt, ◌&&◌, not}
use Rattle.std.specs.Int.{bit_at}
use Rattle.std.specs.Option.{option_and_then}
use Rattle.jiff_core.specs.Calendar.{days_in_month}
use Rattle.ghcn_fields.specs.Numbers.{number_or}
use Rattle.ghcn_files.specs.declared.element.Element.{Element}
use Rattle.ghcn_files.specs.declared.element.Keep.{Keep}
use Rattle.ghcn_files.specs.declared.month.Month.{Month}
use Rattle.ghcn_files.specs.declared.month.Reading.{Reading}
use Rattle.ghcn_files.specs.declared.row.MonthRow.{MonthRow}
use Rattle.ghcn_files.specs.declared.fault.LineWhy.{LineWhy}
use Rattle.ghcn_files.specs.Meaning.Elements.{may_be_negative}
use Rattle.ghcn_files.specs.Elements.{is_kept}
use Rattle.ghcn_files.specs.Months.{reading, value_field, is_flagged, read_month, IsMonth}

-- x, if the test passes
abbrev pub if_so : {A : Type 0} → Bool → A → Option A
if_so t x = if t then Some x else None

-- the value at a place of a row, if its bit is set
abbrev pub value_at : ℕ → List ℤ → ℕ → Option ℤ
value_at word values j = if_so (bit_at word j == 1) (get_or values j (pos 0))

-- a value, if the element can have it: only temperatures are negative
abbrev pub if_possible : Element → ℤ → Option ℤ
if_possible e v = if_so (may_be_negative e || int_le (pos 0) v) v

-- the value of a reading that counts: it isn't missing, no quality check failed, and the element can have it
abbrev pub good_value : Element → Reading → Option ℤ
good_value e r = if r.flagged then None else option_and_then (if_possible e) r.value

-- a reading of nothing
abbrev pub no_reading : Reading
no_reading = record { value = None; flagged = false }

-- the value of a day at a place, from 0, of a month with that many days
abbrev pub value_within : ℕ → Element → ℕ → Reading → Option ℤ
value_within days e j r = if nat_lt j days then good_value e r else None

-- the value of a month's day at a place, from 0, if the month has that day and its value counts
abbrev pub day_value : Month → ℕ → Option ℤ
day_value m j = value_within (days_in_month (pos m.year) m.month) m.element j (get_or m.days j no_reading)

-- a word and values of 31 days: each has its value, and 0 if that doesn't count
pub record AreDays (day : ℕ → Option ℤ) (word : ℕ) (values : List ℤ) : Type 0 where
  pub fits : word < 2 ^ 31
  pub holds : (j : ℕ) → j < 31 → value_at word values j ≡ day j
  pub zeros : (j : ℕ) → bit_at word j ≡ 0 → get_or values j (pos 0) ≡ pos 0

-- what is at a place, if it is kept
abbrev pub if_kept : {A : Type 0} → Bool → Option A → Option A
if_kept kept o = if kept then o else None

-- the row of a month whose days are kept, or of one whose days aren't
pub record IsRowOf (kept : Bool) (m : Month) (row : MonthRow) : Type 0 where
  pub id : row.id ≡ m.id
  pub element : row.element ≡ m.element
  pub year : row.year ≡ m.year
  pub month : row.month ≡ m.month
  pub days : AreDays (λ j. if_kept kept (day_value m j)) row.word row.values

-- a row is that of the month that a line says, with its days if those of its element are kept
pub record IsOfLine (asked : Keep) (line : List ℕ) (found : MonthRow) : Type 0 where
  pub month : Month
  pub read : read_month line ≡ Ok (Some month)
  pub right : IsMonth month
  pub row : IsRowOf (is_kept asked found.element) month found

-- what is read of a line as a row: that of its month, or nothing, or a refusal, as the month is read
abbrev pub IsRead : Keep → List ℕ → Result (Option MonthRow) LineWhy → Type 0
IsRead asked line (Ok (Some row)) = IsOfLine asked line row
IsRead asked line (Ok None) = read_month line ≡ Ok None
IsRead asked line (Err why) = read_month line ≡ Err why

-- what is read of a line into a row: that of its month; or that it has none, or a refusal, as the month is read
abbrev pub IsReadInto : Keep → List ℕ → MonthRow → Result Bool LineWhy → Type 0
IsReadInto asked line row (Ok true) = IsOfLine asked line row
IsReadInto asked line row (Ok false) = read_month line ≡ Ok None
IsReadInto asked line row (Err why) = read_month line ≡ Err why

-- the value of a day at a place, from 0, of a line, in a month with that many days
abbrev pub line_value : Element → ℕ → List ℕ → ℕ → Option ℤ
line_value e days line j = value_within days e j (reading line (j + 1))

-- the value of a day at a place, from 0, of a line; -9999 stands for a missing one and a flagged one
abbrev pub value_or_missing : List ℕ → ℕ → ℤ
value_or_missing line j =
    if not (is_flagged line (j + 1)) then number_or (neg_ℤ (pos 9999)) (value_field line (j + 1)) else neg_ℤ (pos 9999)

-- these values of the 31 days of a line
abbrev pub AreValues : List ℕ → List ℤ → Type 0
AreValues line values = (j : ℕ) → j < 31 → get_or values j (pos 0) ≡ value_or_missing line j

-- the value at a place, if it is one of that many first places, and the value isn't below a least one
abbrev pub value_from : ℤ → ℕ → List ℤ → ℕ → Option ℤ
value_from least days values j =
    if_so (int_le least (get_or values j (pos 0)) && nat_lt j days) (get_or values j (pos 0))

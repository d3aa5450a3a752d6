-- A line of a daily file: a month of one station and element.
use Rattle.std.specs.Prelude.{ℕ, ◌+◌, ◌*◌, ◌≤◌, Bool, true, ◌&&◌, not, nat_lt, nat_le, if◌then◌else◌, List, [], ◌∷◌}
use Rattle.std.specs.Prelude.{◌++◌, length, map, drop, Option, None, Some, Result, Ok, Err, ℤ, pos, neg_ℤ, int_le}
use Rattle.std.specs.Prelude.{unsigned_abs, IsTrue}
use Rattle.std.specs.List.{range_with_len, list_all}
use Rattle.std.specs.Option.{option_map_or}
use Rattle.ghcn_fields.specs.declared.field.Field.{Field}
use Rattle.ghcn_fields.specs.Meaning.Bytes.{is_blank}
use Rattle.ghcn_fields.specs.Meaning.Lines.{columns}
use Rattle.ghcn_fields.specs.Faults.{first_failing}
use Rattle.ghcn_fields.specs.Numbers.{int_field}
use Rattle.ghcn_files.specs.declared.element.Element.{Element}
use Rattle.ghcn_files.specs.declared.month.Month.{Month}
use Rattle.ghcn_files.specs.declared.month.Reading.{Reading}
use Rattle.ghcn_files.specs.declared.month.Head.{Head}
use Rattle.ghcn_files.specs.declared.fault.LineWhy.{LineWhy}
use Rattle.ghcn_files.specs.declared.fault.LineWhy.TheVariants.{Short, TooLong, BadId, BadYear, BadMonth, BadValue}
use Rattle.ghcn_files.specs.Ids.{is_id}
use Rattle.ghcn_files.specs.Elements.{element_of}
use Rattle.ghcn_files.specs.StationLines.{id_of, is_number_within, is_bad, number_of, unless_missing}

-- the year of a line
abbrev pub year_field : List ℕ → Field
year_field line = int_field (columns 12 15 line)

-- the month of a line
abbrev pub month_field : List ℕ → Field
month_field line = int_field (columns 16 17 line)

-- the value of the day j, from 1: the first five columns of its group of eight
abbrev pub value_field : List ℕ → ℕ → Field
value_field line j = int_field (columns (14 + 8 * j) (18 + 8 * j) line)

-- the day's quality flag, the seventh column of its group, isn't blank
abbrev pub is_flagged : List ℕ → ℕ → Bool
is_flagged line j = not (is_blank (columns (20 + 8 * j) (20 + 8 * j) line))

-- what a line says of the day j
abbrev pub reading : List ℕ → ℕ → Reading
reading line j = record { value = unless_missing (value_field line j); flagged = is_flagged line j }

-- the days of the month for which a line has a group of columns: 1 to 31
unfoldable pub days_of_group : List ℕ
days_of_group = range_with_len 1 31

-- the month that a line of this element describes
abbrev pub month_of : Element → List ℕ → Month
month_of element line = record {
  id = id_of line;
  element = element;
  year = unsigned_abs (number_of (year_field line));
  month = unsigned_abs (number_of (month_field line));
  days = map (reading line) days_of_group;
}

-- the ID, the year and the month of a line
abbrev pub head_of : List ℕ → Head
head_of line = record {
  id = id_of line;
  year = unsigned_abs (number_of (year_field line));
  month = unsigned_abs (number_of (month_field line));
}

-- the test of a day's value, which may be missing but not malformed
abbrev pub value_test : List ℕ → ℕ → Bool × LineWhy
value_test line j = (not (is_bad (value_field line j)), BadValue j)

-- the tests of a line's length, its ID, its year and its month
abbrev pub month_head_tests : List ℕ → List (Bool × LineWhy)
month_head_tests line =
    (nat_le 266 (length line), Short)
    ∷ (is_blank (drop 269 line), TooLong)
    ∷ (is_id (columns 1 11 line), BadId)
    ∷ (is_number_within (pos 1) (pos 9999) (year_field line), BadYear)
    ∷ (is_number_within (pos 1) (pos 12) (month_field line), BadMonth)
    ∷ []

-- the first of these tests that a line fails
abbrev pub head_why : List ℕ → Option LineWhy
head_why line = first_failing (month_head_tests line)

-- the first test that the days of a line fail
abbrev pub days_why : List ℕ → Option LineWhy
days_why line = first_failing (map (value_test line) days_of_group)

-- the first test that a line of one of the five elements fails
abbrev pub month_why : List ℕ → Option LineWhy
month_why line = first_failing (month_head_tests line ++ map (value_test line) days_of_group)

-- a value, unless a line fails a test
abbrev pub unless : {T : Type 0} → Option LineWhy → T → Result T LineWhy
unless None value = Ok value
unless (Some why) value = Err why

-- the month of a line of an element; a line of none of the five is skipped
abbrev pub month_if : Option Element → List ℕ → Result (Option Month) LineWhy
month_if None line = Ok None
month_if (Some e) line = unless (month_why line) (Some (month_of e line))

-- the month of a line that isn't blank, nothing for another element, or the first test that it fails
abbrev pub read_month : List ℕ → Result (Option Month) LineWhy
read_month line = if nat_lt (length line) 21 then Err Short else month_if (element_of (columns 18 21 line)) line

-- a number of at most five columns that doesn't stand for a missing value
abbrev pub is_readable : ℤ → Bool
is_readable v = int_le (neg_ℤ (pos 9998)) v && int_le v (pos 99_999)

-- a missing value, or such a number
abbrev pub is_reading : Reading → Bool
is_reading r = option_map_or is_readable r.value true

-- what is true of every month that is read: a visible ID, a year and a month of the calendar, and values in their range
pub record IsMonth (m : Month) : Type 0 where
  pub id : IsTrue (is_id m.id.0)
  pub year : (1 ≤ m.year) × (m.year ≤ 9999)
  pub month : (1 ≤ m.month) × (m.month ≤ 12)
  pub values : IsTrue (list_all is_reading m.days)

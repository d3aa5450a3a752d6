-- What lines say before their first value that begin with the same columns.
use Rattle.std.specs.Prelude.{◌≡◌, ℕ, ◌≤◌, true, List, length, take, drop, pos, Ok, None}
use Rattle.jiff_core.specs.Calendar.{days_in_month}
use Rattle.ghcn_fields.specs.Meaning.Bytes.{is_blank}
use Rattle.ghcn_files.specs.declared.month.Head.{Head}
use Rattle.ghcn_files.specs.declared.row.MonthRow.{MonthRow}
use Rattle.ghcn_files.specs.Months.{unless, head_why, head_of}

-- a line of all columns, whose last flags alone may be left out, begins with these columns
pub record BeginsWith (columns line : List ℕ) : Type 0 where
  pub long : 266 ≤ length line
  pub ends : is_blank (drop 269 line) ≡ true
  pub front : take 17 line ≡ columns

-- the ID, the year and the month of a row
abbrev pub head_of_row : MonthRow → Head
head_of_row row = record { id = row.id; year = row.year; month = row.month }

-- a row has the head of a line, which passes the tests of a head, and its month that many days
pub record HasHead (line : List ℕ) (days : ℕ) (row : MonthRow) : Type 0 where
  pub long : 266 ≤ length line
  pub fine : head_why line ≡ None
  pub head : head_of_row row ≡ head_of line
  pub many : days ≡ days_in_month (pos row.year) row.month

-- all lines that begin with these columns have the head of a row, whose month has that many days
pub record KnowsHead (columns : List ℕ) (days : ℕ) (row : MonthRow) : Type 0 where
  pub head : (line : List ℕ) → BeginsWith columns line → unless (head_why line) (head_of line) ≡ Ok (head_of_row row)
  pub many : days ≡ days_in_month (pos row.year) row.month

-- What is said about an error of a line of a daily file.
use Rattle.std.specs.Prelude.{ℕ, ◌+◌, ◌*◌, List, codes, length, Option, Some, None}
use Rattle.ghcn_files.specs.declared.fault.LineWhy.TheVariants.{Short, TooLong, BadId, BadYear, BadMonth, BadValue}
use Rattle.ghcn_series.specs.declared.fault.DailyWhy.{DailyWhy}
use Rattle.ghcn_series.specs.declared.fault.DailyWhy.TheVariants.{Line, DuplicateMonth}
use Rattle.explanations.specs.Columns.{columns_in, count_text}

-- the kind of an error
abbrev pub daily_kind : DailyWhy → List ℕ
daily_kind (Line Short) = codes "too few columns"
daily_kind (Line TooLong) = codes "too many columns"
daily_kind (Line BadId) = codes "a bad ID"
daily_kind (Line BadYear) = codes "a bad year"
daily_kind (Line BadMonth) = codes "a bad month"
daily_kind (Line (BadValue day)) = codes "a bad value"
daily_kind DuplicateMonth = codes "a month again"

-- what a line without the error has
abbrev pub daily_wanted : DailyWhy → List ℕ
daily_wanted (Line Short) = codes "a daily line has at least 266"
daily_wanted (Line TooLong) = codes "a daily line has only blanks after column 269"
daily_wanted (Line BadId) = codes "an ID has eleven visible characters"
daily_wanted (Line BadYear) = codes "a year is a number from 1 to 9999"
daily_wanted (Line BadMonth) = codes "a month is a number from 1 to 12"
daily_wanted (Line (BadValue day)) = codes "a value is a whole number or blank"
daily_wanted DuplicateMonth = codes "an earlier line has this ID, year, month and element"

-- what a line with the error has: that many columns, or these bytes in the columns that are wrong
abbrev pub daily_there : DailyWhy → List ℕ → List ℕ
daily_there (Line Short) line = count_text (length line)
daily_there (Line TooLong) line = count_text (length line)
daily_there (Line BadId) line = columns_in line 1 11
daily_there (Line BadYear) line = columns_in line 12 15
daily_there (Line BadMonth) line = columns_in line 16 17
daily_there (Line (BadValue day)) line = columns_in line (14 + 8 * day) (14 + 8 * day + 4)
daily_there DuplicateMonth line = columns_in line 1 21

-- what a line with the error has, if the line is known, and otherwise the kind of the error
abbrev pub daily_found : DailyWhy → Option (List ℕ) → List ℕ
daily_found why None = daily_kind why
daily_found why (Some line) = daily_there why line

-- The lines of the daily files in order, and the first of them with an error.
use Rattle.std.specs.Prelude.{ℕ, ◌<◌, ◌^◌, Bool, true, false, ◌&&◌, not, ◌==◌, if◌then◌else◌, List, length}
use Rattle.std.specs.Prelude.{map, Option, None, Some, Result, Ok, Err, filter, ⊤, [], ◌∷◌}
use Rattle.std.specs.List.{list_any, flat_map, filter_map, enumerate_from}
use Rattle.std.specs.Option.{option_map}
use Rattle.std.specs.Str.Lines.{strip_carriage_return}
use Rattle.ghcn_fields.specs.Meaning.Bytes.{is_blank}
use Rattle.ghcn_fields.specs.Lines.{numbered_lines}
use Rattle.ghcn_fields.specs.Faults.{IsFirstFault}
use Rattle.ghcn_files.specs.declared.station.StationId.{StationId}
use Rattle.ghcn_files.specs.declared.station.Station.{Station}
use Rattle.ghcn_files.specs.declared.month.Month.{Month}
use Rattle.ghcn_files.specs.declared.fault.LineWhy.{LineWhy}
use Rattle.ghcn_files.specs.Meaning.Ids.{same_id}
use Rattle.ghcn_files.specs.Elements.{same_element}
use Rattle.ghcn_files.specs.Meaning.Listed.{is_station_of}
use Rattle.ghcn_files.specs.Months.{read_month}
use Rattle.ghcn_series.specs.declared.fault.DailyWhy.{DailyWhy}
use Rattle.ghcn_series.specs.declared.fault.DailyWhy.TheVariants.{Line, DuplicateMonth}
use Rattle.ghcn_series.specs.declared.fault.DataFault.{DataFault}
use Rattle.ghcn_series.specs.declared.fault.DataFault.TheVariants.{DailyLine, TooManyFiles, Memory}

-- a line of the daily files that isn't blank
pub record FileLine : Type 0 where
  pub file : ℕ
  pub line : ℕ
  pub bytes : List ℕ

-- the line of this number of a file
abbrev pub file_line : ℕ → ℕ × List ℕ → FileLine
file_line file l = record { file = file; line = l.0; bytes = l.1 }

-- of these lines of a file, each with its number, those that aren't blank
abbrev pub not_blank : ℕ → List (ℕ × List ℕ) → List FileLine
not_blank file ls = map (file_line file) (filter (λ l. not (is_blank l.1)) ls)

-- a line of a file, given by the bytes before its line feed, unless it is blank
abbrev pub one_line : ℕ → ℕ → List ℕ → List FileLine
one_line file line bytes = not_blank file ((line, strip_carriage_return bytes) ∷ [])

-- the lines of a file, of this number
abbrev pub file_lines : ℕ × List ℕ → List FileLine
file_lines f = not_blank f.0 (numbered_lines f.1)

-- the lines of all files, by file and line, both from 1
abbrev pub daily_lines : List (List ℕ) → List FileLine
daily_lines files = flat_map file_lines (enumerate_from 1 files)

-- the month that was read, if one was
abbrev pub month_if_ok : Result (Option Month) LineWhy → Option Month
month_if_ok (Ok m) = m
month_if_ok (Err why) = None

-- the month that a line is, if it is a line of the five elements without an error
abbrev pub month_on : FileLine → Option Month
month_on l = month_if_ok (read_month l.bytes)

-- two months have the same station, element, year and month
abbrev pub same_month : Month → Month → Bool
same_month a b = same_id a.id b.id && same_element a.element b.element && (a.year == b.year) && (a.month == b.month)

-- an earlier line is this very month
abbrev pub repeats : List FileLine → Month → Bool
repeats earlier m = list_any (same_month m) (filter_map month_on earlier)

-- the station with this ID is listed
abbrev pub is_listed : List Station → StationId → Bool
is_listed stations id = list_any (is_station_of id) stations

-- why a line is refused after the lines before it
abbrev pub daily_why : List Station → List FileLine → Result (Option Month) LineWhy → Option DailyWhy
daily_why stations earlier (Err why) = Some (Line why)
daily_why stations earlier (Ok None) = None
daily_why stations earlier (Ok (Some m)) = if is_listed stations m.id && repeats earlier m then Some DuplicateMonth else
    None

-- the error of a line after the lines before it
abbrev pub daily_fault : List Station → List FileLine → FileLine → Option DataFault
daily_fault stations earlier l = option_map (λ why. DailyLine l.file l.line why)
    (daily_why stations earlier (read_month l.bytes))

-- memory ran out
abbrev pub is_memory : DataFault → Bool
is_memory (Memory m) = true
is_memory fault = false

-- some line is the first with an error, and has this one
abbrev pub HasFirst : DataFault → List Station → List FileLine → Type 0
HasFirst fault stations ls = (l : FileLine) × IsFirstFault (daily_fault stations) ls l fault

-- out of memory, too many files, or the error of the first line, by file and line, that has one
abbrev pub IsFirstRefusal : DataFault → List Station → List (List ℕ) → Type 0
IsFirstRefusal (Memory m) stations files = ⊤
IsFirstRefusal (DailyLine file line why) stations files =
    HasFirst (DailyLine file line why) stations (daily_lines files)
IsFirstRefusal TooManyFiles stations files = 2 ^ 20 < length files

-- What a station list and daily files say, as lists in the order of the lines, defined for any lines. What they say of a
-- line with an error, for example that a bad number counts as 0 or as missing, doesn't matter here: that no line has one
-- is a separate promise. If no line has one, they say what `Said` says they do.
use Rattle.std.specs.Prelude.{ℕ, not, List, map, filter, Option}
use Rattle.std.specs.List.{filter_map, flat_map, count_by}
use Rattle.std.specs.Option.{option_map}
use Rattle.ghcn_fields.specs.Meaning.Bytes.{is_blank}
use Rattle.ghcn_fields.specs.Meaning.Lines.{columns, lines}
use Rattle.ghcn_files.specs.declared.month.Month.{Month}
use Rattle.ghcn_files.specs.declared.station.Station.{Station}
use Rattle.ghcn_files.specs.Elements.{element_of}
use Rattle.ghcn_files.specs.Months.{month_of}
use Rattle.ghcn_files.specs.StationLines.{station_of}
use Rattle.ghcn_series.specs.DailyFaults.{is_listed}
use Rattle.ghcn_series.specs.Meaning.Says.{Fact}
use Rattle.ghcn_series.specs.Says.{facts_of, is_usable, all_series, in_64_bits}
use Rattle.ghcn_series.specs.Series.{Data}

-- the stations of a list, in its order: one for each line that isn't blank
abbrev pub stations_said : List ℕ → List Station
stations_said text = map station_of (filter (λ l. not (is_blank l)) (lines text))

-- the month of a line of daily files, if the line has the code of one of the five elements
abbrev pub month_said : List ℕ → Option Month
month_said line = option_map (λ e. month_of e line) (element_of (columns 18 21 line))

-- the months of daily files, by file and line
abbrev pub months_said : List (List ℕ) → List Month
months_said files = filter_map month_said (flat_map lines files)

-- the facts of daily files that count, if these stations are listed
abbrev pub facts_said : List Station → List (List ℕ) → List Fact
facts_said stations files = filter (is_usable stations) (flat_map facts_of (months_said files))

-- how many lines of the five elements belong to stations that aren't listed, up to 2^64 - 1
abbrev pub unlisted_said : List Station → List (List ℕ) → ℕ
unlisted_said stations files = in_64_bits (count_by (λ m. not (is_listed stations m.id)) (months_said files))

-- what daily files say of stations, and how many months of other stations
abbrev pub said_by : List Station → List (List ℕ) → Data
said_by stations files = record {
  stations = stations;
  series = all_series stations (facts_said stations files);
  unlisted = unlisted_said stations files;
}

-- What is said about an error of a line of the station list.
use Rattle.std.specs.Prelude.{ℕ, List, codes, length, Option, Some, None}
use Rattle.ghcn_files.specs.declared.fault.StationWhy.{StationWhy}
use Rattle.ghcn_files.specs.declared.fault.StationWhy.TheVariants.{Short, BadId, BadLatitude, BadLongitude, BadElevation}
use Rattle.ghcn_files.specs.declared.fault.StationWhy.TheVariants.{Duplicate}
use Rattle.explanations.specs.Columns.{columns_in, count_text}

-- the kind of an error
abbrev pub station_kind : StationWhy → List ℕ
station_kind Short = codes "too few columns"
station_kind BadId = codes "a bad ID"
station_kind BadLatitude = codes "a bad latitude"
station_kind BadLongitude = codes "a bad longitude"
station_kind BadElevation = codes "a bad elevation"
station_kind Duplicate = codes "a station again"

-- what a line without the error has
abbrev pub station_wanted : StationWhy → List ℕ
station_wanted Short = codes "a line of the station list has at least 30"
station_wanted BadId = codes "an ID has eleven visible characters"
station_wanted BadLatitude = codes "a latitude is a number from -90 to 90"
station_wanted BadLongitude = codes "a longitude is a number from -180 to 180"
station_wanted BadElevation = codes "an elevation is a number or blank"
station_wanted Duplicate = codes "an earlier line has this ID"

-- what a line with the error has: that many columns, or these bytes in the columns that are wrong
abbrev pub station_there : StationWhy → List ℕ → List ℕ
station_there Short line = count_text (length line)
station_there BadId line = columns_in line 1 11
station_there BadLatitude line = columns_in line 13 20
station_there BadLongitude line = columns_in line 22 30
station_there BadElevation line = columns_in line 32 37
station_there Duplicate line = columns_in line 1 11

-- what a line with the error has, if the line is known, and otherwise the kind of the error
abbrev pub station_found : StationWhy → Option (List ℕ) → List ℕ
station_found why None = station_kind why
station_found why (Some line) = station_there why line

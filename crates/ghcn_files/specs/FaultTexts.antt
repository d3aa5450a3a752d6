-- The texts of errors.
use Rattle.std.specs.Prelude.{ℕ, List, ◌++◌, codes}
use Rattle.std.specs.Fmt.{decimal}
use Rattle.ghcn_fields.specs.FaultTexts.{memory_text}
use Rattle.ghcn_files.specs.declared.fault.StationWhy.{StationWhy}
use Rattle.ghcn_files.specs.declared.fault.StationWhy.TheVariants as station_why
use Rattle.ghcn_files.specs.declared.fault.StationsFault.{StationsFault}
use Rattle.ghcn_files.specs.declared.fault.StationsFault.TheVariants.{StationLine, TooManyStations, Memory}
use Rattle.ghcn_files.specs.declared.fault.LineWhy.{LineWhy}
use Rattle.ghcn_files.specs.declared.fault.LineWhy.TheVariants as line_why

-- the word for a test that a station line fails
abbrev pub station_why_text : StationWhy → List ℕ
station_why_text station_why.Short = codes "Short"
station_why_text station_why.BadId = codes "BadId"
station_why_text station_why.BadLatitude = codes "BadLatitude"
station_why_text station_why.BadLongitude = codes "BadLongitude"
station_why_text station_why.BadElevation = codes "BadElevation"
station_why_text station_why.Duplicate = codes "Duplicate"

-- the line of an error of a station list
abbrev pub stations_fault_text : StationsFault → List ℕ
stations_fault_text (StationLine line why) =
    codes "refused 1 StationLine line " ++ decimal line ++ codes " " ++ station_why_text why
stations_fault_text TooManyStations = codes "refused 2 TooManyStations"
stations_fault_text (Memory memory) = memory_text

-- the words for a test that a line of a daily file fails
abbrev pub line_why_text : LineWhy → List ℕ
line_why_text line_why.Short = codes "Short"
line_why_text line_why.TooLong = codes "TooLong"
line_why_text line_why.BadId = codes "BadId"
line_why_text line_why.BadYear = codes "BadYear"
line_why_text line_why.BadMonth = codes "BadMonth"
line_why_text (line_why.BadValue day) = codes "BadValue " ++ decimal day

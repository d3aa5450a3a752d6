-- The texts of errors.
use Rattle.std.specs.Prelude.{ℕ, List, ◌++◌, codes}
use Rattle.std.specs.Fmt.{decimal}
use Rattle.ghcn_fields.specs.FaultTexts.{memory_text}
use Rattle.ghcn_files.specs.FaultTexts.{station_why_text}
use Rattle.ghcn_series.specs.FaultTexts.{daily_why_text}
use Rattle.rank_input.specs.declared.fault.Fault.{Fault}
use Rattle.rank_input.specs.declared.fault.Fault.TheVariants.{StationLine, TooManyStations, Memory}
use Rattle.rank_input.specs.declared.fault.Fault.TheVariants.{DailyLine, TooManyFiles}
use Rattle.rank_input.specs.declared.fault.Fault.TheVariants.{QueryTooLong, UnexpectedWord, QueryEnds}
use Rattle.rank_input.specs.declared.fault.Fault.TheVariants.{OutOfLimits, BadDate, BadBox, EmptyPeriod}
use Rattle.rank_input.specs.declared.fault.Fault.TheVariants.{BadWorkers, BadGuess}

-- the line of an error of an input
abbrev pub fault_text : Fault → List ℕ
fault_text (StationLine line why) =
    codes "refused 1 StationLine line " ++ decimal line ++ codes " " ++ station_why_text why
fault_text TooManyStations = codes "refused 2 TooManyStations"
fault_text (Memory memory) = memory_text
fault_text (DailyLine file line why) =
    codes "refused 5 DailyLine file " ++ decimal file ++ codes " line " ++ decimal line ++ codes " "
    ++ daily_why_text why
fault_text TooManyFiles = codes "refused 6 TooManyFiles"
fault_text QueryTooLong = codes "refused 7 QueryTooLong"
fault_text (UnexpectedWord word) = codes "refused 8 UnexpectedWord " ++ decimal word
fault_text QueryEnds = codes "refused 9 QueryEnds"
fault_text (OutOfLimits word) = codes "refused 10 OutOfLimits " ++ decimal word
fault_text (BadDate word) = codes "refused 11 BadDate " ++ decimal word
fault_text (BadBox word) = codes "refused 12 BadBox " ++ decimal word
fault_text EmptyPeriod = codes "refused 13 EmptyPeriod"
fault_text BadWorkers = codes "refused 18 BadWorkers"
fault_text BadGuess = codes "refused 19 BadGuess"

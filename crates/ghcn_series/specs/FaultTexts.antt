-- The texts of errors.
use Rattle.std.specs.Prelude.{ℕ, List, ◌++◌, codes}
use Rattle.std.specs.Fmt.{decimal}
use Rattle.ghcn_fields.specs.FaultTexts.{memory_text}
use Rattle.ghcn_files.specs.FaultTexts.{line_why_text}
use Rattle.ghcn_series.specs.declared.fault.DailyWhy.{DailyWhy}
use Rattle.ghcn_series.specs.declared.fault.DailyWhy.TheVariants.{Line, DuplicateMonth}
use Rattle.ghcn_series.specs.declared.fault.DataFault.{DataFault}
use Rattle.ghcn_series.specs.declared.fault.DataFault.TheVariants.{TooManyFiles, DailyLine, Memory}

-- the words for an error of a line of a daily file
abbrev pub daily_why_text : DailyWhy → List ℕ
daily_why_text (Line why) = line_why_text why
daily_why_text DuplicateMonth = codes "DuplicateMonth"

-- the line of an error of daily files
abbrev pub data_fault_text : DataFault → List ℕ
data_fault_text TooManyFiles = codes "refused 6 TooManyFiles"
data_fault_text (DailyLine file line why) =
    codes "refused 5 DailyLine file " ++ decimal file ++ codes " line " ++ decimal line ++ codes " "
    ++ daily_why_text why
data_fault_text (Memory memory) = memory_text

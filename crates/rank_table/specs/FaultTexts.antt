-- The texts of errors.
use Rattle.std.specs.Prelude.{ℕ, List, ◌++◌, codes}
use Rattle.std.specs.Fmt.{decimal}
use Rattle.ghcn_fields.specs.FaultTexts.{memory_text}
use Rattle.rank_table.specs.declared.fault.TableFault.{TableFault}
use Rattle.rank_table.specs.declared.fault.TableFault.TheVariants.{BadReport, NotListed, Memory}

-- the line of an error of files of reports
abbrev pub table_fault_text : TableFault → List ℕ
table_fault_text (BadReport file line) =
    codes "refused file " ++ decimal file ++ codes " line " ++ decimal line ++ codes " BadReport"
table_fault_text (NotListed file line) =
    codes "refused file " ++ decimal file ++ codes " line " ++ decimal line ++ codes " NotListed"
table_fault_text (Memory memory) = memory_text

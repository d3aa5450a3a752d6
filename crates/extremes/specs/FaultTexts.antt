-- The texts of errors.
use Rattle.std.specs.Prelude.{ℕ, List, Some}
use Rattle.ghcn_files.specs.FaultTexts.{stations_fault_text}
use Rattle.rank_query.specs.FaultTexts.{query_fault_text}
use Rattle.rank_merge.specs.FaultTexts.{merge_fault_text}
use Rattle.rank_table.specs.FaultTexts.{table_fault_text}
use Rattle.rank_input.specs.FaultTexts.{fault_text}
use Rattle.rank_input.specs.declared.fault.Fault.{Fault}
use Rattle.extremes.specs.declared.merge.MergingFault.{MergingFault}
use Rattle.extremes.specs.declared.merge.MergingFault.TheVariants.{Query, Parts}
use Rattle.extremes.specs.declared.table.TablingFault.{TablingFault}
use Rattle.extremes.specs.declared.table.TablingFault.TheVariants as tabling
use Rattle.extremes.specs.Messages.{Line}

-- the text of an error of a merge
abbrev pub merging_fault_text : MergingFault → List ℕ
merging_fault_text (Query cause) = query_fault_text cause
merging_fault_text (Parts why) = merge_fault_text why

-- the text of an error of a table
abbrev pub tabling_fault_text : TablingFault → List ℕ
tabling_fault_text (tabling.Stations cause) = stations_fault_text cause
tabling_fault_text (tabling.Reports why) = table_fault_text why

-- the line of an error of an input
abbrev pub fault_line : Fault → Line
fault_line fault = Some (fault_text fault)

-- the line of an error of a merge
abbrev pub merging_line : MergingFault → Line
merging_line fault = Some (merging_fault_text fault)

-- the line of an error of a table
abbrev pub tabling_line : TablingFault → Line
tabling_line fault = Some (tabling_fault_text fault)

-- What is said about an error of reports that become a table.
use Rattle.std.specs.Prelude.{ℕ, List, ◌++◌, codes, String}
use Rattle.rank_table.specs.declared.fault.TableFault.{TableFault}
use Rattle.rank_table.specs.declared.fault.TableFault.TheVariants.{BadReport, NotListed, Memory}
use Rattle.explanations.specs.Inputs.{file_path}
use Rattle.explanations.specs.Texts.{place_text}

-- what is said about an error of files of reports
abbrev pub table_text : {A : Type 0} → TableFault → List (String A) → List ℕ
table_text (BadReport file line) paths =
    place_text (file_path paths file) line ++ codes "no report has such a line there"
table_text (NotListed file line) paths =
    place_text (file_path paths file) line ++ codes "its station isn't in the station list"
table_text (Memory m) paths = codes "out of memory: the system gave no more"

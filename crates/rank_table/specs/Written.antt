-- What a writer of comma-separated values has written, and what a call adds to it.
use Rattle.std.specs.Prelude.{◌≡◌, ℕ, List, ◌++◌, false, Option, Some, Result, Ok, Err}
use Rattle.csv.specs.Writing.{default_writer, fields_written, has_written, text_written, writer_setup}
use Rattle.csv.specs.declared.writer.Writer.{Writer}
use Rattle.rank_table.specs.declared.fault.TableFault.{TableFault}
use Rattle.rank_table.specs.Tables.{Fields, table_text}

-- a writer with the default settings has written this text, and no record is begun
pub record HasWritten {W : Type 0} (contents : W → Option (List ℕ)) (w : Writer W) (text : List ℕ) : Type 0 where
  pub written : text_written contents w ≡ Some text
  pub fields : fields_written w ≡ 0
  pub clean : has_written w ≡ false
  pub setup : writer_setup w ≡ default_writer

-- these records come after what a writer had written, whatever that was
abbrev pub Writes : {W : Type 0} → (W → Option (List ℕ)) → Writer W → Writer W → List Fields → Type 0
Writes contents old new records = (text : List ℕ) → HasWritten contents old text
    → HasWritten contents new (text ++ table_text records)

-- the records of rows come after it, if each row has one
abbrev pub WritesRows : {W : Type 0} → (W → Option (List ℕ)) → Writer W → Writer W → Result (List Fields) TableFault
    → Type 0
WritesRows contents old new (Ok records) = Writes contents old new records
WritesRows contents old new (Err why) = ⊥

-- this is the text that a writer has written
abbrev pub IsTextOf : {W : Type 0} → (W → Option (List ℕ)) → Writer W → List ℕ → Type 0
IsTextOf contents w text = (all : List ℕ) → HasWritten contents w all → text ≡ all

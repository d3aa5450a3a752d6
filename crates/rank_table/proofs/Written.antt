-- Records that are written one after the other.
use Rattle.std.proofs.Common.{◌≡◌, ◌≢◌, ℕ, List, [], ◌∷◌, ◌++◌, Option, Some, None, Result, Ok, Err, Bool, true, false, refl}
use Rattle.std.proofs.Common.{sym, ap, ap₂, ◌∙◌, subst, append_assoc, append-nil, arith}
use Rattle.std.specs.Bool.{OnFalse}
use Rattle.std.proofs.lemmas.Grind.{flat_map-append}
use Rattle.std.specs.Io.KnownBytes.{Appends, Keeps}
use Rattle.csv.specs.Writing.{default_writer, fields_written, has_written, row_text, text_written, writer_setup}
use Rattle.csv.specs.declared.writer.QuoteStyle.TheVariants as style
use Rattle.csv.specs.declared.writer.WriterBuilder.{WriterBuilder}
use Rattle.csv.specs.declared.writer.Writer.{Writer}
use Rattle.ghcn_fields.specs.Refusals.{IsRefusal}
use Rattle.ghcn_files.specs.declared.station.Station.{Station}
use Rattle.rank_table.specs.declared.fault.TableFault.{TableFault}
use Rattle.rank_table.specs.Reading.{is_memory}
use Rattle.rank_table.specs.Tables.{Fields, PlacedRow, and_record, header, record_of, records_of, table_of, table_text, under_header}
use Rattle.rank_table.specs.Written.{HasWritten, IsTextOf, Writes, WritesRows}

-- ---- the records of rows

-- records, and those after them; or the first error
abbrev and_records : Result (List Fields) TableFault → Result (List Fields) TableFault → Result (List Fields) TableFault
and_records (Err why) more = Err why
and_records (Ok rs) (Err why) = Err why
and_records (Ok rs) (Ok ss) = Ok (rs ++ ss)

-- after none
and_records-none : (more : Result (List Fields) TableFault) → more ≡ and_records (Ok []) more
and_records-none more = grind arith

-- after one more
and_records-one : (o : Result Fields TableFault) (r more : Result (List Fields) TableFault)
    → and_record o (and_records r more) ≡ and_records (and_record o r) more
and_records-one o r more = grind arith

-- the records of rows, and of others after them
records_of-append : (stations : Option (List Station)) (rows others : List PlacedRow)
    → records_of stations (rows ++ others) ≡ and_records (records_of stations rows) (records_of stations others)
records_of-append stations [] others = and_records-none (records_of stations others)
records_of-append stations (r ∷ rows) others =
    ap (and_record (record_of stations r)) (records_of-append stations rows others)
    ∙ and_records-one (record_of stations r) (records_of stations rows) (records_of stations others)

-- what follows of a fact follows if memory didn't run out
pub unless_memory : {P Q : Type 0} (b : Bool) → (P → Q) → OnFalse b P → OnFalse b Q
unless_memory true f h = h
unless_memory false f h = f h

-- ---- rows that are written

module _ {W : Type 0} (contents : W → Option (List ℕ)) (stations : Option (List Station)) where
  -- the records of some rows were made, and written after what a writer had written
  pub record HasWrittenRows (old new : Writer W) (rows : List PlacedRow) : Type 0 where
    pub records : List Fields
    pub made : records_of stations rows ≡ Ok records
    pub wrote : Writes contents old new records

  -- none
  pub no_rows : (w : Writer W) → HasWrittenRows w w []
  no_rows w = record {
    records = [];
    made = refl;
    wrote = λ text h. subst (HasWritten contents w) (sym (append-nil text)) h;
  }

  -- what is written of rows are their records
  records_wrote : (old new : Writer W) (made : Result (List Fields) TableFault) → WritesRows contents old new made
      → (rs : List Fields) × (made ≡ Ok rs) × Writes contents old new rs
  records_wrote old new (Ok rs) writes = (rs, refl, writes)
  records_wrote old new (Err why) writes = absurd writes

  -- more
  pub more_rows : (old mid new : Writer W) (rows others : List PlacedRow) → HasWrittenRows old mid rows
      → WritesRows contents mid new (records_of stations others) → HasWrittenRows old new (rows ++ others)
  more_rows old mid new rows others h writes =
      let more = records_wrote mid new (records_of stations others) writes in
      record {
        records = h.records ++ more.0;
        made = records_of-append stations rows others ∙ ap₂ and_records h.made more.1;
        wrote = λ text had. subst (HasWritten contents new)
            (append_assoc text (table_text h.records) (table_text more.0)
            ∙ ap (λ (t : List ℕ). text ++ t) (sym (flat_map-append (row_text default_writer) h.records more.0)))
            (more.2 (text ++ table_text h.records) (h.wrote text had));
      }

  -- rows without records refuse all
  pub refused_more : (old mid : Writer W) (rows others behind : List PlacedRow) (why : TableFault)
      → HasWrittenRows old mid rows → records_of stations others ≡ Err why
      → records_of stations (rows ++ (others ++ behind)) ≡ Err why
  refused_more old mid rows others behind why h e =
      records_of-append stations rows (others ++ behind)
      ∙ ap₂ and_records h.made (records_of-append stations others behind
      ∙ ap (λ (r : Result (List Fields) TableFault). and_records r (records_of stations behind)) e)

  -- all rows of a report
  pub rows_written : (old new : Writer W) (rows : List PlacedRow) → HasWrittenRows old new rows
      → WritesRows contents old new (records_of stations rows)
  rows_written old new rows h = subst (WritesRows contents old new) (sym h.made) h.wrote

  -- a report that is refused refuses the table
  pub refused_rows : (old mid : Writer W) (rows others behind : List PlacedRow) (why : TableFault)
      → HasWrittenRows old mid rows → IsRefusal is_memory why (records_of stations others)
      → IsRefusal is_memory why (table_of stations (rows ++ (others ++ behind)))
  refused_rows old mid rows others behind why h refused = unless_memory (is_memory why)
      (λ (e : records_of stations others ≡ Err why).
      ap (under_header (header stations)) (refused_more old mid rows others behind why h e)) refused

  -- the text of a writer that has written a header, and then all rows
  pub table_is : (old new : Writer W) (rows : List PlacedRow) (text : List ℕ)
      → HasWritten contents old (table_text (header stations ∷ [])) → HasWrittenRows old new rows
      → IsTextOf contents new text → table_of stations rows ≡ Ok text
  table_is old new rows text headed h is =
      ap (under_header (header stations)) h.made
      ∙ ap Ok (flat_map-append (row_text default_writer) (header stations ∷ []) h.records
      ∙ sym (is (table_text (header stations ∷ []) ++ table_text h.records) (h.wrote _ headed)))

-- ---- one record

-- what is kept of a text that is known
pub kept_text : (known : Option (List ℕ)) (text all : List ℕ) → Keeps known (Some text) → known ≡ Some all → text ≡ all
kept_text known text all keeps e = rw e at keeps

-- what comes after a text that is known is known
appended : (old new : Option (List ℕ)) (text more : List ℕ) → Appends old new more → old ≡ Some text
    → new ≡ Some (text ++ more)
appended old None text more h e = absurd (rw e at h)
appended old (Some all) text more h e = ap Some (rw e at h)

-- what a call of the writer promises is that a record was written
pub row_written : {W : Type 0} (contents : W → Option (List ℕ)) (old new : Writer W) (fields : Fields)
    → (fields_written old ≡ 0 → has_written old ≡ false → (writer_setup old).style ≢ style.NonNumeric
    → Appends (text_written contents old) (text_written contents new) (row_text (writer_setup old) fields))
    → fields_written new ≡ 0 → has_written new ≡ false → writer_setup new ≡ writer_setup old
    → Writes contents old new (fields ∷ [])
row_written contents old new fields appends ended clean setup text h =
    let plain : (writer_setup old).style ≢ style.NonNumeric = λ e. let bad : style.Necessary ≡ style.NonNumeric =
    sym (ap (λ (b : WriterBuilder). b.style) h.setup) ∙ e in cc in
    record {
      written =
          appended (text_written contents old) (text_written contents new) text
          (row_text (writer_setup old) fields) (appends h.fields h.clean plain) h.written
          ∙ ap (λ (b : WriterBuilder). Some (text ++ row_text b fields)) h.setup
          ∙ ap (λ (t : List ℕ). Some (text ++ t)) (sym (append-nil (row_text default_writer fields)));
      fields = ended;
      clean = clean;
      setup = setup ∙ h.setup;
    }

-- A table that is read back is its header and a record for each row.
use Rattle.std.proofs.Common.{◌≡◌, inl, inr, ℕ, List, [], ◌∷◌, ◌++◌, Option, None, Some, Result, Ok, Err, refl, sym, ap}
use Rattle.std.proofs.Common.{◌∙◌, subst, append_assoc, append-nil}
use Rattle.std.specs.List.{AllByRecursion, AllZip}
use Rattle.csv.specs.Machine.{next_record}
use Rattle.csv.specs.Reading.{AreRecords, Reached, default_config, strip_bom}
use Rattle.csv.specs.Writing.{default_writer, fields_text, is_blank, read_back, row_text}
use Rattle.csv.specs.declared.parser.State.TheVariants as states
use Rattle.csv.proofs.RoundTrip.{read-write}
use Rattle.ghcn_files.specs.declared.station.Station.{Station}
use Rattle.rank_table.specs.declared.fault.TableFault.{TableFault}
use Rattle.rank_table.specs.Laws.{HasRow, TablesAreReadBack}
use Rattle.rank_table.specs.Tables.{Fields, PlacedRow, and_record, fields_of_row, header, place_fields, record_of, records_of, table_text, under_header}
use Rattle.rank_table.proofs.Unlisted.{by_station}

-- ---- records that are written and read

-- a record has a field
abbrev pub HasField : Fields → Type 0
HasField [] = ⊥
HasField (field ∷ fields) = Unit {0}

-- a record with a field reads back as itself
back-same : (r : Fields) → HasField r → r ≡ read_back r
back-same [] h = absurd h
back-same (x ∷ xs) h = refl

-- records are read one after the other
reached : (rows : List Fields) → AllByRecursion HasField rows → (tail : List ℕ)
    → Reached default_config states.StartRecord (table_text rows ++ tail) rows states.StartRecord tail
unfolding Reached
reached [] h tail = (refl, refl)
reached (r ∷ rows) h tail = (
  (read_back r, states.StartRecord, table_text rows ++ tail),
  ap (next_record default_config states.StartRecord [] [])
      (append_assoc (row_text default_writer r) (table_text rows) tail)
      ∙ read-write r (table_text rows ++ tail),
  back-same r h.0,
  reached rows h.1 tail,
)

-- there is none in no bytes
at_end : next_record default_config states.StartRecord [] [] [] ≡ None
unfolding next_record
at_end = refl

-- these are all
all_reached : (rows : List Fields) → AllByRecursion HasField rows
    → AreRecords default_config states.StartRecord (table_text rows) rows
all_reached rows h = (
  states.StartRecord,
  [],
  subst (λ (text : List ℕ). Reached default_config states.StartRecord text rows states.StartRecord [])
      (append-nil (table_text rows)) (reached rows h []),
  at_end,
)

-- a table doesn't begin by a byte order mark
no_mark : (stations : Option (List Station)) (records : List Fields)
    → strip_bom (table_text (header stations ∷ records)) ≡ table_text (header stations ∷ records)
unfolding strip_bom fields_text is_blank
no_mark None records = refl
no_mark (Some stations) records = refl

-- ---- the records of rows

-- the header has a field
header_field : (stations : Option (List Station)) → HasField (header stations)
header_field None = tt
header_field (Some stations) = tt

-- a record has a row and a field
abbrev IsOfRow : Option (List Station) → PlacedRow → Fields → Type 0
IsOfRow stations r fields = HasRow stations r fields × HasField fields

-- so does that of a row
record_is : (stations : Option (List Station)) (r : PlacedRow) (fields : Fields) → record_of stations r ≡ Ok fields
    → IsOfRow stations r fields
record_is None r fields e =
    let same : fields_of_row r ≡ fields = cc in
    subst (IsOfRow None r) same (record { query = refl; line = refl; place = refl }, tt)
record_is (Some stations) r fields e = elim (by_station stations r) [
  | inl own ↦
      let same : fields_of_row r ++ place_fields own.station ≡ fields = cc in
      subst (IsOfRow (Some stations) r) same
      (record { query = refl; line = refl; place = (own.station, own.found, refl) }, tt)
  | inr own ↦ let no = own.refused in absurd cc
]

-- a record and those after it were made
and_record-some : (first : Result Fields TableFault) (rest : Result (List Fields) TableFault) (records : List Fields)
    → and_record first rest ≡ Ok records
    → (fields : Fields) × (more : List Fields) × (first ≡ Ok fields) × (rest ≡ Ok more) × (records ≡ fields ∷ more)
and_record-some (Err why) rest records e = absurd cc
and_record-some (Ok fields) (Err why) records e = absurd cc
and_record-some (Ok fields) (Ok more) records e = (fields, more, refl, refl, cc)

-- the records of rows have them, each a field
abbrev AreOfRows : Option (List Station) → List PlacedRow → List Fields → Type 0
AreOfRows stations rows records = AllZip (HasRow stations) rows records × AllByRecursion HasField records

records_are : (stations : Option (List Station)) (rows : List PlacedRow) (records : List Fields)
    → records_of stations rows ≡ Ok records → AreOfRows stations rows records
records_are stations [] records e = let none : [] ≡ records = cc in subst (AreOfRows stations []) none (tt, tt)
records_are stations (r ∷ rows) records e =
    let it = and_record-some (record_of stations r) (records_of stations rows) records e in
    let own = record_is stations r it.0 it.2 in
    let more = records_are stations rows it.1 it.3 in
    subst (AreOfRows stations (r ∷ rows)) (sym it.4) ((own.0, more.0), (own.1, more.1))

-- ---- a table

-- a table was made of records
under_header-some : (names : Fields) (records : Result (List Fields) TableFault) (text : List ℕ)
    → under_header names records ≡ Ok text → (made : List Fields) × (records ≡ Ok made)
    × (text ≡ table_text (names ∷ made))
under_header-some names (Err why) text e = absurd cc
under_header-some names (Ok made) text e = (made, refl, cc)

-- it is read back
pub tables_read_back : TablesAreReadBack
tables_read_back stations rows text e =
    let it = under_header-some (header stations) (records_of stations rows) text e in
    let are = records_are stations rows it.0 it.1 in
    let same : strip_bom text ≡ table_text (header stations ∷ it.0) = ap strip_bom it.2 ∙ no_mark stations it.0 in
    record {
      records = it.0;
      read = subst (λ (t : List ℕ). AreRecords default_config states.StartRecord t (header stations ∷ it.0)) (sym same)
          (all_reached (header stations ∷ it.0) (header_field stations, are.1));
      each = are.0;
    }

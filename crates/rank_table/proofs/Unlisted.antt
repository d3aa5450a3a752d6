-- Rows are refused at the first one whose station isn't listed.
use Rattle.std.proofs.Common.{◌≡◌, ◌⊎◌, inl, inr, ℕ, List, [], ◌∷◌, ◌++◌, Option, None, Some, Result, Ok, Err, refl, sym}
use Rattle.std.proofs.Common.{ap, ap₂, ◌∙◌, arith}
use Rattle.std.specs.List.{AllByRecursion, find}
use Rattle.std.specs.Option.{option_map}
use Rattle.ghcn_fields.specs.Refusals.{IsRefusal}
use Rattle.ghcn_files.specs.declared.station.Station.{Station}
use Rattle.ghcn_files.specs.Meaning.Listed.{is_station_of}
use Rattle.rank_table.specs.declared.fault.TableFault.{TableFault}
use Rattle.rank_table.specs.declared.fault.TableFault.TheVariants.{BadReport, NotListed, Memory}
use Rattle.rank_table.specs.Laws.{IsBadRow, IsFirstOutside, IsListed, UnlistedRowsAreRefused}
use Rattle.rank_table.specs.Reading.{is_memory}
use Rattle.rank_table.specs.Tables.{Fields, PlacedRow, and_record, fields_of_row, fields_with_place, header, if_listed, place_fields, record_of, records_of, table_of, under_header}

-- ---- results

-- after a record that was made, an error is that of those after it
and_record-behind : (f : Fields) (rest : Result (List Fields) TableFault) (why : TableFault)
    → and_record (Ok f) rest ≡ Err why → rest ≡ Err why
and_record-behind f rest why e = grind arith

-- the error of reading a text isn't that of a record
and_record-bad : (r : PlacedRow) (o : Option Fields) (rest : Result (List Fields) TableFault) (file line : ℕ)
    → and_record (if_listed r o) rest ≡ Err (BadReport file line) → rest ≡ Err (BadReport file line)
and_record-bad r o rest file line e = grind arith

-- an error of a table is that of its records
under_header-err : (names : Fields) (r : Result (List Fields) TableFault) (why : TableFault)
    → under_header names r ≡ Err why → r ≡ Err why
under_header-err names r why e = grind arith

-- ---- a list of stations

module _ (stations : List Station) where
  -- what is made of a row, if this is the station that is found
  abbrev made_of : PlacedRow → Option Station → Result Fields TableFault
  made_of r o = if_listed r (option_map (λ s. fields_of_row r ++ place_fields s) o)

  -- the station of a row is listed, and the row has a record
  pub record HasRecord (r : PlacedRow) : Type 0 where
    pub station : Station
    pub found : find (is_station_of r.row.0.id) stations ≡ Some station
    pub made : record_of (Some stations) r ≡ Ok (fields_of_row r ++ place_fields station)

  -- or it isn't, and the row is refused
  pub record IsOutside (r : PlacedRow) : Type 0 where
    pub none : find (is_station_of r.row.0.id) stations ≡ None
    pub refused : record_of (Some stations) r ≡ Err (NotListed r.file r.line)

  -- either is so
  pub by_station : (r : PlacedRow) → HasRecord r ⊎ IsOutside r
  by_station r = by (find (is_station_of r.row.0.id) stations) refl
    where
      by : (o : Option Station) → find (is_station_of r.row.0.id) stations ≡ o → HasRecord r ⊎ IsOutside r
      by (Some s) is = inl (record { station = s; found = is; made = ap (made_of r) is })
      by None is = inr (record { none = is; refused = ap (made_of r) is })

  -- a refusal is that of the first row outside the list
  refused_outside : (rows : List PlacedRow) (file line : ℕ)
      → records_of (Some stations) rows ≡ Err (NotListed file line) → IsFirstOutside stations rows file line
  refused_outside [] file line e = absurd cc
  refused_outside (r ∷ rows) file line e = elim (by_station r) [
    | inl own ↦
        let more = refused_outside rows file line (and_record-behind (fields_of_row r ++ place_fields own.station)
        (records_of (Some stations) rows) (NotListed file line)
        (ap (λ (o : Result Fields TableFault). and_record o (records_of (Some stations) rows)) (sym own.made) ∙ e)) in
        record {
          before = r ∷ more.before;
          row = more.row;
          behind = more.behind;
          place = ap (λ (rs : List PlacedRow). r ∷ rs) more.place;
          listed = ((own.station, own.found), more.listed);
          unlisted = more.unlisted;
          file_number = more.file_number;
          line_number = more.line_number;
        }
    | inr own ↦
        let same : Err (NotListed r.file r.line) ≡ Err (NotListed file line) =
        ap (λ (o : Result Fields TableFault). and_record o (records_of (Some stations) rows)) (sym own.refused) ∙ e in
        record {
          before = [];
          row = r;
          behind = rows;
          place = refl;
          listed = tt;
          unlisted = own.none;
          file_number = cc;
          line_number = cc;
        }
  ]

  -- the first row outside the list is refused
  outside_refused : (before : List PlacedRow) (row : PlacedRow) (behind : List PlacedRow)
      → AllByRecursion (IsListed stations) before → find (is_station_of row.row.0.id) stations ≡ None
      → records_of (Some stations) (before ++ row ∷ behind) ≡ Err (NotListed row.file row.line)
  outside_refused [] row behind listed none =
      ap (λ (o : Option Station). and_record (made_of row o) (records_of (Some stations) behind)) none
  outside_refused (r ∷ before) row behind listed none =
      ap₂ (λ (o : Option Station) (rest : Result (List Fields) TableFault). and_record (made_of r o) rest)
      listed.0.1 (outside_refused before row behind listed.1 none)

-- ---- all rows

-- without a list no row is refused
none_refused : (rows : List PlacedRow) (why : TableFault) → records_of None rows ≡ Err why → ⊥
none_refused [] why e = cc
none_refused (r ∷ rows) why e = none_refused rows why (and_record-behind (fields_of_row r) (records_of None rows) why e)

-- a table is refused at a row exactly if it is the first unlisted one
pub unlisted_refused : UnlistedRowsAreRefused
unlisted_refused None rows file line = (
  λ e. absurd (none_refused rows _ (under_header-err (header None) (records_of None rows) _ e)),
  λ h. absurd h,
)
unlisted_refused (Some stations) rows file line = (
  λ e. refused_outside stations rows file line
      (under_header-err (header (Some stations)) (records_of (Some stations) rows) _ e),
  λ h. ap (table_of (Some stations)) h.place
      ∙ ap (under_header (header (Some stations)))
      (outside_refused stations h.before h.row h.behind h.listed h.unlisted)
      ∙ ap₂ (λ (f l : ℕ). Err (NotListed f l)) (sym h.file_number) (sym h.line_number),
)

-- ---- refusals

-- no row goes wrong as a text does
no_bad_text : (stations : Option (List Station)) (rows : List PlacedRow) (file line : ℕ)
    → records_of stations rows ≡ Err (BadReport file line) → ⊥
no_bad_text stations [] file line e = cc
no_bad_text stations (r ∷ rows) file line e = no_bad_text stations rows file line (and_record-bad r
    (fields_with_place (fields_of_row r) stations r.row.0.id) (records_of stations rows) file line e)

-- an error of rows is out of memory, or the first unlisted one
pub bad_row : (stations : Option (List Station)) (rows : List PlacedRow) (why : TableFault) → UnlistedRowsAreRefused
    → IsRefusal is_memory why (table_of stations rows) → IsBadRow stations rows why
bad_row stations rows (BadReport file line) law e =
    no_bad_text stations rows file line (under_header-err (header stations) (records_of stations rows) _ e)
bad_row stations rows (NotListed file line) law e = (law stations rows file line).0 e
bad_row stations rows (Memory m) law e = tt

-- What tables are worth, as statements for the contract of a public function.
use Rattle.std.specs.Prelude.{◌≡◌, ⊤, ◌↔◌, ℕ, ◌+◌, List, [], ◌∷◌, ◌++◌, length, Option, None, Some, Ok, Err}
use Rattle.std.specs.List.{AllByRecursion, AllZip, find}
use Rattle.csv.specs.Reading.{AreRecords, default_config, strip_bom}
use Rattle.csv.specs.declared.parser.State.TheVariants as states
use Rattle.ghcn_files.specs.declared.station.Station.{Station}
use Rattle.ghcn_files.specs.declared.station.StationId.{StationId}
use Rattle.ghcn_files.specs.Meaning.Listed.{is_station_of}
use Rattle.rank_query.specs.Meaning.QueryTexts.{query_text}
use Rattle.rank_papers.specs.Meaning.Report.{text_line, field_unless_empty}
use Rattle.rank_papers.specs.Lines.{paper_lines}
use Rattle.rank_papers.specs.ReportLines.{row_line}
use Rattle.rank_table.specs.declared.fault.TableFault.{TableFault}
use Rattle.rank_table.specs.declared.fault.TableFault.TheVariants.{BadReport, NotListed, Memory}
use Rattle.rank_table.specs.Reports.{Placed, AreReportsOf, IsFirstBadText}
use Rattle.rank_table.specs.Reading.{reports_from}
use Rattle.rank_table.specs.Tables.{Fields, PlacedRow, header, place_fields, rows_of, table_of}

-- ---- texts of reports

-- texts are read as reports if and only if they hold these reports, and these are at these places
abbrev pub ReportsAreRead : Type 0
ReportsAreRead = (texts : List (List ℕ)) (placed : List Placed) →
    (reports_from 1 texts ≡ Ok placed) ↔ AreReportsOf texts placed

-- texts are refused at a line of a file if and only if that is the first bad line of the first bad file
abbrev pub TextsGoWrong : Type 0
TextsGoWrong = (texts : List (List ℕ)) (file line : ℕ) →
    (reports_from 1 texts ≡ Err (BadReport file line)) ↔ IsFirstBadText texts file line

-- a row is where it is said to be: its line is that of this number of the text of the file of this number, both from 1
pub record IsThere (texts : List (List ℕ)) (r : PlacedRow) : Type 0 where
  pub files : List (List ℕ)
  pub bytes : List ℕ
  pub more_files : List (List ℕ)
  pub file : texts ≡ files ++ bytes ∷ more_files
  pub file_number : r.file ≡ length files + 1
  pub lines : List (List ℕ)
  pub more_lines : List (List ℕ)
  pub line : paper_lines bytes ≡ lines ++ row_line r.query r.rank r.row ∷ more_lines
  pub line_number : r.line ≡ length lines + 1

-- so it is with each row of the reports that texts hold
abbrev pub RowsAreThere : Type 0
RowsAreThere = (texts : List (List ℕ)) (placed : List Placed) → AreReportsOf texts placed
    → AllByRecursion (IsThere texts) (rows_of placed)

-- ---- the stations of rows

-- the row's station is in a list
abbrev pub IsListed : List Station → PlacedRow → Type 0
IsListed stations r = (s : Station) × (find (is_station_of r.row.0.id) stations ≡ Some s)

-- the row on this line of the file of this number is the first whose station isn't in a list
pub record IsFirstOutside (stations : List Station) (rows : List PlacedRow) (file line : ℕ) : Type 0 where
  pub before : List PlacedRow
  pub row : PlacedRow
  pub behind : List PlacedRow
  pub place : rows ≡ before ++ row ∷ behind
  pub listed : AllByRecursion (IsListed stations) before
  pub unlisted : find (is_station_of row.row.0.id) stations ≡ None
  pub file_number : file ≡ row.file
  pub line_number : line ≡ row.line

-- so it is with the station list; without one no row is unlisted
abbrev pub IsFirstUnlisted : Option (List Station) → List PlacedRow → ℕ → ℕ → Type 0
IsFirstUnlisted None rows file line = ⊥
IsFirstUnlisted (Some stations) rows file line = IsFirstOutside stations rows file line

-- no table is made of rows, because of the one on a line of a file, if and only if that is the first unlisted one
abbrev pub UnlistedRowsAreRefused : Type 0
UnlistedRowsAreRefused = (stations : Option (List Station)) (rows : List PlacedRow) (file line : ℕ) →
    (table_of stations rows ≡ Err (NotListed file line)) ↔ IsFirstUnlisted stations rows file line

-- an error of rows is out of memory, or the first whose station isn't listed
abbrev pub IsBadRow : Option (List Station) → List PlacedRow → TableFault → Type 0
IsBadRow stations rows (BadReport file line) = ⊥
IsBadRow stations rows (NotListed file line) = IsFirstUnlisted stations rows file line
IsBadRow stations rows (Memory m) = ⊤

-- ---- tables

-- the line of a report that the fields of a record have, from the second to the eighth: a name that is empty isn't there
abbrev pub line_in : Fields → List ℕ
line_in (query ∷ rank ∷ id ∷ first ∷ last ∷ value ∷ unit ∷ name ∷ place) =
    text_line (rank ∷ id ∷ first ∷ last ∷ value ∷ unit ∷ field_unless_empty name)
line_in fields = []

-- the first field
abbrev pub query_in : Fields → List ℕ
query_in [] = []
query_in (query ∷ fields) = query

-- the fields from the ninth on
abbrev pub place_in : Fields → Fields
place_in (query ∷ rank ∷ id ∷ first ∷ last ∷ value ∷ unit ∷ name ∷ place) = place
place_in fields = []

-- these fields say where the listed station with this ID is; without a station list there are none
abbrev pub IsPlaceOf : Option (List Station) → StationId → Fields → Type 0
IsPlaceOf None id place = place ≡ []
IsPlaceOf (Some stations) id place =
    (s : Station) × (find (is_station_of id) stations ≡ Some s) × (place ≡ place_fields s)

-- a record has the query and the line of a row, and the place of its station
pub record HasRow (stations : Option (List Station)) (r : PlacedRow) (fields : Fields) : Type 0 where
  pub query : query_in fields ≡ query_text r.query
  pub line : line_in fields ≡ row_line r.query r.rank r.row
  pub place : IsPlaceOf stations r.row.0.id (place_in fields)

-- a text, read as comma-separated values by the reader's default settings, is a header and a record for each row, in
-- their order, which has the row's query, its line and its station's place
pub record IsReadBack (stations : Option (List Station)) (rows : List PlacedRow) (text : List ℕ) : Type 0 where
  pub records : List Fields
  pub read : AreRecords default_config states.StartRecord (strip_bom text) (header stations ∷ records)
  pub each : AllZip (HasRow stations) rows records

-- so it is with every table
abbrev pub TablesAreReadBack : Type 0
TablesAreReadBack = (stations : Option (List Station)) (rows : List PlacedRow) (text : List ℕ)
    → table_of stations rows ≡ Ok text → IsReadBack stations rows text

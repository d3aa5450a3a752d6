-- The table of reports: a header, and a record for each row.
use Rattle.std.specs.Prelude.{ℕ, ◌+◌, ℤ, List, [], ◌∷◌, ◌++◌, map, codes, Option, None, Some, Result, Ok, Err}
use Rattle.std.specs.List.{enumerate_from, flat_map, find}
use Rattle.std.specs.Option.{option_map, option_map_or}
use Rattle.std.specs.Fmt.{decimal}
use Rattle.csv.specs.Writing.{default_writer, row_text}
use Rattle.ghcn_fields.specs.Meaning.Dates.{date_text}
use Rattle.ghcn_fields.specs.Meaning.NumberTexts.{four_places, tenths}
use Rattle.ghcn_files.specs.declared.station.Station.{Station}
use Rattle.ghcn_files.specs.declared.station.StationId.{StationId}
use Rattle.ghcn_files.specs.Meaning.Listed.{is_station_of}
use Rattle.rank_query.specs.declared.score.Score.{Score}
use Rattle.rank_query.specs.Meaning.Asked.{Query}
use Rattle.rank_query.specs.Meaning.QueryTexts.{query_text}
use Rattle.rank_papers.specs.Meaning.Values.{measure_of_score, value_of, value_text, unit_text}
use Rattle.rank_papers.specs.Report.{Named}
use Rattle.rank_table.specs.declared.fault.TableFault.{TableFault}
use Rattle.rank_table.specs.declared.fault.TableFault.TheVariants.{NotListed}
use Rattle.rank_table.specs.Reports.{Placed}

-- ---- rows

-- a row of a report, with the report's query and its rank, and where it is: on this line of the file of this number
pub record PlacedRow : Type 0 where
  pub file : ℕ
  pub line : ℕ
  pub query : Query
  pub rank : ℕ
  pub row : Named

-- a row of a report with its rank: the row of rank 1 comes after the title and the query
abbrev pub row_of : Placed → ℕ × Named → PlacedRow
row_of p ranked = record {
  file = p.file;
  line = p.before + ranked.0 + 2;
  query = p.report.query;
  rank = ranked.0;
  row = ranked.1;
}

-- the rows of a report, ranked from 1
abbrev pub rows_in : Placed → List PlacedRow
rows_in p = map (row_of p) (enumerate_from 1 p.report.rows)

-- the rows of all reports
abbrev pub rows_of : List Placed → List PlacedRow
rows_of ps = flat_map rows_in ps

-- ---- records

-- the fields of a record
abbrev pub Fields : Type 0
Fields = List (List ℕ)

-- the names of the fields that every table has
abbrev pub row_names : Fields
row_names = codes "query" ∷ codes "rank" ∷ codes "id" ∷ codes "first" ∷ codes "last" ∷ codes "value" ∷ codes "unit"
    ∷ codes "name" ∷ []

-- the names of those that a table with a station list has, too
abbrev pub place_names : Fields
place_names = codes "latitude" ∷ codes "longitude" ∷ codes "elevation" ∷ []

-- the names of the fields of a table, with a station list or without one
abbrev pub header : Option (List Station) → Fields
header None = row_names
header (Some stations) = row_names ++ place_names

-- the fields of a row: the text of its query, and the fields of its line; a name that is missing is empty
abbrev pub row_fields : List ℕ → Score → ℕ → Named → Fields
row_fields query score rank row =
    let measure = measure_of_score score in
    query ∷ decimal rank ∷ row.0.id.0 ∷ date_text row.0.first ∷ date_text row.0.last
    ∷ value_text measure (value_of score row.0.score) ∷ unit_text measure ∷ row.1 ∷ []

-- the text of an elevation; empty if it is missing
abbrev pub elevation_text : Option ℤ → List ℕ
elevation_text elevation = option_map_or tenths elevation []

-- the fields of a station: degrees north and east with four decimals, and metres with one
abbrev pub place_fields : Station → Fields
place_fields s = four_places s.latitude ∷ four_places s.longitude ∷ elevation_text s.elevation ∷ []

-- the fields of a row's record without a station list
abbrev pub fields_of_row : PlacedRow → Fields
fields_of_row r = row_fields (query_text r.query) r.query.score r.rank r.row

-- the fields of a row, and those of the listed station with this ID, if there is one; without a station list the fields
-- stay as they are
abbrev pub fields_with_place : Fields → Option (List Station) → StationId → Option Fields
fields_with_place fields None id = Some fields
fields_with_place fields (Some stations) id =
    option_map (λ s. fields ++ place_fields s) (find (is_station_of id) stations)

-- the record that was made for a row; if there is none, its station isn't listed
abbrev pub if_listed : PlacedRow → Option Fields → Result Fields TableFault
if_listed r None = Err (NotListed r.file r.line)
if_listed r (Some fields) = Ok fields

-- the record of a row; with a station list its station has to be listed
abbrev pub record_of : Option (List Station) → PlacedRow → Result Fields TableFault
record_of stations r = if_listed r (fields_with_place (fields_of_row r) stations r.row.0.id)

-- a record, and those after it; or the first error
abbrev pub and_record : Result Fields TableFault → Result (List Fields) TableFault → Result (List Fields) TableFault
and_record (Err why) rest = Err why
and_record (Ok fields) (Err why) = Err why
and_record (Ok fields) (Ok records) = Ok (fields ∷ records)

-- the records of rows; or the first row whose station isn't listed
abbrev pub records_of : Option (List Station) → List PlacedRow → Result (List Fields) TableFault
records_of stations [] = Ok []
records_of stations (r ∷ rs) = and_record (record_of stations r) (records_of stations rs)

-- ---- the table

-- the text of these records, as the writer of comma-separated values writes it by default
abbrev pub table_text : List Fields → List ℕ
table_text records = flat_map (row_text default_writer) records

-- the text of a header and records
abbrev pub under_header : Fields → Result (List Fields) TableFault → Result (List ℕ) TableFault
under_header names (Ok records) = Ok (table_text (names ∷ records))
under_header names (Err why) = Err why

-- the table of rows; or the first row whose station isn't listed
abbrev pub table_of : Option (List Station) → List PlacedRow → Result (List ℕ) TableFault
table_of stations rows = under_header (header stations) (records_of stations rows)

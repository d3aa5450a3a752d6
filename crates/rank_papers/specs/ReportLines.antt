-- Reading a report line by line: what its text says, or the number of its first bad line.
use Rattle.std.specs.Prelude.{◌≡◌, ⊤, ℕ, suc, ◌+◌, ◌-◌, ◌==◌, Bool, ◌&&◌, not, nat_le, nat_lt, if◌then◌else◌, List, [], ◌∷◌, length, filter, map, codes, slice_range, slice_get, Option, None, Some, Result, Ok, Err, ℤ, FitsSigned, IsTrue}
use Rattle.std.specs.List.{list_all, take_while, find, AllByRecursion}
use Rattle.std.specs.Option.{option_map, option_map_or}
use Rattle.std.specs.Int.{w64}
use Rattle.std.specs.Fmt.{decimal}
use Rattle.ghcn_fields.specs.Meaning.Bytes.{same_bytes}
use Rattle.ghcn_fields.specs.Meaning.Days.{is_day}
use Rattle.ghcn_fields.specs.Dates.{read_date}
use Rattle.ghcn_fields.specs.Numbers.{natural, signed_by}
use Rattle.ghcn_files.specs.declared.station.Station.{Station}
use Rattle.ghcn_files.specs.declared.station.StationId.{StationId}
use Rattle.ghcn_files.specs.Ids.{is_id}
use Rattle.ghcn_files.specs.Meaning.Listed.{is_station_of}
use Rattle.ghcn_files.specs.Meaning.StationLines.{is_printable}
use Rattle.ghcn_series.specs.Series.{Data}
use Rattle.rank_query.specs.Meaning.Asked.{Query, IsAsked}
use Rattle.rank_scores.specs.Morsels.{best_of_query}
use Rattle.rank_papers.specs.declared.fault.PaperFault.{PaperFault}
use Rattle.rank_papers.specs.declared.fault.PaperFault.TheVariants.{BadReport, BadCertificate, Memory}
use Rattle.rank_papers.specs.declared.paper.Report.{Report}
use Rattle.rank_papers.specs.declared.paper.Row.{Row}
use Rattle.rank_papers.specs.Meaning.Values.{measure_of_score, unit_text, value_of}
use Rattle.rank_papers.specs.Meaning.Report.{trimmed, text_line, row_fields, end_fields, report_text}
use Rattle.rank_papers.specs.Report.{Named}
use Rattle.rank_papers.specs.Lines.{paper_lines, ends_by, up_to_end, exactly, in_i64, query_in}

-- ---- what a report can say

-- what a report says: a query, and rows; whether there could be more follows from their number
pub record Reported : Type 0 where
  pub query : Query
  pub rows : List Named

-- the last of some bytes isn't a blank
abbrev pub ends_in_print : List ℕ → Bool
ends_in_print bytes = option_map_or (λ b. not (b == 32)) (slice_get bytes (length bytes - 1)) (nat_le (length bytes) 0)

-- a name that a row can have: at most thirty bytes that can be printed, of which the last isn't a blank
abbrev pub is_name : List ℕ → Bool
is_name name = nat_le (length name) 30 && list_all is_printable name && ends_in_print name

-- a row that a report can have
pub record IsRow (row : Named) : Type 0 where
  pub id : IsTrue (is_id row.0.id.0)
  pub first : IsTrue (is_day row.0.first)
  pub last : IsTrue (is_day row.0.last)
  pub score : FitsSigned w64 row.0.score
  pub name : IsTrue (is_name row.1)

-- what a report can say: a query that can be asked, at most as many rows as it asks for, and rows that can be
pub record IsReported (v : Reported) : Type 0 where
  pub asked : IsAsked v.query
  pub few : IsTrue (nat_le (length v.rows) v.query.k)
  pub rows : AllByRecursion IsRow v.rows

-- the bytes are the text of a report that says this
pub record IsReportOf (v : Reported) (bytes : List ℕ) : Type 0 where
  pub can_be : IsReported v
  pub text : bytes ≡ report_text v.query v.rows

-- the name of the listed station with this ID, without the blanks at its end
abbrev pub name_of : List Station → StationId → Option (List ℕ)
name_of stations id = option_map (λ station. trimmed station.name) (find (is_station_of id) stations)

-- what a report says is right: it has the query, and its rows are the best candidates with their stations' names
pub record SaysRightReport (q : Query) (c : Data) (v : Reported) : Type 0 where
  pub asked : v.query ≡ q
  pub best : map (λ row. row.0) v.rows ≡ best_of_query q c
  pub named : AllByRecursion (λ row. name_of c.stations row.0.id ≡ Some row.1) v.rows

-- ---- a row

-- the line of a row with its rank
abbrev pub row_line : Query → ℕ → Named → List ℕ
row_line q rank row = text_line (row_fields q (rank, row))

-- the score of a printed value: its digits without the point, and its sign
abbrev pub score_in : Query → List ℕ → Option ℤ
score_in q field = in_i64 (option_map (value_of q.score) (signed_by natural (filter (λ b. not (b == 46)) field)))

-- a row of these, if each is there, the ID is visible and the name can be
abbrev pub row_with : List ℕ → List ℕ → Option ℤ → Option ℤ → Option ℤ → Option Named
row_with id name (Some first) (Some last) (Some score) =
    if is_id id && is_name name
    then Some (record { id = record { 0 = id }; first = first; last = last; score = score }, name) else None
row_with id name first last score = None

-- what comes before the first blank
abbrev pub first_word : List ℕ → List ℕ
first_word text = take_while (λ b. not (b == 32)) text

-- the row in the columns after a rank of that many digits: ID and days are of fixed width, then come a value, the unit
-- and the name
abbrev pub row_in_columns : Query → ℕ → List ℕ → Option Named
row_in_columns q digits line =
    let before_end = length line - 1 in
    let value = first_word (slice_range line (digits + 35) before_end) in
    row_with
    (slice_range line (digits + 1) (digits + 12))
    (slice_range line (digits + length value + length (unit_text (measure_of_score q.score)) + 37) before_end)
    (read_date (slice_range line (digits + 13) (digits + 23)))
    (read_date (slice_range line (digits + 24) (digits + 34)))
    (score_in q value)

-- the row whose line with this rank this is
abbrev pub row_in : Query → ℕ → List ℕ → Option Named
row_in q rank line = exactly (row_line q rank) line (row_in_columns q (length (decimal rank)) line)

-- ---- the lines of a report

-- the last line of a report with that many rows
abbrev pub report_end : Query → ℕ → List ℕ
report_end q rows = text_line (end_fields q.k rows)

-- the row after that many others whose line this is, if there may be one more
abbrev pub row_behind : Query → ℕ → List ℕ → Option Named
row_behind q n line = if nat_lt n q.k then row_in q (suc n) line else None

-- the end line of that many rows, and what comes after it
abbrev pub ending_of_rows : Query → ℕ → List ℕ → List ℕ → Result (List Named) ℕ
ending_of_rows q n line behind = ends_by (n + 3) (same_bytes line (report_end q n)) (paper_lines behind)

-- the rows of these lines, which come after that many other rows, up to an end line with the number of all
abbrev pub rows_in : Query → ℕ → List (List ℕ) → Result (List Named) ℕ
rows_in q n ls = up_to_end 3 (row_behind q) (report_end q) n ls

-- a report with these rows
abbrev pub with_rows : Query → Result (List Named) ℕ → Result Reported ℕ
with_rows q (Ok rows) = Ok (record { query = q; rows = rows })
with_rows q (Err n) = Err n

-- a query, and rows
abbrev pub behind_report_title : List (List ℕ) → Result Reported ℕ
behind_report_title [] = Err 2
behind_report_title (l ∷ ls) = option_map_or (λ q. with_rows q (rows_in q 0 ls)) (query_in l) (Err 2)

-- a title, and what follows it
abbrev pub reported_lines : List (List ℕ) → Result Reported ℕ
reported_lines [] = Err 1
reported_lines (l ∷ ls) =
    if same_bytes l (text_line (codes "extremes report 1" ∷ [])) then behind_report_title ls else Err 1

-- what a report says, or the number of its first line that doesn't match the format there
abbrev pub read_report : List ℕ → Result Reported ℕ
read_report bytes = reported_lines (paper_lines bytes)

-- ---- what was read

-- a row that was read: its candidate, and its name
abbrev pub named_in : Row → Named
named_in row = (row.candidate, row.name.items)

-- what a report that was read says
abbrev pub reported_in : Report → Reported
reported_in r = record { query = r.query; rows = map named_in r.rows.items }

-- an error is out of memory, or the number of the line at which reading a report ends
abbrev pub IsBadReport : {A : Type 0} → Result A ℕ → PaperFault → Type 0
IsBadReport read (BadReport n) = read ≡ Err n
IsBadReport read (BadCertificate n) = ⊥
IsBadReport read (Memory m) = ⊤

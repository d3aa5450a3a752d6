-- The right report of a query.
use Rattle.std.specs.Prelude.{◌≡◌, ℕ, ◌-◌, ◌==◌, nat_lt, if◌then◌else◌, List, [], ◌∷◌, ◌++◌, length, take, map, codes}
use Rattle.std.specs.Prelude.{Some}
use Rattle.std.specs.List.{join_with_byte, flat_map, enumerate_from, find, suffix_len, AllByRecursion}
use Rattle.std.specs.Fmt.{decimal}
use Rattle.ghcn_fields.specs.Meaning.Dates.{date_text}
use Rattle.ghcn_files.specs.declared.station.Station.{Station}
use Rattle.ghcn_files.specs.Meaning.Listed.{is_station_of}
use Rattle.rank_query.specs.Meaning.Asked.{Query}
use Rattle.rank_query.specs.Meaning.QueryTexts.{query_text}
use Rattle.rank_scores.specs.declared.candidate.Candidate.{Candidate}
use Rattle.rank_papers.specs.Meaning.Values.{measure_of_score, value_of, value_text, unit_text}

-- ---- lines

-- fields with one blank between them, and a line feed
abbrev pub text_line : List (List ℕ) → List ℕ
text_line fields = join_with_byte 32 fields ++ 10 ∷ []

-- bytes without the blanks at their end
abbrev pub trimmed : List ℕ → List ℕ
trimmed bytes = take (length bytes - suffix_len (λ b. b == 32) bytes) bytes

-- one field, or none if it is empty
abbrev pub field_unless_empty : List ℕ → List (List ℕ)
field_unless_empty [] = []
field_unless_empty (b ∷ bytes) = (b ∷ bytes) ∷ []

-- the fields of a row: its rank, from 1, its candidate, with the value of the score and the unit, and a name
abbrev pub row_fields : Query → ℕ × (Candidate × List ℕ) → List (List ℕ)
row_fields q row =
    let candidate = row.1.0 in
    let measure = measure_of_score q.score in
    decimal row.0 ∷ candidate.id.0 ∷ date_text candidate.first ∷ date_text candidate.last
    ∷ value_text measure (value_of q.score candidate.score) ∷ unit_text measure ∷ field_unless_empty row.1.1

-- the fields of the last line: how many rows there are, and `all` if there are fewer than k
abbrev pub end_fields : ℕ → ℕ → List (List ℕ)
end_fields k n = codes "end" ∷ decimal n ∷ (if nat_lt n k then codes "all" ∷ [] else [])

-- ---- the text

-- the line of a query
abbrev pub query_line : Query → List ℕ
query_line q = text_line (codes "query" ∷ query_text q ∷ [])

-- the text of a report with these rows, ranked from 1
abbrev pub report_text : Query → List (Candidate × List ℕ) → List ℕ
report_text q rows =
    text_line (codes "extremes report 1" ∷ [])
    ++ query_line q
    ++ flat_map (λ row. text_line (row_fields q row)) (enumerate_from 1 rows)
    ++ text_line (end_fields q.k (length rows))

-- ---- whose rows are right

-- the report of a query with these best candidates: a row for each, with its listed station
pub record IsReportOfBest (q : Query) (stations : List Station) (candidates : List Candidate) (bytes : List ℕ)
    : Type 0 where
  pub rows : List (Candidate × Station)
  pub best : map (λ row. row.0) rows ≡ candidates
  pub listed : AllByRecursion (λ row. find (is_station_of row.0.id) stations ≡ Some row.1) rows
  pub text : bytes ≡ report_text q (map (λ row. (row.0, trimmed row.1.name)) rows)

-- What is said of an error that was found, whatever the query and the data of which these are the findings: it is that
-- of the first test that fails.
use Rattle.std.specs.Prelude.{◌≡◌, ℕ, ◌+◌, List, map, Option, Some, ℤ, slice_get}
use Rattle.std.specs.Option.{option_map}
use Rattle.ghcn_fields.specs.Faults.{first_failing}
use Rattle.ghcn_files.specs.declared.station.Station.{Station}
use Rattle.ghcn_series.specs.Meaning.Series.{Series}
use Rattle.ghcn_series.specs.Series.{Data}
use Rattle.rank_query.specs.Meaning.Asked.{Query}
use Rattle.rank_scores.specs.declared.candidate.Candidate.{Candidate}
use Rattle.rank_scores.specs.Morsels.{all_candidates, morsels, kth_of_query}
use Rattle.rank_papers.specs.declared.paper.Row.{Row}
use Rattle.rank_papers.specs.ReportLines.{named_in}
use Rattle.rank_papers.specs.Papers.{candidates_of}
use Rattle.rank_papers.specs.Certificate.{Line, Certified, count_of}
use Rattle.rank_check.specs.declared.tally.Met.{Met}
use Rattle.rank_check.specs.declared.survey.Top.{Top}
use Rattle.rank_check.specs.declared.survey.Findings.{Findings}
use Rattle.rank_check.specs.declared.refusal.Refusal.{Refusal}
use Rattle.rank_check.specs.Survey.{AreFindings, met, top}
use Rattle.rank_check.specs.Tests.{row_tests, tests_of_rows, line_tests, tests_of_lines, certificate_tests}

-- ---- rows

-- the error of all rows, if these are the stations and this was found of the rows
abbrev pub IsFaultOfRows : List Station → List Row → Findings → Option Refusal → Type 0
IsFaultOfRows stations rows found fault = (q : Query) (c : Data) → stations ≡ c.stations
    → AreFindings q c (candidates_of rows) found
    → fault ≡ first_failing (tests_of_rows q c (map named_in rows))

-- the error of the row at a place, if this was found of it
abbrev pub IsFaultOfRow : List Station → List Row → ℕ → Met → Option Refusal → Type 0
IsFaultOfRow stations rows place found fault = (q : Query) (c : Data) → stations ≡ c.stations
    → option_map (λ row. met (all_candidates q c) row.candidate) (slice_get rows place) ≡ Some found
    → option_map (λ row. first_failing (row_tests q c (map named_in rows) (place + 1, named_in row)))
    (slice_get rows place) ≡ Some fault

-- ---- lines of morsels, if the certificate has this k-th score, and that many of the report's rows belong to each line

-- the error of all lines with these counts, if these are the greatest scores of the morsels
abbrev pub IsFaultOfLines : Option ℤ → List ℕ → List ℕ → List Line → List Top → Option Refusal → Type 0
IsFaultOfLines kth wanted counts lines tops fault =
    (rows : List Candidate) → wanted ≡ map (count_of rows) lines
    → (q : Query) (c : Data) → tops ≡ map (top q) (morsels q c)
    → fault ≡ first_failing (tests_of_lines q c kth rows counts lines)

-- the error of a line by its number and its count, if it has one, if this is the greatest score of its morsel, if
-- there is one
abbrev pub IsFaultOfLine : Option ℤ → ℕ → ℕ → Line → Option ℕ → Option Top → Option Refusal → Type 0
IsFaultOfLine kth wanted number line count found fault =
    (rows : List Candidate) → wanted ≡ count_of rows line
    → (q : Query) (s : Option Series) → found ≡ option_map (top q) s
    → fault ≡ first_failing (line_tests q kth rows number line count s)

-- the error of the line at a place
abbrev pub IsFaultOfLineAt : Option ℤ → List ℕ → List ℕ → List Line → ℕ → Option Top → Option Refusal → Type 0
IsFaultOfLineAt kth wanted counts lines place found fault =
    (rows : List Candidate) → wanted ≡ map (count_of rows) lines
    → (q : Query) (s : Option Series) → found ≡ option_map (top q) s
    → option_map (λ line. first_failing (line_tests q kth rows (place + 4) line (slice_get counts place) s))
    (slice_get lines place) ≡ Some fault

-- ---- certificates

-- the error of a certificate beside a report with these rows, if this is the k-th score, and these are the greatest
-- scores of the morsels
abbrev pub IsFaultOfCertificate : Query → Option ℤ → List Candidate → Certified → List Top → Option Refusal → Type 0
IsFaultOfCertificate q kth rows z tops fault =
    (c : Data) → kth ≡ kth_of_query q c → tops ≡ map (top q) (morsels q c)
    → fault ≡ first_failing (certificate_tests q c rows z)

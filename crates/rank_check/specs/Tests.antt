-- The tests of a report and a certificate, in their order, and the verdict: the first that fails.
use Rattle.std.specs.Prelude.{ℕ, ◌+◌, ◌-◌, ◌==◌, Bool, true, false, ◌&&◌, ◌||◌, not, nat_le, if◌then◌else◌, List, []}
use Rattle.std.specs.Prelude.{◌∷◌, ◌++◌, length, Option, None, Some, Result, Ok, Err, ℤ, int_le, slice_get}
use Rattle.std.specs.List.{flat_map, list_all, list_any, find, enumerate_from}
use Rattle.std.specs.Option.{option_eq, option_map_or}
use Rattle.std.specs.Ordering.{is_eq, int_eq}
use Rattle.ghcn_fields.specs.Meaning.Bytes.{same_bytes}
use Rattle.ghcn_fields.specs.Faults.{first_failing}
use Rattle.ghcn_files.specs.declared.station.Station.{Station}
use Rattle.ghcn_files.specs.Meaning.Ids.{same_id}
use Rattle.ghcn_files.specs.Meaning.Listed.{is_station_of}
use Rattle.ghcn_series.specs.Meaning.Series.{Series}
use Rattle.ghcn_series.specs.Series.{Data}
use Rattle.rank_query.specs.Meaning.Asked.{Query}
use Rattle.rank_scores.specs.declared.candidate.Candidate.{Candidate}
use Rattle.rank_scores.specs.Candidates.{candidates}
use Rattle.rank_scores.specs.Meaning.Order.{precedes}
use Rattle.rank_scores.specs.Order.{full_cmp, rank_in, bound_is_below}
use Rattle.rank_scores.specs.Morsels.{all_candidates, morsels, kth_of_query}
use Rattle.rank_papers.specs.Papers.{read_papers, same_query, of_rows}
use Rattle.rank_papers.specs.Meaning.Report.{trimmed}
use Rattle.rank_papers.specs.Report.{Named}
use Rattle.rank_papers.specs.ReportLines.{Reported}
use Rattle.rank_papers.specs.Certificate.{Line, Certified, count_of}
use Rattle.rank_papers.specs.declared.fault.Paper.{Paper}
use Rattle.rank_papers.specs.declared.fault.Paper.TheVariants.{Report, Certificate}
use Rattle.rank_check.specs.declared.verdict.Why.{Why}
use Rattle.rank_check.specs.declared.verdict.Why.TheVariants.{Form, OtherQuery, NotACandidate, OutOfOrder, NotBest}
use Rattle.rank_check.specs.declared.verdict.Why.TheVariants.{TooFew, OtherSeries, NoBound, NotBelow, NotCounted}
use Rattle.rank_check.specs.declared.verdict.Why.TheVariants.{OtherFloor}
use Rattle.rank_check.specs.declared.verdict.Verdict.{Verdict}
use Rattle.rank_check.specs.declared.verdict.Verdict.TheVariants.{Accepted, Refused}
use Rattle.rank_check.specs.declared.refusal.Refusal.{Refusal}

-- the refusal of a line for a reason
abbrev pub refusal : Paper → ℕ → Why → Refusal
refusal paper line why = record { paper = paper; line = line; why = why }

-- a test that may fail, and the refusal if it does
abbrev pub Test : Type 0
Test = Bool × Refusal

-- ---- rows

-- a candidate is one of these
abbrev pub is_one_of : List Candidate → Candidate → Bool
is_one_of all c = list_any (λ d. is_eq (full_cmp d c)) all

-- the name is that of the listed station with this ID
abbrev pub is_named : List Station → Named → Bool
is_named stations row = option_map_or (λ s. same_bytes (trimmed s.name) row.1) (find (is_station_of row.0.id)
    stations) false

-- the row before the i-th, if there is one
abbrev pub row_before : List Named → ℕ → Option Named
row_before rows i = if nat_le i 1 then None else slice_get rows (i - 2)

-- the row before the i-th precedes it, if there is one
abbrev pub follows : List Named → ℕ → Named → Bool
follows rows i row = option_map_or (λ r. precedes r.0 row.0) (row_before rows i) true

-- the tests of the i-th row, from 1
abbrev pub row_tests : Query → Data → List Named → ℕ × Named → List Test
row_tests q c rows row =
    let candidate = row.1.0 in
    (is_one_of (all_candidates q c) candidate && is_named c.stations row.1, refusal Report (row.0 + 2) NotACandidate)
    ∷ (follows rows row.0 row.1, refusal Report (row.0 + 2) OutOfOrder)
    ∷ (rank_in (all_candidates q c) candidate == row.0 - 1, refusal Report (row.0 + 2) NotBest)
    ∷ []

-- the tests of all rows
abbrev pub tests_of_rows : Query → Data → List Named → List Test
tests_of_rows q c rows = flat_map (row_tests q c rows) (enumerate_from 1 rows)

-- that many rows are as many as were asked for, or as there are candidates
abbrev pub are_enough : ℕ → ℕ → ℕ → Bool
are_enough k candidates rows = nat_le k rows || nat_le candidates rows

-- the test of the number of rows
abbrev pub number_test : ℕ → ℕ → ℕ → Test
number_test k candidates rows = (are_enough k candidates rows, refusal Report (rows + 3) TooFew)

-- the tests of a report that was read
abbrev pub report_tests : Query → Data → Reported → List Test
report_tests q c r =
    (same_query r.query q, refusal Report 2 OtherQuery)
    ∷ tests_of_rows q c r.rows
    ++ number_test q.k (length (all_candidates q c)) (length r.rows)
    ∷ []

-- ---- lines of morsels

-- no candidate of the series scores above the bound
abbrev pub is_above : Query → ℤ → Series → Bool
is_above q bound s = list_all (λ c. int_le c.score bound) (candidates q s)

-- a count, if there is one, is the number of the rows of an entry's station
abbrev pub is_counted : List Candidate → Line → Option ℕ → Bool
is_counted rows e count = option_map_or (λ n. n == count_of rows e) count true

-- the tests of the line of this number about a morsel, if there is one for it, if the certificate has this k-th
-- score, the report these rows, and the line this count, if it has one
abbrev pub line_tests : Query → Option ℤ → List Candidate → ℕ → Line → Option ℕ → Option Series → List Test
line_tests q kth rows number e count morsel =
    (option_map_or (λ s. same_id e.id s.id) morsel false, refusal Certificate number OtherSeries)
    ∷ (option_map_or (is_above q e.bound) morsel true, refusal Certificate number NoBound)
    ∷ (not e.skipped || bound_is_below kth e.bound, refusal Certificate number NotBelow)
    ∷ (is_counted rows e count, refusal Certificate number NotCounted)
    ∷ []

-- the tests of the j-th line, from 1, of a certificate with these counts
abbrev pub entry_tests : Query → Data → Option ℤ → List Candidate → List ℕ → ℕ × Line → List Test
entry_tests q c kth rows counts l =
    line_tests q kth rows (l.0 + 3) l.1 (slice_get counts (l.0 - 1)) (slice_get (morsels q c) (l.0 - 1))

-- the tests of all lines of morsels
abbrev pub tests_of_lines : Query → Data → Option ℤ → List Candidate → List ℕ → List Line → List Test
tests_of_lines q c kth rows counts es = flat_map (entry_tests q c kth rows counts) (enumerate_from 1 es)

-- the test of the number of lines: there are as many as morsels
abbrev pub length_test : ℕ → ℕ → Test
length_test morsels lines = (nat_le morsels lines, refusal Certificate (lines + 4) OtherSeries)

-- the tests of a certificate that was read, beside a report with these rows
abbrev pub certificate_tests : Query → Data → List Candidate → Certified → List Test
certificate_tests q c rows z =
    (same_query z.query q, refusal Certificate 2 OtherQuery)
    ∷ (option_eq int_eq z.kth (kth_of_query q c), refusal Certificate 3 OtherFloor)
    ∷ tests_of_lines q c z.kth rows z.counts z.entries
    ++ length_test (length (morsels q c)) (length z.entries)
    ∷ []

-- ---- the verdict

-- the tests of a report and a certificate that were read, in their order
abbrev pub all_tests : Query → Data → Reported → Certified → List Test
all_tests q c r z = report_tests q c r ++ certificate_tests q c (of_rows r.rows) z

-- the refusal of what the report and the certificate say: of the first line that doesn't match the format there, or
-- otherwise by the first test that fails
abbrev pub refused : Query → Data → Result (Reported × Certified) (Paper × ℕ) → Option Refusal
refused q c (Err bad) = Some (refusal bad.0 bad.1 Form)
refused q c (Ok both) = first_failing (all_tests q c both.0 both.1)

-- acceptance, if nothing is refused
abbrev pub verdict_of : Option Refusal → Verdict
verdict_of None = Accepted
verdict_of (Some r) = Refused r.paper r.line r.why

-- the verdict on the texts of a report and a certificate
abbrev pub verdict : Query → Data → List ℕ → List ℕ → Verdict
verdict q c report certificate = verdict_of (refused q c (read_papers report certificate))

-- What a part of an archive says of a report and a certificate of the whole: of their head, of the lines of its own
-- series, and of its own series without a line.
use Rattle.std.specs.Prelude.{ℕ, suc, ◌+◌, Bool, ◌||◌, not, if◌then◌else◌, List, [], ◌∷◌, length, Option, None, Some}
use Rattle.std.specs.Prelude.{Result, Ok, Err}
use Rattle.std.specs.List.{list_all, list_any, find}
use Rattle.std.specs.Option.{option_or, option_map, option_map_or, option_and_then}
use Rattle.ghcn_fields.specs.Faults.{first_failing}
use Rattle.ghcn_files.specs.declared.station.Station.{Station}
use Rattle.ghcn_files.specs.declared.station.StationId.{StationId}
use Rattle.ghcn_files.specs.Meaning.Ids.{same_id}
use Rattle.ghcn_files.specs.Meaning.Listed.{is_station_of}
use Rattle.ghcn_series.specs.Series.{Data}
use Rattle.rank_query.specs.Meaning.Asked.{Query}
use Rattle.rank_scores.specs.Morsels.{morsels}
use Rattle.rank_papers.specs.Report.{Named}
use Rattle.rank_papers.specs.declared.fault.Paper.{Paper}
use Rattle.rank_papers.specs.ReportLines.{Reported}
use Rattle.rank_papers.specs.Certificate.{Line, Certified, count_of}
use Rattle.rank_papers.specs.Papers.{read_papers, of_rows}
use Rattle.rank_head.specs.declared.fault.HeadFault.{HeadFault}
use Rattle.rank_head.specs.declared.fault.HeadFault.TheVariants.{OtherReportQuery, OtherCertificateQuery, OutOfOrder}
use Rattle.rank_head.specs.declared.fault.HeadFault.TheVariants.{OtherFloor, NotRising, NotScanned, NotCounted}
use Rattle.rank_head.specs.HeadTests.{head_fault}
use Rattle.rank_papers.specs.declared.fault.Paper.TheVariants.{Report, Certificate}
use Rattle.rank_check.specs.declared.verdict.Why.{Why}
use Rattle.rank_check.specs.declared.verdict.Why.TheVariants as why
use Rattle.rank_check.specs.declared.refusal.Refusal.{Refusal}
use Rattle.rank_check.specs.Tests.{refusal}
use Rattle.rank_check.specs.Pieces.{is_morsel, piece_tests}
use Rattle.rank_parts.specs.InPieces.{rows_with, worst_of, own_series}
use Rattle.rank_parts.specs.declared.verdict.PartVerdict.{PartVerdict}
use Rattle.rank_parts.specs.declared.verdict.PartVerdict.TheVariants.{Accepted, Refused}

-- ---- the head

-- the refusal for an error of the head
abbrev pub refusal_of : HeadFault → Refusal
refusal_of OtherReportQuery = refusal Report 2 why.OtherQuery
refusal_of OtherCertificateQuery = refusal Certificate 2 why.OtherQuery
refusal_of (OutOfOrder line) = refusal Report line why.OutOfOrder
refusal_of OtherFloor = refusal Certificate 3 why.OtherFloor
refusal_of (NotRising line) = refusal Certificate line why.OtherSeries
refusal_of (NotScanned line) = refusal Report line why.NotACandidate
refusal_of (NotCounted line) = refusal Certificate line why.NotCounted

-- ---- lines

-- the series of a listed station is a morsel of these data
abbrev pub is_own : Query → Data → Station → Bool
is_own q d st = is_morsel q st (own_series q d st)

-- why a line of this station is refused: by the first test that it fails, if the series is a morsel of these
-- data; its count is the number of the station's rows, as the head has it
abbrev pub why_at : Query → Data → List Named → Line → Station → Option Why
why_at q d rows e st =
    if is_own q d st
    then first_failing (piece_tests q st (own_series q d st) e (count_of (of_rows rows) e) (rows_with e.id rows)
    (worst_of q.k rows))
    else None

-- why a line is refused, if it is; the line of a station that isn't listed isn't looked at
abbrev pub why_of_line : Query → Data → List Named → Line → Option Why
why_of_line q d rows e = option_and_then (why_at q d rows e) (find (is_station_of e.id) d.stations)

-- the refusal of the first of these lines that has a reason, if the first of them has this number
abbrev pub first_refused : (Line → Option Why) → ℕ → List Line → Option Refusal
first_refused reason n [] = None
first_refused reason n (e ∷ es) =
    option_or (option_map (refusal Certificate n) (reason e)) (first_refused reason (suc n) es)

-- ---- series without a line

-- a line belongs to this station
abbrev pub has_line : List Line → StationId → Bool
has_line es id = list_any (λ e. same_id e.id id) es

-- each morsel of these data has a line
abbrev pub have_lines : Query → Data → List Line → Bool
have_lines q d es = list_all (λ st. not (is_own q d st) || has_line es st.id) d.stations

-- the refusal of lines among which one of a morsel is missing: it is reported at the line after them
abbrev pub missing_refused : Query → Data → List Line → Option Refusal
missing_refused q d es =
    if have_lines q d es then None else Some (refusal Certificate (length es + 4) why.OtherSeries)

-- ---- the verdict

-- the refusal of a report and a certificate that were read: by the head, by its first bad line, or by a missing one
abbrev pub refused : Query → Data → Reported → Certified → Option Refusal
refused q d r z =
    option_or (option_map refusal_of (head_fault q r z))
    (option_or (first_refused (why_of_line q d r.rows) 4 z.entries) (missing_refused q d z.entries))

-- the verdict on what the report and the certificate say: the refusal of the first line that doesn't match the format
-- there, or otherwise of what was read, or how many series and lines
abbrev pub part_judged : Query → Data → Result (Reported × Certified) (Paper × ℕ) → PartVerdict
part_judged q d (Err bad) = Refused (refusal bad.0 bad.1 why.Form)
part_judged q d (Ok both) =
    option_map_or Refused (refused q d both.0 both.1) (Accepted (length (morsels q d)) (length both.1.entries))

-- what a part says of the texts of a report and a certificate
abbrev pub part_verdict : Query → Data → List ℕ → List ℕ → PartVerdict
part_verdict q d report certificate = part_judged q d (read_papers report certificate)

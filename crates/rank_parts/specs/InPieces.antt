-- A report and a certificate of version 2, checked in pieces: the head, each line, and each station without a line.
use Rattle.std.specs.Prelude.{◌≡◌, ◌↔◌, ℕ, ◌-◌, false, List, filter, Option}
use Rattle.std.specs.Prelude.{None, Some, slice_get}
use Rattle.std.specs.List.{list_any, find, AllByRecursion, AllZip}
use Rattle.std.specs.Option.{option_map}
use Rattle.ghcn_fields.specs.Faults.{first_failing}
use Rattle.ghcn_files.specs.declared.station.Station.{Station}
use Rattle.ghcn_files.specs.declared.station.StationId.{StationId}
use Rattle.ghcn_files.specs.Meaning.Ids.{same_id}
use Rattle.ghcn_files.specs.Meaning.Listed.{is_station_of}
use Rattle.ghcn_series.specs.Meaning.Series.{Series}
use Rattle.ghcn_series.specs.Series.{Data, series_of}
use Rattle.ghcn_series.specs.Held.{IsContents}
use Rattle.rank_query.specs.Meaning.Asked.{Query, IsAsked, score_element}
use Rattle.rank_scores.specs.declared.candidate.Candidate.{Candidate}
use Rattle.rank_papers.specs.Report.{Named}
use Rattle.rank_papers.specs.ReportLines.{Reported, IsReported, IsReportOf, SaysRightReport}
use Rattle.rank_papers.specs.Certificate.{Line, Certified, IsCertified, IsCertificateOf, SaysRightCertificate}
use Rattle.rank_head.specs.RightHead.{IsRightHead}
use Rattle.rank_check.specs.declared.verdict.Verdict.TheVariants.{Accepted}
use Rattle.rank_check.specs.Tests.{verdict}
use Rattle.rank_check.specs.Pieces.{is_morsel, piece_tests}

-- ---- what each piece is given

-- the rows of the station with this ID
abbrev pub rows_with : StationId → List Named → List Named
rows_with id rows = filter (λ row. same_id row.0.id id) rows

-- the last row, if there are as many as were asked for
abbrev pub worst_of : ℕ → List Named → Option Candidate
worst_of k rows = option_map (λ row. row.0) (slice_get rows (k - 1))

-- the series of the query's element of a station
abbrev pub own_series : Query → Data → Station → Option Series
own_series q c st = series_of c st.id (score_element q.score)

-- ---- all pieces

-- a line with its count is accepted by itself: its station is listed, and no test fails
abbrev pub IsAccepted : Query → Data → List Named → Line → ℕ → Type 0
IsAccepted q c rows e n = (st : Station) × (find (is_station_of e.id) c.stations ≡ Some st)
    × (first_failing (piece_tests q st (own_series q c st) e n (rows_with e.id rows) (worst_of q.k rows)) ≡ None)

-- a listed station without a line is accepted by itself: it isn't a morsel
abbrev pub IsAbsent : Query → Data → List Line → Station → Type 0
IsAbsent q c es st =
    list_any (λ e. same_id e.id st.id) es ≡ false → is_morsel q st (own_series q c st) ≡ false

-- the head is right, each line is accepted by itself, and so is each listed station without a line
pub record AreRightPieces (q : Query) (c : Data) (r : Reported) (z : Certified) : Type 0 where
  pub head : IsRightHead q r z
  pub lines : AllZip (IsAccepted q c r.rows) z.entries z.counts
  pub absent : AllByRecursion (IsAbsent q c z.entries) c.stations

-- a report and a certificate of version 2 say what is right if and only if their pieces are right, in whatever order
-- these are checked
abbrev pub RightInPieces : Type 0
RightInPieces = (q : Query) (c : Data) (r : Reported) (z : Certified) → IsAsked q → IsContents c → IsReported r
    → IsCertified z → z.version ≡ 2
    → (SaysRightReport q c r × SaysRightCertificate q c z) ↔ AreRightPieces q c r z

-- so the verdict on the texts of such a report and such a certificate accepts if and only if their pieces are right
abbrev pub AcceptedInPieces : Type 0
AcceptedInPieces = (q : Query) (c : Data) (report certificate : List ℕ) (r : Reported) (z : Certified)
    → IsAsked q → IsContents c → IsReportOf r report → IsCertificateOf z certificate → z.version ≡ 2
    → (verdict q c report certificate ≡ Accepted) ↔ AreRightPieces q c r z

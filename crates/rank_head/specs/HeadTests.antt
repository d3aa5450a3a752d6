-- What can be seen of a report and a certificate without data, as tests in their order.
use Rattle.std.specs.Prelude.{◌≡◌, ℕ, suc, Bool, true, ◌==◌, ◌&&◌, not, List, [], ◌∷◌, ◌++◌, map, Option}
use Rattle.std.specs.Prelude.{ℤ}
use Rattle.std.specs.List.{list_any, zip, AllByRecursion}
use Rattle.std.specs.Option.{option_eq}
use Rattle.std.specs.Ordering.{is_lt, nat_cmp, int_eq}
use Rattle.std.specs.Cmp.Lexicographic.{slice_cmp}
use Rattle.ghcn_fields.specs.Faults.{first_failing}
use Rattle.ghcn_files.specs.declared.station.StationId.{StationId}
use Rattle.ghcn_files.specs.Meaning.Ids.{same_id}
use Rattle.rank_query.specs.Meaning.Asked.{Query}
use Rattle.rank_scores.specs.Meaning.Order.{precedes}
use Rattle.rank_papers.specs.Papers.{same_query, of_rows, neighbours}
use Rattle.rank_papers.specs.Report.{Named}
use Rattle.rank_papers.specs.ReportLines.{Reported}
use Rattle.rank_papers.specs.Certificate.{Line, Certified, kth_of_best, count_of}
use Rattle.rank_head.specs.declared.fault.HeadFault.{HeadFault}
use Rattle.rank_head.specs.declared.fault.HeadFault.TheVariants.{OtherReportQuery, OtherCertificateQuery, OutOfOrder}
use Rattle.rank_head.specs.declared.fault.HeadFault.TheVariants.{OtherFloor, NotRising, NotScanned, NotCounted}

-- a test that may fail, and why the head is refused if it does
abbrev pub HeadTest : Type 0
HeadTest = Bool × HeadFault

-- ---- lines

-- a test of each of these, which are on the lines from this one on
abbrev pub on_lines : {A : Type 0} → (A → Bool) → (ℕ → HeadFault) → ℕ → List A → List HeadTest
on_lines passes why line [] = []
on_lines passes why line (x ∷ xs) = (passes x, why line) ∷ on_lines passes why (suc line) xs

-- ---- scores

-- the k-th score is that of the k-th row, if there are k rows, and otherwise none
abbrev pub floor_test : Query → List Named → Option ℤ → HeadTest
floor_test q rows kth = (option_eq int_eq kth (kth_of_best q.k (of_rows rows)), OtherFloor)

-- ---- rows and lines of series

-- each row precedes the next; the second is line 4 of the report
abbrev pub order_tests : List Named → List HeadTest
order_tests rows = on_lines (λ two. precedes two.0 two.1) OutOfOrder 4 (neighbours (of_rows rows))

-- an ID comes before another
abbrev pub stands_before : StationId → StationId → Bool
stands_before a b = is_lt (slice_cmp nat_cmp a.0 b.0)

-- the IDs of lines rise
abbrev pub IdsRise : List Line → Type 0
IdsRise es = AllByRecursion (λ two. stands_before two.0.id two.1.id ≡ true) (neighbours es)

-- the test of that; the second is line 5 of the certificate
abbrev pub rising_tests : List Line → List HeadTest
rising_tests es = on_lines (λ two. stands_before two.0.id two.1.id) NotRising 5 (neighbours es)

-- a line belongs to this station, and the series wasn't skipped
abbrev pub is_scanned : List Line → StationId → Bool
is_scanned es id = list_any (λ e. not e.skipped && same_id e.id id) es

-- each row belongs to a series that was scanned; the first is line 3 of the report
abbrev pub scanned_tests : List Line → List Named → List HeadTest
scanned_tests es rows = on_lines (λ row. is_scanned es row.0.id) NotScanned 3 rows

-- the order of rows, the k-th score, the order of lines, and the series of the rows
abbrev pub place_tests : Query → List Named → Option ℤ → List Line → List HeadTest
place_tests q rows kth es =
    order_tests rows ++ floor_test q rows kth ∷ rising_tests es ++ scanned_tests es rows

-- each count is the one that is wanted; the first is on line 4 of the certificate
abbrev pub matching_tests : List ℕ → List ℕ → List HeadTest
matching_tests counts wanted = on_lines (λ two. two.0 == two.1) NotCounted 4 (zip counts wanted)

-- each count, if there are any, is the number of rows of its line's station
abbrev pub count_tests : List Named → List Line → List ℕ → List HeadTest
count_tests rows es counts = matching_tests counts (map (count_of (of_rows rows)) es)

-- ---- the head

-- the tests of a report and a certificate, as those of this query
abbrev pub head_tests : Query → Reported → Certified → List HeadTest
head_tests q r z =
    (same_query r.query q, OtherReportQuery)
    ∷ (same_query z.query q, OtherCertificateQuery)
    ∷ place_tests q r.rows z.kth z.entries
    ++ count_tests r.rows z.entries z.counts

-- the error of the first of them that fails
abbrev pub head_fault : Query → Reported → Certified → Option HeadFault
head_fault q r z = first_failing (head_tests q r z)

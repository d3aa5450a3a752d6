-- A report and a certificate are accepted if and only if both are right.
use Rattle.std.proofs.Common.{◌≡◌, inl, inr, ℕ, ◌≤◌, false, cond, map, subst, Option, true, List, [], length, sym, ap}
use Rattle.std.proofs.Common.{◌∙◌, ℤ}
use Rattle.std.specs.Prelude.{◌==◌}
use Rattle.std.specs.List.{flat_map, enumerate_from, AllByRecursion, AllZip}
use Rattle.std.proofs.lemmas.Bool.{leb-true}
use Rattle.std.proofs.lemmas.Slice.Zip.{AllZip-long}
use Rattle.ghcn_series.specs.Series.{Data}
use Rattle.ghcn_series.specs.Held.{IsContents}
use Rattle.rank_query.specs.Meaning.Asked.{Query, IsAsked}
use Rattle.rank_scores.specs.QueryCandidates.{CandidatesAreApart}
use Rattle.rank_scores.specs.declared.candidate.Candidate.{Candidate}
use Rattle.rank_scores.specs.Morsels.{morsels, best_of_query, kth_of_query}
use Rattle.rank_papers.specs.Report.{IsFoundReport}
use Rattle.rank_papers.specs.ReportLines.{Reported, IsReportOf, SaysRightReport}
use Rattle.rank_papers.specs.Certificate.{Certified, Line, IsCount, AreCounts, IsFoundCertificate, IsCertificateOf}
use Rattle.rank_papers.specs.Certificate.{IsRightEntry, count_of, counts_of, SaysRightCertificate}
use Rattle.rank_papers.specs.Laws.{CertificatesAreRead, RightCertificatesSayRight, ReportsAreRead, RightReportsSayRight}
use Rattle.rank_papers.proofs.SameQueries.{one_query, own_query, score_from, score_to}
use Rattle.rank_papers.specs.Papers.{read_papers, of_rows}
use Rattle.rank_papers.proofs.ReadBoth.{papers_read}
use Rattle.rank_check.specs.declared.verdict.Verdict.TheVariants.{Accepted}
use Rattle.rank_check.specs.Tests.{Test, row_tests, report_tests, entry_tests, certificate_tests, verdict}
use Rattle.rank_check.specs.Laws.{AcceptedWhereRight}
use Rattle.rank_check.proofs.Each.{each-append, each-parts}
use Rattle.rank_check.proofs.Accepted.{Passes, accepted-pass, pass-accepted}
use Rattle.rank_check.proofs.RightRows.{rows_best, rows_named, best_pass}
use Rattle.rank_check.proofs.RightLines.{AreCounted, are_counted, lines_right, counts_are, right_pass}

module _ (q : Query) (c : Data) (asked : IsAsked q) (right : IsContents c) (certificates : CertificatesAreRead)
    (apart : CandidatesAreApart) where
  -- the tests of the rows of a report
  abbrev tests_of_rows : Reported → List Test
  tests_of_rows r = flat_map (row_tests q c r.rows) (enumerate_from 1 r.rows)

  -- the tests of the lines of a certificate beside these rows
  abbrev tests_of_lines : List Candidate → Certified → List Test
  tests_of_lines rows z = flat_map (entry_tests q c z.kth rows z.counts) (enumerate_from 1 z.entries)

  -- ---- the report

  -- a report whose tests pass says what is right
  report_right : (bytes : List ℕ) (r : Reported) → IsReportOf r bytes → AllByRecursion Passes (report_tests q c r)
      → SaysRightReport q c r
  report_right bytes r is h =
      let parts = each-parts Passes (tests_of_rows r) _ h.1 in
      let same : r.query ≡ q = one_query certificates r.query q is.can_be.asked asked h.0 in
      let few : length r.rows ≤ q.k =
      subst (λ (a : Query). length r.rows ≤ a.k) same (leb-true (length r.rows) r.query.k is.can_be.few) in
      record {
        asked = same;
        best = rows_best q c (apart q c right) r.rows few parts.0 parts.1.0;
        named = rows_named q c (apart q c right) r.rows 1 r.rows parts.0;
      }

  -- and the tests of one that says so pass
  report_passes : (r : Reported) → SaysRightReport q c r → AllByRecursion Passes (report_tests q c r)
  report_passes r says =
      let pass = best_pass q c (apart q c right) r.rows says.best says.named in (
        own_query r.query q says.asked,
        each-append Passes (tests_of_rows r) _ pass.0 (pass.1, tt),
      )

  -- ---- the certificate

  -- counts whose tests pass are those of the best candidates
  counts_best : (rows : List Candidate) (z : Certified) → rows ≡ best_of_query q c
      → AreCounts z.version z.entries z.counts → AllByRecursion Passes (tests_of_lines rows z)
      → z.counts ≡ counts_of z.version (best_of_query q c) z.entries
  counts_best rows z best (inl k) h =
      k.1 ∙ sym (ap (λ (v : ℕ). counts_of v (best_of_query q c) z.entries) k.0)
  counts_best rows z best (inr k) h =
      let long : length z.counts ≡ length z.entries = AllZip-long IsCount z.entries z.counts k.1 in
      counts_are q c z.kth rows z.counts z.entries long h
      ∙ ap (λ (l : List Candidate). map (count_of l) z.entries) best
      ∙ sym (ap (λ (v : ℕ). counts_of v (best_of_query q c) z.entries) k.0)

  -- those of the best candidates are counted
  best_counted : (rows : List Candidate) (w : ℕ) (es : List Line) → rows ≡ best_of_query q c
      → AreCounted rows (counts_of w (best_of_query q c) es) es
  best_counted rows w es best =
      subst (λ (l : List Candidate). AreCounted rows (counts_of w l es) es) best
      (elim (w == 2) as (λ b. AreCounted rows (cond b (map (count_of rows) es) []) es) [
        | true ↦ are_counted rows es
        | false ↦ tt
      ])

  -- a certificate whose tests pass beside the best rows says what is right
  certificate_right : (bytes : List ℕ) (rows : List Candidate) (z : Certified) → rows ≡ best_of_query q c
      → IsCertificateOf z bytes → AllByRecursion Passes (certificate_tests q c rows z) → SaysRightCertificate q c z
  certificate_right bytes rows z best is h =
      let kth : z.kth ≡ kth_of_query q c = score_from z.kth (kth_of_query q c) h.1.0 in
      let parts = each-parts Passes (tests_of_lines rows z) _ h.1.1 in
      record {
        asked = one_query certificates z.query q is.can_be.asked asked h.0;
        kth = kth;
        entries = subst (λ (k : Option ℤ). AllZip (IsRightEntry q k) z.entries (morsels q c)) kth
            (lines_right q c z.kth rows z.counts z.entries is.can_be.entries parts.0 parts.1.0);
        counts = counts_best rows z best is.can_be.counts parts.0;
      }

  -- and the tests of one that says so pass
  certificate_passes : (rows : List Candidate) (z : Certified) → rows ≡ best_of_query q c → SaysRightCertificate q c z
      → AllByRecursion Passes (certificate_tests q c rows z)
  certificate_passes rows z best says =
      let pass = right_pass q c z.kth rows z.counts z.entries
      (subst (λ (k : Option ℤ). AllZip (IsRightEntry q k) z.entries (morsels q c)) (sym says.kth) says.entries)
      (subst (λ (ns : List ℕ). AreCounted rows ns z.entries) (sym says.counts)
      (best_counted rows z.version z.entries best)) in (
        own_query z.query q says.asked,
        (
          score_to z.kth (kth_of_query q c) says.kth,
          each-append Passes (tests_of_lines rows z) _ pass.0 (pass.1, tt),
        ),
      )

-- both directions, by what is known of texts that are read
pub accepted_right : CertificatesAreRead → RightCertificatesSayRight → ReportsAreRead → RightReportsSayRight
    → CandidatesAreApart → AcceptedWhereRight
accepted_right certificates right_certificates reports right_reports apart q c report certificate asked right =
    (accepted, both_right)
  where
    accepted : verdict q c report certificate ≡ Accepted → IsFoundReport q c report × IsFoundCertificate q c certificate
    accepted e =
        let pass = accepted-pass q c (read_papers report certificate) e in
        let are = (papers_read reports certificates report certificate pass.report pass.certificate).0 pass.read in
        let rows : List Candidate = of_rows pass.report.rows in
        let parts = each-parts Passes (report_tests q c pass.report) (certificate_tests q c rows pass.certificate)
        pass.tests in
        let says = report_right q c asked right certificates apart report pass.report are.0 parts.0 in (
          (right_reports q c report asked right).1 (pass.report, are.0, says),
          (right_certificates q c certificate asked right).1 (
            pass.certificate,
            are.1,
            certificate_right q c asked right certificates apart certificate rows pass.certificate says.best
                are.1 parts.1,
          ),
        )

    both_right : IsFoundReport q c report × IsFoundCertificate q c certificate → verdict q c report certificate ≡ Accepted
    both_right h =
        let r = (right_reports q c report asked right).0 h.0 in
        let z = (right_certificates q c certificate asked right).0 h.1 in
        pass-accepted q c (read_papers report certificate) (record {
          report = r.0;
          certificate = z.0;
          read = (papers_read reports certificates report certificate r.0 z.0).1 (r.1, z.1);
          tests = each-append Passes (report_tests q c r.0) (certificate_tests q c (of_rows r.0.rows) z.0)
              (report_passes q c asked right certificates apart r.0 r.2)
              (certificate_passes q c asked right certificates apart (of_rows r.0.rows) z.0 r.2.best z.2);
        })

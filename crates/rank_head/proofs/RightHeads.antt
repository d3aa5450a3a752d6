-- No test of a head fails if and only if it is right.
use Rattle.std.proofs.Common.{◌≡◌, inl, inr, ℕ, true, List, [], ◌∷◌, ◌++◌, map, None, refl, sym, ap, ◌∙◌, ◌==◌}
use Rattle.std.specs.List.{zip, AllByRecursion, AllZip}
use Rattle.std.proofs.lemmas.Bool.{eqb-true, eq-eqb}
use Rattle.ghcn_fields.specs.Faults.{first_failing}
use Rattle.rank_query.specs.Meaning.Asked.{Query, IsAsked}
use Rattle.rank_scores.specs.declared.candidate.Candidate.{Candidate}
use Rattle.rank_scores.specs.Meaning.Order.{precedes}
use Rattle.rank_papers.specs.Report.{Named}
use Rattle.rank_papers.specs.ReportLines.{Reported, IsReported}
use Rattle.rank_papers.specs.Certificate.{Certified, Line, IsCertified, IsCount, AreCounts, kth_of_best, count_of, counts_of}
use Rattle.rank_papers.specs.Laws.{CertificatesAreRead}
use Rattle.rank_papers.specs.Papers.{same_query, of_rows, neighbours}
use Rattle.rank_papers.proofs.FirstFailing.{front_none, front_passed, none_of, none_of_both}
use Rattle.rank_papers.proofs.SameQueries.{one_query, own_query, score_from, score_to}
use Rattle.rank_head.specs.declared.fault.HeadFault.TheVariants.{OtherReportQuery, OtherCertificateQuery, OutOfOrder}
use Rattle.rank_head.specs.declared.fault.HeadFault.TheVariants.{NotRising, NotScanned, NotCounted}
use Rattle.rank_head.specs.HeadTests.{HeadTest, floor_test, order_tests, stands_before, rising_tests, is_scanned}
use Rattle.rank_head.specs.HeadTests.{scanned_tests, matching_tests, place_tests, count_tests, head_fault}
use Rattle.rank_head.specs.RightHead.{IsRightHead, HeadsAreRight}
use Rattle.rank_head.proofs.FirstPlaces.{all_pass, none_refused}

-- ---- counts

-- numbers beside others that are the same are these
same_numbers : (es : List Line) (ns : List ℕ) (f : Line → ℕ) → AllZip IsCount es ns
    → AllByRecursion (λ two. (two.0 == two.1) ≡ true) (zip ns (map f es)) → ns ≡ map f es
same_numbers [] [] f k h = refl
same_numbers [] (n ∷ ns) f k h = absurd k
same_numbers (e ∷ es) [] f k h = absurd k
same_numbers (e ∷ es) (n ∷ ns) f k h =
    ap (λ (m : ℕ). m ∷ ns) (eqb-true n (f e) h.0) ∙ ap (λ (l : List ℕ). f e ∷ l) (same_numbers es ns f k.1 h.1)

-- numbers beside themselves are the same
own_numbers : (ns : List ℕ) → AllByRecursion (λ two. (two.0 == two.1) ≡ true) (zip ns ns)
own_numbers [] = tt
own_numbers (n ∷ ns) = (eq-eqb n n refl, own_numbers ns)

module _ (rows : List Named) (z : Certified) where
  -- counts whose tests pass are those of the rows
  counts_from : AreCounts z.version z.entries z.counts → first_failing (count_tests rows z.entries z.counts) ≡ None
      → z.counts ≡ counts_of z.version (of_rows rows) z.entries
  counts_from (inl k) e =
      k.1 ∙ sym (ap (λ (v : ℕ). counts_of v (of_rows rows) z.entries) k.0)
  counts_from (inr k) e =
      same_numbers z.entries z.counts (count_of (of_rows rows)) k.1
      (all_pass (λ (two : ℕ × ℕ). two.0 == two.1) NotCounted 4 (zip z.counts (map (count_of (of_rows rows)) z.entries))
      e)
      ∙ sym (ap (λ (v : ℕ). counts_of v (of_rows rows) z.entries) k.0)

  -- and the tests of those of the rows pass
  counts_pass : AreCounts z.version z.entries z.counts → z.counts ≡ counts_of z.version (of_rows rows) z.entries
      → first_failing (count_tests rows z.entries z.counts) ≡ None
  counts_pass (inl k) e = ap (λ (l : List ℕ). first_failing (count_tests rows z.entries l)) k.1
  counts_pass (inr k) e =
      let wanted : List ℕ = map (count_of (of_rows rows)) z.entries in
      let same : z.counts ≡ map (count_of (of_rows rows)) z.entries =
      e ∙ ap (λ (v : ℕ). counts_of v (of_rows rows) z.entries) k.0 in
      ap (λ (l : List ℕ). first_failing (matching_tests l wanted)) same
      ∙ none_refused (λ (two : ℕ × ℕ). two.0 == two.1) NotCounted 4 (zip wanted wanted) (own_numbers wanted)

-- ---- the head

module _ (certificates : CertificatesAreRead) (q : Query) (r : Reported) (z : Certified) (asked : IsAsked q)
    (can_r : IsReported r) (can_z : IsCertified z) where
  -- the tests of the queries, and those after them
  abbrev of_report : HeadTest
  of_report = (same_query r.query q, OtherReportQuery)

  abbrev of_certificate : HeadTest
  of_certificate = (same_query z.query q, OtherCertificateQuery)

  abbrev behind : List HeadTest
  behind = place_tests q r.rows z.kth z.entries ++ count_tests r.rows z.entries z.counts

  -- the tests of the k-th score and the order of lines
  abbrev of_lines : List HeadTest
  of_lines = floor_test q r.rows z.kth ∷ rising_tests z.entries

  -- if no test fails the head is right
  right_from : head_fault q r z ≡ None → IsRightHead q r z
  right_from e =
      let one = front_none of_report (of_certificate ∷ behind) e in
      let two = front_none of_certificate behind one.1 in
      let body = none_of (place_tests q r.rows z.kth z.entries) (count_tests r.rows z.entries z.counts) two.1 in
      let places = none_of (order_tests r.rows ++ of_lines) (scanned_tests z.entries r.rows) body.0 in
      let order = none_of (order_tests r.rows) of_lines places.0 in
      let floor = front_none (floor_test q r.rows z.kth) (rising_tests z.entries) order.1 in
      record {
        report = one_query certificates r.query q can_r.asked asked one.0;
        certificate = one_query certificates z.query q can_z.asked asked two.0;
        order = all_pass (λ (two : Candidate × Candidate). precedes two.0 two.1) OutOfOrder 4
            (neighbours (of_rows r.rows)) order.0;
        kth = score_from z.kth (kth_of_best q.k (of_rows r.rows)) floor.0;
        rise = all_pass (λ (two : Line × Line). stands_before two.0.id two.1.id) NotRising 5 (neighbours z.entries)
            floor.1;
        scanned = all_pass (λ (row : Named). is_scanned z.entries row.0.id) NotScanned 3 r.rows places.1;
        counts = counts_from r.rows z can_z.counts body.1;
      }

  -- no test of a right head fails
  right_passes : IsRightHead q r z → head_fault q r z ≡ None
  right_passes h =
      let order = none_refused (λ (two : Candidate × Candidate). precedes two.0 two.1) OutOfOrder 4
      (neighbours (of_rows r.rows)) h.order in
      let rise = none_refused (λ (two : Line × Line). stands_before two.0.id two.1.id) NotRising 5
      (neighbours z.entries) h.rise in
      let scanned = none_refused (λ (row : Named). is_scanned z.entries row.0.id) NotScanned 3 r.rows h.scanned in
      let kth = score_to z.kth (kth_of_best q.k (of_rows r.rows)) h.kth in
      front_passed of_report (of_certificate ∷ behind) (own_query r.query q h.report)
      (front_passed of_certificate behind (own_query z.query q h.certificate)
      (none_of_both (place_tests q r.rows z.kth z.entries) (count_tests r.rows z.entries z.counts)
      (none_of_both (order_tests r.rows ++ of_lines) (scanned_tests z.entries r.rows)
      (none_of_both (order_tests r.rows) of_lines order
      (front_passed (floor_test q r.rows z.kth) (rising_tests z.entries) kth rise)) scanned)
      (counts_pass r.rows z can_z.counts h.counts)))

-- both ways
pub heads_are_right : CertificatesAreRead → HeadsAreRight
heads_are_right certificates q r z asked can_r can_z =
    (right_from certificates q r z asked can_r can_z, right_passes certificates q r z asked can_r can_z)

-- Which of some tests decide.
use Rattle.std.proofs.Common.{◌≡◌, ℕ, true, false, List, [], ◌∷◌, ◌++◌, map, Option, Some, None, refl, sym, ap, ◌∙◌, ℤ}
use Rattle.std.proofs.Common.{append_assoc}
use Rattle.std.specs.Option.{option_or, is_some}
use Rattle.ghcn_fields.specs.Faults.{first_failing}
use Rattle.rank_query.specs.Meaning.Asked.{Query}
use Rattle.rank_papers.specs.Report.{Named}
use Rattle.rank_papers.specs.declared.paper.Row.{Row}
use Rattle.rank_papers.specs.ReportLines.{Reported, named_in}
use Rattle.rank_papers.specs.Certificate.{Line, Certified}
use Rattle.rank_papers.specs.Papers.{same_query, neighbours}
use Rattle.rank_papers.proofs.FirstFailing.{first_fails, first_passes, first_failing-append, some_decides, none_decides}
use Rattle.rank_head.specs.declared.fault.HeadFault.{HeadFault}
use Rattle.rank_head.specs.declared.fault.HeadFault.TheVariants.{OtherReportQuery, OtherCertificateQuery, NotRising}
use Rattle.rank_head.specs.HeadTests.{HeadTest, floor_test, order_tests, rising_tests, scanned_tests}
use Rattle.rank_head.specs.HeadTests.{stands_before, IdsRise, place_tests, count_tests, head_fault}
use Rattle.rank_head.proofs.FirstPlaces.{all_pass}

-- the first of three that are there
or_or : (o p r : Option HeadFault) → option_or (option_or o p) r ≡ option_or o (option_or p r)
or_or None p r = refl
or_or (Some w) p r = refl

-- if two have no error, the second has none
pub none_behind : (o p : Option HeadFault) → is_some (option_or o p) ≡ false → p ≡ None
none_behind None None e = refl
none_behind None (Some w) e = absurd cc
none_behind (Some w) p e = absurd cc

-- the tests of the order of rows, of the k-th score and of the order of lines, made one after the other
pub early_tests : (q : Query) (rows : List Named) (kth : Option ℤ) (es : List Line)
    → option_or (option_or (first_failing (order_tests rows)) (first_failing (floor_test q rows kth ∷ [])))
    (first_failing (rising_tests es))
    ≡ first_failing (order_tests rows ++ floor_test q rows kth ∷ rising_tests es)
early_tests q rows kth es =
    or_or (first_failing (order_tests rows)) (first_failing (floor_test q rows kth ∷ []))
    (first_failing (rising_tests es))
    ∙ simp first_failing-append

module _ (q : Query) (r : Reported) (z : Certified) where
  -- the tests after those of the queries
  abbrev behind : List HeadTest
  behind = place_tests q r.rows z.kth z.entries ++ count_tests r.rows z.entries z.counts

  -- the test of the report's query
  abbrev of_report : HeadTest
  of_report = (same_query r.query q, OtherReportQuery)

  -- and that of the certificate's
  abbrev of_certificate : HeadTest
  of_certificate = (same_query z.query q, OtherCertificateQuery)

  -- a report of another query is refused first
  pub other_report : same_query r.query q ≡ false → Some OtherReportQuery ≡ head_fault q r z
  other_report e = first_fails of_report (of_certificate ∷ behind) e

  -- and then a certificate of another query
  pub other_certificate : same_query r.query q ≡ true → same_query z.query q ≡ false
      → Some OtherCertificateQuery ≡ head_fault q r z
  other_certificate e f =
      first_fails of_certificate behind f ∙ sym (first_passes of_report (of_certificate ∷ behind) e)

  -- a report and a certificate of the query are left to the later tests
  pub behind_queries : same_query r.query q ≡ true → same_query z.query q ≡ true
      → head_fault q r z
      ≡ first_failing (place_tests q r.rows z.kth z.entries ++ count_tests r.rows z.entries z.counts)
  behind_queries e f =
      first_passes of_report (of_certificate ∷ behind) e ∙ first_passes of_certificate behind f

-- ---- places

module _ (q : Query) (rows : List Named) (kth : Option ℤ) (es : List Line) (o p r s t : Option HeadFault)
    (order : o ≡ first_failing (order_tests rows)) (floor : p ≡ first_failing (floor_test q rows kth ∷ []))
    (rise : r ≡ first_failing (rising_tests es)) (both : s ≡ option_or o p) (all : t ≡ option_or s r) where
  -- the first of the early tests
  pub early_is : t ≡ first_failing (order_tests rows ++ floor_test q rows kth ∷ rising_tests es)
  early_is = rw (all, both, order, floor, rise) (early_tests q rows kth es)

  -- if none of them fails the IDs of lines rise
  pub lines_rise : t ≡ None → IdsRise es
  lines_rise e =
      let none : r ≡ None = none_behind s r (ap is_some (sym all ∙ e)) in
      all_pass (λ (two : Line × Line). stands_before two.0.id two.1.id) NotRising 5 (neighbours es) (sym rise ∙ none)

-- ---- the head

-- the tests of order, of the k-th score and of lines, with those of series and of counts after them, are the tests of
-- places with those of counts after them
in_turn : (order rising scanned counts : List HeadTest) (floor : HeadTest)
    → (order ++ floor ∷ rising) ++ (scanned ++ counts) ≡ (order ++ floor ∷ rising ++ scanned) ++ counts
in_turn order rising scanned counts floor = simp append_assoc

module _ (q : Query) (r : Reported) (z : Certified) (report : same_query r.query q ≡ true)
    (certificate : same_query z.query q ≡ true) (rows : List Row) (lines : List Line) (counts : List ℕ)
    (rows_are : map named_in rows ≡ r.rows) (lines_are : lines ≡ z.entries) (counts_are : counts ≡ z.counts)
    (seen : Option HeadFault) (places : seen ≡ first_failing (order_tests (map named_in rows)
    ++ floor_test q (map named_in rows) z.kth ∷ rising_tests lines)) where
  -- the tests of order, of the k-th score and of lines, of this report and this certificate
  abbrev early : List HeadTest
  early = order_tests r.rows ++ floor_test q r.rows z.kth ∷ rising_tests z.entries

  -- those of series and of counts
  abbrev late : List HeadTest
  late = scanned_tests z.entries r.rows ++ count_tests r.rows z.entries z.counts

  -- the early ones are those of the report and the certificate
  same_places : seen ≡ first_failing early
  same_places = rw (rows_are, lines_are) at places

  -- all of them, one after the other, decide
  all_decide : first_failing (early ++ late) ≡ head_fault q r z
  all_decide =
      ap first_failing (in_turn (order_tests r.rows) (rising_tests z.entries) (scanned_tests z.entries r.rows)
      (count_tests r.rows z.entries z.counts) (floor_test q r.rows z.kth))
      ∙ sym (behind_queries q r z report certificate)

  -- the early ones decide
  pub places_decide : is_some seen ≡ true → seen ≡ head_fault q r z
  places_decide e = some_decides early late seen same_places e ∙ all_decide

  -- or otherwise the series of rows and the counts do
  pub counts_decide : is_some seen ≡ false
      → first_failing (scanned_tests lines (map named_in rows) ++ count_tests (map named_in rows) lines counts)
      ≡ head_fault q r z
  counts_decide e =
      rw (rows_are, lines_are, counts_are) (none_decides early late seen same_places e ∙ all_decide)

-- A report and a certificate with what is found by rank are right by what they have, and those of what a query needs
-- are those of all data.
use Rattle.std.proofs.Common.{◌≡◌, ◌⊎◌, inl, inr, ℕ, Bool, true, false, List, [], ◌∷◌, ◌++◌, map, filter, refl}
use Rattle.std.proofs.Common.{sym, ap, ◌∙◌, arith, subst, Option, Some, None, ℤ, ◌<ℤ◌, not}
use Rattle.std.specs.Prelude.{◌↔◌, ◌==◌, if◌then◌else◌, length, int_lt}
use Rattle.std.specs.List.{AllByRecursion, AllZip, Contains, flat_map, count_by}
use Rattle.std.proofs.lemmas.Int.{ints}
use Rattle.ghcn_files.specs.declared.station.Station.{Station}
use Rattle.ghcn_files.specs.Meaning.Ids.{same_id}
use Rattle.ghcn_series.specs.Meaning.Series.{Series}
use Rattle.ghcn_series.specs.Series.{Data, IsSeries}
use Rattle.ghcn_series.specs.Held.{IsContents}
use Rattle.rank_query.specs.Meaning.Asked.{Query, IsAsked}
use Rattle.rank_scores.specs.declared.candidate.Candidate.{Candidate}
use Rattle.rank_scores.specs.Meaning.Candidates.{admitted}
use Rattle.rank_scores.specs.Morsels.{admitted_series, all_candidates, best_of_query, kth_of_query, morsels}
use Rattle.rank_scores.specs.Morsels.{id_comes_first}
use Rattle.rank_scores.specs.Order.{bound_is_below}
use Rattle.rank_scores.specs.OneElement.{data_for, SeriesStay}
use Rattle.rank_scores.proofs.Exactly.{bounds}
use Rattle.rank_scores.proofs.Rising.{all-filter, from_each}
use Rattle.rank_scores.proofs.QueryCandidates.{all_apart}
use Rattle.rank_pool.proofs.Orders.{sorted-all}
use Rattle.rank_papers.specs.Meaning.Report.{IsReportOfBest, query_line}
use Rattle.rank_papers.specs.Certificate.{Line, IsFoundCertificate, IsRightEntry, certificate_text, counted, count_of}
use Rattle.rank_papers.specs.Certificate.{counts_of, kth_of_best}
use Rattle.rank_papers.specs.Meaning.Certificate.{title_line, kth_line, entry_line, end_line}
use Rattle.rank_papers.specs.Meaning.Right.{IsOfQuery, AreSeriesOf, AreBest, IsTrueEntry}
use Rattle.rank_papers.specs.Right.{IsRightReport, IsRightCertificate}
use Rattle.rank_papers.specs.RightLaws.{IsHeldSeries, IsRightCertificateFor}
use Rattle.rank_papers.specs.RightLaws.{ReportsAreFound, CertificatesAreFound, RightReportStays, RightCertificateStays}
use Rattle.rank_papers.proofs.PlanPapers.{kth-best, some_asked}
use Rattle.rank_papers.proofs.RightCertificates.{series_hold}
use Rattle.rank_papers.proofs.BestOfQuery.{best_found}
use Rattle.rank_papers.proofs.SeriesOfQuery.{morsels_are, one_series}

-- ---- what is found is right

-- a number below a score that there may be is below one that there is
below_some : (kth : Option ℤ) (b : ℤ) → bound_is_below kth b ≡ true → (score : ℤ) × (kth ≡ Some score) × (b <ℤ score)
below_some None b e = absurd cc
below_some (Some score) b e = (score, refl, grind (arith, ints))

-- and the other way round
some_below : (kth : Option ℤ) (b : ℤ) → (score : ℤ) × (kth ≡ Some score) × (b <ℤ score) → bound_is_below kth b ≡ true
some_below kth b (score, is, low) =
    let yes : int_lt b score ≡ true = grind (arith, ints) in ap (λ (k : Option ℤ). bound_is_below k b) is ∙ yes

-- the lines of entries, with how many of the best belong to each
abbrev lines_with : ℕ → List Candidate → List Line → List ℕ
lines_with version best es =
    flat_map (λ e. entry_line version (record { entry = e; count = count_by (λ x. same_id x.id e.id) best })) es

-- a line whose series was skipped has no count, so it doesn't matter which
count_unseen : (best : List Candidate) (e : Line)
    → entry_line 2 (record { entry = e; count = count_of best e })
    ≡ entry_line 2 (record { entry = e; count = count_by (λ x. same_id x.id e.id) best })
count_unseen best e = by e.skipped
  where
    by : (b : Bool) → entry_line 2 (record {
      entry = record { id = e.id; bound = e.bound; skipped = b };
      count = if b then 0 else count_by (λ x. same_id x.id e.id) best;
    })
        ≡ entry_line 2 (record {
          entry = record { id = e.id; bound = e.bound; skipped = b };
          count = count_by (λ x. same_id x.id e.id) best;
        })
    by true = refl
    by false = refl

-- in version 2 the lines have these counts
lines_counted : (best : List Candidate) (es : List Line)
    → flat_map (entry_line 2) (counted es (map (count_of best) es)) ≡ lines_with 2 best es
lines_counted best [] = refl
lines_counted best (e ∷ es) =
    ap (λ (l : List ℕ). l ++ flat_map (entry_line 2) (counted es (map (count_of best) es))) (count_unseen best e)
    ∙ ap (λ (t : List ℕ). entry_line 2 (record { entry = e; count = count_by (λ x. same_id x.id e.id) best }) ++ t)
    (lines_counted best es)

-- and in version 1 none
lines_plain : (best : List Candidate) (es : List Line) → flat_map (entry_line 1) (counted es []) ≡ lines_with 1 best es
lines_plain best [] = refl
lines_plain best (e ∷ es) =
    ap (λ (t : List ℕ). entry_line 1 (record { entry = e; count = 0 }) ++ t) (lines_plain best es)

-- so it is in both
lines_are : (version : ℕ) (best : List Candidate) (es : List Line) → (version ≡ 1) ⊎ (version ≡ 2)
    → flat_map (entry_line version) (counted es (counts_of version best es)) ≡ lines_with version best es
lines_are version best es (inl one) =
    subst (λ (v : ℕ). flat_map (entry_line v) (counted es (counts_of v best es)) ≡ lines_with v best es) (sym one)
    (lines_plain best es)
lines_are version best es (inr two) =
    subst (λ (v : ℕ). flat_map (entry_line v) (counted es (counts_of v best es)) ≡ lines_with v best es) (sym two)
    (lines_counted best es)

-- what a certificate is, with the lines of its entries
abbrev text_with : ℕ → Query → Option ℤ → List Line → List ℕ → List ℕ
text_with version q kth es lines =
    title_line version ++ query_line q ++ kth_line kth ++ lines ++ end_line (length es)

-- the right report has the best, however these are said to be the best
pub reports_found : ReportsAreFound
reports_found q c bytes asked right = (
  λ h. (best_of_query q c, (best_found q c (best_of_query q c) asked right).0 refl, h),
  λ h. subst (λ (best : List Candidate). IsReportOfBest q c.stations best bytes)
      ((best_found q c h.0 asked right).1 h.1) h.2,
)

module _ (q : Query) (c : Data) (asked : IsAsked q) (right : IsContents c) where
  -- the series of the certificate are right
  morsels_right : AllByRecursion IsSeries (morsels q c)
  morsels_right =
      sorted-all (λ a b. id_comes_first a.id b.id) IsSeries
      (filter (λ s. not (length (admitted q s) == 0)) (admitted_series q c))
      (all-filter IsSeries (λ s. not (length (admitted q s) == 0)) (admitted_series q c)
      (series_hold IsSeries q c right.series.right))

  -- the score of the k-th of the best is the k-th score
  kth_found : kth_of_best q.k (best_of_query q c) ≡ kth_of_query q c
  kth_found = kth-best q.k (all_candidates q c) (some_asked q asked) (all_apart q c right)

  -- right entries are true
  entries_true : (kth : Option ℤ) (es : List Line) (ss : List Series) → AllByRecursion IsSeries ss
      → AllZip (IsRightEntry q kth) es ss → AllZip (IsTrueEntry q kth) es ss
  entries_true kth [] [] series h = tt
  entries_true kth [] (s ∷ ss) series h = absurd h
  entries_true kth (e ∷ es) [] series h = absurd h
  entries_true kth (e ∷ es) (s ∷ ss) series h = (
    record {
      named = h.0.named;
      above = (bounds q s series.0 asked e.bound).0 h.0.above;
      fits = h.0.fits;
      passed_over = λ t. below_some kth e.bound (h.0.passed_over t);
    },
    entries_true kth es ss series.1 h.1,
  )

  -- and true ones are right
  entries_right : (kth : Option ℤ) (es : List Line) (ss : List Series) → AllByRecursion IsSeries ss
      → AllZip (IsTrueEntry q kth) es ss → AllZip (IsRightEntry q kth) es ss
  entries_right kth [] [] series h = tt
  entries_right kth [] (s ∷ ss) series h = absurd h
  entries_right kth (e ∷ es) [] series h = absurd h
  entries_right kth (e ∷ es) (s ∷ ss) series h = (
    record {
      named = h.0.named;
      above = (bounds q s series.0 asked e.bound).1 h.0.above;
      fits = h.0.fits;
      passed_over = λ t. some_below kth e.bound (h.0.passed_over t);
    },
    entries_right kth es ss series.1 h.1,
  )

  -- a certificate with what is found is right
  certificate_true : (version : ℕ) (bytes : List ℕ) (h : IsFoundCertificate q c bytes) → h.version ≡ version
      → IsRightCertificateFor version q c bytes
  certificate_true version bytes h e =
      subst (λ (v : ℕ). IsRightCertificateFor v q c bytes) e (
        best_of_query q c,
        (best_found q c (best_of_query q c) asked right).0 refl,
        record {
          known = h.known;
          kth = kth_of_query q c;
          of_last = sym kth_found;
          series = morsels q c;
          all = morsels_are q c right;
          entries = h.entries;
          right = entries_true (kth_of_query q c) h.entries (morsels q c) morsels_right h.right;
          text = h.text ∙ ap (text_with h.version q (kth_of_query q c) h.entries)
              (lines_are h.version (best_of_query q c) h.entries h.known);
        },
      )

  -- and a right one has what is found
  certificate_found : (version : ℕ) (bytes : List ℕ) → IsRightCertificateFor version q c bytes
      → (h : IsFoundCertificate q c bytes) × (h.version ≡ version)
  certificate_found version bytes (found, are, h) =
      let best : found ≡ best_of_query q c = (best_found q c found asked right).1 are in
      let series : h.series ≡ morsels q c =
      one_series q (IsHeldSeries q c) h.series (morsels q c) h.all (morsels_are q c right) in
      let kth : h.kth ≡ kth_of_query q c = h.of_last ∙ ap (kth_of_best q.k) best ∙ kth_found in (
        record {
          version = version;
          known = h.known;
          entries = h.entries;
          right = entries_right (kth_of_query q c) h.entries (morsels q c) morsels_right
              (subst (λ (k : Option ℤ). AllZip (IsTrueEntry q k) h.entries (morsels q c)) kth
              (subst (λ (ss : List Series). AllZip (IsTrueEntry q h.kth) h.entries ss) series h.right));
          text = h.text ∙ ap (text_with version q h.kth h.entries) (sym (lines_are version found h.entries h.known))
              ∙ λ i. certificate_text (record {
                version = version;
                query = q;
                kth = kth i;
                entries = h.entries;
                counts = counts_of version (best i) h.entries;
              });
        },
        refl,
      )

-- both ways
pub certificates_found : CertificatesAreFound
certificates_found version q c bytes asked right = (
  λ h. certificate_true q c asked right version bytes h.0 h.1,
  λ h. certificate_found q c asked right version bytes h,
)

-- ---- the same series

module _ (q : Query) (A B : Series → Type 0) (same : (s : Series) → A s ↔ B s) where
  -- a candidate of a series of the one is that of a series of the other
  candidate-moved : (x : Candidate) → IsOfQuery q A x → IsOfQuery q B x
  candidate-moved x h = (h.0, (same h.0).0 h.1, h.2)

  -- the best of the one are those of the other
  best-moved : (best : List Candidate) → AreBest q A best → AreBest q B best
  best-moved best is = record {
    few = is.few;
    of_query = from_each (IsOfQuery q A) (IsOfQuery q B) best candidate-moved is.of_query;
    order = is.order;
    others = λ x h. is.others x (h.0, (same h.0).1 h.1, h.2);
  }

  -- and so are the series with an admitted day
  series-moved : (series : List Series) → AreSeriesOf q A series → AreSeriesOf q B series
  series-moved series is = record {
    are = λ s. (
      λ h. let there = (is.are s).0 h in ((same s).0 there.0, there.1),
      λ h. (is.are s).1 ((same s).1 h.0, h.1),
    );
    by_id = is.by_id;
  }

  -- so a right report of the one is right for the other
  pub report-moved : (stations : List Station) (bytes : List ℕ) → IsRightReport q stations A bytes
      → IsRightReport q stations B bytes
  report-moved stations bytes h = (h.0, best-moved h.0 h.1, h.2)

  -- and a right certificate
  pub certificate-moved : (version : ℕ) (bytes : List ℕ) → IsRightCertificate version q A bytes
      → IsRightCertificate version q B bytes
  certificate-moved version bytes (best, are, h) = (
    best,
    best-moved best are,
    record {
      known = h.known;
      kth = h.kth;
      of_last = h.of_last;
      series = h.series;
      all = series-moved h.series h.all;
      entries = h.entries;
      right = h.right;
      text = h.text;
    },
  )

-- what holds both ways holds so the other way round
pub turned : {A B : Type 0} → A ↔ B → B ↔ A
turned e = (e.1, e.0)

-- ---- what a query needs

module _ (series : SeriesStay) (q : Query) (c : Data) where
  -- data of what a query needs hold the same series of it
  needed : (s : Series) → IsHeldSeries q (data_for q c) s ↔ IsHeldSeries q c s
  needed s =
      subst (λ (ss : List Series). Contains (admitted_series q (data_for q c)) s ↔ Contains ss s) (series q c)
      (λ h. h, λ h. h)

-- so a report of what a query needs is that of all data
pub report_stays : SeriesStay → RightReportStays
report_stays series q c bytes = (
  report-moved q (IsHeldSeries q (data_for q c)) (IsHeldSeries q c) (needed series q c) c.stations bytes,
  report-moved q (IsHeldSeries q c) (IsHeldSeries q (data_for q c)) (λ s. turned (needed series q c s))
      c.stations bytes,
)

-- and a certificate
pub certificate_stays : SeriesStay → RightCertificateStays
certificate_stays series version q c bytes = (
  certificate-moved q (IsHeldSeries q (data_for q c)) (IsHeldSeries q c) (needed series q c) version bytes,
  certificate-moved q (IsHeldSeries q c) (IsHeldSeries q (data_for q c)) (λ s. turned (needed series q c s)) version
      bytes,
)

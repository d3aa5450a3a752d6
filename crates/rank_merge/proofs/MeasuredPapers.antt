-- The bounds of a merged certificate are those of the series, if the parts' are, and no station has series in two
-- parts.
use Rattle.rank_merge.proofs.Cited.{ap₂, ◌≡◌, inr, ◌≤◌, List, [], ◌∷◌, length, map, Option, Ok, sym, ap, ◌∙◌, subst}
use Rattle.rank_merge.proofs.Cited.{arith, ℕ, ℤ, nat_le, IfSome, FitsSigned, flat_map, AllByRecursion, AllZip, leb-true}
use Rattle.rank_merge.proofs.Cited.{length-take, count_by-le-length, sorted_by, Station, Series, Data, IsContents}
use Rattle.rank_merge.proofs.Cited.{Query, IsAsked, series_first, Filed, IsDataOf, CutByFiles, MorselsOfParts}
use Rattle.rank_merge.proofs.Cited.{all_candidates, morsels, id_comes_first, best_of_query, kth_of_query, Candidate}
use Rattle.rank_merge.proofs.Cited.{in_order, Line, Certified, IsEntry, IsCount, IsRightEntry, count_of, counts_of}
use Rattle.rank_merge.proofs.Cited.{read_certificate, sorted-zip, entries_of_parts, merged_entries, IsMeasuredPart}
use Rattle.rank_merge.proofs.Cited.{MergedAreMeasured, all_texts, merge, ints, zip-weaker, w64}
use Rattle.std.proofs.lemmas.Bool.{and_parts}
use Rattle.rank_blocks.specs.Bounds.{bound}
use Rattle.rank_papers.specs.PlanPapers.{IsMeasuredCertificate}
use Rattle.rank_merge.proofs.Lists.{zip-append, zip-same}
use Rattle.rank_merge.proofs.MergedPapers.{WithData, IsRightPart, data_of_parts, parts_alone}
use Rattle.rank_merge.proofs.RightHeads.{best_are}
use Rattle.rank_merge.proofs.MergedTexts.{Known, all, is_certificate, same_data}

module _ (q : Query) where
  -- a line has the ID and the bound of a series
  abbrev pub IsMeasuredEntry : Line → Series → Type 0
  IsMeasuredEntry e u = (e.id ≡ u.id) × (e.bound ≡ bound q u)

  -- right lines whose bounds are those of the series
  zip_measured : (kth : Option ℤ) (es : List Line) (us : List Series) → AllZip (IsRightEntry q kth) es us
      → map (λ (e : Line). e.bound) es ≡ map (bound q) us → AllZip IsMeasuredEntry es us
  zip_measured kth [] [] h e = tt
  zip_measured kth [] (u ∷ us) h e = absurd h
  zip_measured kth (x ∷ es) [] h e = absurd h
  zip_measured kth (x ∷ es) (u ∷ us) h e = ((h.0.named, (cc)), zip_measured kth es us h.1 (cc))

  -- ---- what is read of a measured certificate

  -- entries of the same series can be alike
  each_can : (kth : Option ℤ) (es fs : List Line) (us : List Series) → AllZip (IsRightEntry q kth) es us
      → AllZip (IsRightEntry q kth) fs us → AllByRecursion IsEntry fs → AllByRecursion IsEntry es
  each_can kth [] fs us h k can = tt
  each_can kth (x ∷ es) fs [] h k can = absurd h
  each_can kth (x ∷ es) [] (u ∷ us) h k can = absurd k
  each_can kth (x ∷ es) (y ∷ fs) (u ∷ us) h k can = grind (arith, ints, each_can kth es fs us h.1 k.1 can.1)

  -- of few candidates few belong to one station, and none is counted if its series was skipped
  one_count : (best : List Candidate) (x : Line) → length best ≤ 1000 → IsCount x (count_of best x)
  one_count best x few = grind (arith, ints, count_by-le-length)

  -- so it is with all counts
  all_counts : (best : List Candidate) (es : List Line) → length best ≤ 1000
      → AllZip IsCount es (map (count_of best) es)
  all_counts best [] few = tt
  all_counts best (x ∷ es) few = (one_count best x few, all_counts best es few)

  -- there are at most a thousand best
  few_best : (c : Data) → IsAsked q → IsContents c → length (best_of_query q c) ≤ 1000
  few_best c asked right =
      let first = ap (λ (l : List Candidate). length l) (best_are q c asked right) in
      let high : q.k ≤ 1000 = leb-true q.k 1000 (and_parts (nat_le 1 q.k) (nat_le q.k 1000) asked.k).1 in
      omega (arith, first, length-take q.k (in_order (all_candidates q c)), high)

  module _ (known : Known) (asked : IsAsked q) where
    -- the certificate itself is read
    measured_read : (c : Data) (bytes : List ℕ) → IsContents c → IsMeasuredCertificate q c bytes → (z : Certified)
        → read_certificate bytes ≡ Ok z → map (λ (e : Line). e.bound) z.entries ≡ map (bound q) (morsels q c)
    measured_read c bytes right h z e =
        let v = (known.right_certificates q c bytes asked right).0 h.certificate in
        let said : Certified = record {
          version = h.certificate.version;
          query = q;
          kth = kth_of_query q c;
          entries = h.certificate.entries;
          counts = counts_of h.certificate.version (best_of_query q c) h.certificate.entries;
        } in
        let own : read_certificate bytes ≡ Ok said = (known.certificates bytes said).1 (record {
          can_be = record {
            asked = asked;
            kth = subst (λ (o : Option ℤ). IfSome o (FitsSigned w64)) v.2.kth v.1.can_be.kth;
            entries = each_can (kth_of_query q c) h.certificate.entries v.0.entries (morsels q c) h.certificate.right
                v.2.entries v.1.can_be.entries;
            counts = inr (
              h.version,
              subst (λ (w : ℕ). AllZip IsCount h.certificate.entries
                  (counts_of w (best_of_query q c) h.certificate.entries)) (sym h.version)
                  (all_counts (best_of_query q c) h.certificate.entries (few_best c asked right)),
            );
          };
          text = h.certificate.text;
        }) in
        let same : z ≡ said = cc in
        ap (λ (w : Certified). map (λ (x : Line). x.bound) w.entries) same ∙ h.bounds

    -- the lines of all parts
    measured_parts : (stations : List Station) (parts : List Filed) (ws : List WithData)
        → AllByRecursion (IsRightPart q) ws → AllZip (λ p w. read_certificate p.1.1 ≡ Ok w.1.certificate) parts ws
        → AllZip (IsMeasuredPart q stations) parts (data_of_parts ws)
        → AllZip IsMeasuredEntry (entries_of_parts (parts_alone ws)) (flat_map (morsels q) (data_of_parts ws))
    measured_parts stations [] [] h r m = tt
    measured_parts stations [] (w ∷ ws) h r m = absurd r
    measured_parts stations (p ∷ parts) [] h r m = absurd r
    measured_parts stations (p ∷ parts) (w ∷ ws) h r m =
        zip-append IsMeasuredEntry w.1.certificate.entries (entries_of_parts (parts_alone ws)) (morsels q w.0)
        (flat_map (morsels q) (data_of_parts ws))
        (zip_measured (kth_of_query q w.0) w.1.certificate.entries (morsels q w.0) h.0.certificate.entries
        (measured_read w.0 p.1.1 h.0.contents m.0.1 w.1.certificate r.0))
        (measured_parts stations parts ws h.1 r.1 m.1)

-- so the bounds of the merged lines are those of the series
pub merged_measured : Known → CutByFiles → MorselsOfParts → MergedAreMeasured
merged_measured known cut morsels_of q texts papers asked merged list stations parts ds dataset lists same are measured
    read apart =
    let text : merge q (all_texts parts) ≡ Ok papers = ap (merge q) same ∙ merged in
    let found = all known cut q list stations parts lists asked text are read in
    let z = is_certificate known cut q list stations parts lists asked text are read in
    let data_are = zip-weaker (IsMeasuredPart q stations) (IsDataOf stations) parts ds (λ p d h. h.0) measured in
    let one = same_data stations parts (data_of_parts found.read) ds found.data_are data_are in
    let us : List Series = flat_map (morsels q) (data_of_parts found.read) in
    let lines = sorted-zip (IsMeasuredEntry q) (λ (a b : Line). id_comes_first a.id b.id) series_first
    (λ a x b y r t. ap₂ id_comes_first r.0 t.0) (entries_of_parts (parts_alone found.read)) us
    (measured_parts q known asked stations parts found.read found.right found.certificates_are
    (subst (AllZip (IsMeasuredPart q stations) parts) (sym one) measured)) in
    let series : morsels q dataset ≡ sorted_by series_first us =
    morsels_of q stations parts ds dataset data_are read apart
    ∙ ap (λ (l : List Data). sorted_by series_first (flat_map (morsels q) l)) (sym one) in
    record {
      certificate = z.0;
      version = z.1;
      bounds = ap (λ (es : List Line). map (λ (e : Line). e.bound) es) z.2
          ∙ zip-same (IsMeasuredEntry q) (λ e. e.bound) (bound q) (λ e u r. r.1)
          (merged_entries (parts_alone found.read)) (sorted_by series_first us) lines
          ∙ ap (map (bound q)) (sym series);
    }

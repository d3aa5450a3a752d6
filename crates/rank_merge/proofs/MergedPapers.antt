-- What is merged of parts says what is right of the whole, if the whole is cut into these parts.
use Rattle.rank_merge.proofs.Cited.{ap₂, ◌≡◌, ℕ, ◌≤◌, ◌<◌, true, cond, List, [], ◌∷◌, ◌++◌, map, take, Option, Some}
use Rattle.rank_merge.proofs.Cited.{refl, sym, ap, ◌∙◌, subst, arith, ℤ, int_lt, flat_map, AllByRecursion, AllZip}
use Rattle.rank_merge.proofs.Cited.{map-append, take-map, sum_by-IsPermutation, sorted-map, sorted_by, Station, Series}
use Rattle.rank_merge.proofs.Cited.{Data, IsContents, each-append, zip-weaker, Query, IsAsked, Candidate}
use Rattle.rank_merge.proofs.Cited.{bound_is_below, IsSameFor, series_first, all_candidates, morsels, id_comes_first}
use Rattle.rank_merge.proofs.Cited.{best_of_query, kth_of_query, all_apart, first, kth, above, comes_first}
use Rattle.rank_merge.proofs.Cited.{above-append, below_kth, best-first, kth_score-kth, Named, SaysRightReport, name_of}
use Rattle.rank_merge.proofs.Cited.{Line, IsRightEntry, SaysRightCertificate, kth_of_best, counts_of, sorted-zip}
use Rattle.rank_merge.proofs.Cited.{kth-best, some_asked, of_rows, Part, rows_of, entries_of_parts, rows_in_order}
use Rattle.rank_merge.proofs.Cited.{merged_rows, merged_entries, merged_report, merged_certificate, take-all}
use Rattle.rank_merge.proofs.Cited.{sorted-all, ints}
use Rattle.rank_scores.specs.Cut.{IsCut}
use Rattle.rank_pool.proofs.Moves.{alike-permutation}
use Rattle.rank_pool.proofs.Places.{first-first_left, first-first_right}
use Rattle.rank_merge.proofs.Lists.{zip-append}

-- ---- parts and their data

-- a part and its data
abbrev pub WithData : Type 0
WithData = Data × Part

-- what a part says is right of its data
pub record IsRightPart (q : Query) (p : WithData) : Type 0 where
  pub contents : IsContents p.0
  pub report : SaysRightReport q p.0 p.1.report
  pub certificate : SaysRightCertificate q p.0 p.1.certificate

-- the data of parts
abbrev pub data_of_parts : List WithData → List Data
data_of_parts ps = map (λ p. p.0) ps

-- the parts without their data
abbrev pub parts_alone : List WithData → List Part
parts_alone ps = map (λ p. p.1) ps

-- ---- what is the same of parts and of the whole

-- right entries of series are right entries of other series that are the same for the query
zip_moved : (q : Query) (kth : Option ℤ) (es : List Line) (us vs : List Series) → AllZip (IsRightEntry q kth) es us
    → AllZip (IsSameFor q) us vs → AllZip (IsRightEntry q kth) es vs
zip_moved q kth [] [] [] h k = tt
zip_moved q kth [] [] (v ∷ vs) h k = absurd k
zip_moved q kth [] (u ∷ us) vs h k = absurd h
zip_moved q kth (e ∷ es) [] vs h k = absurd h
zip_moved q kth (e ∷ es) (u ∷ us) [] h k = absurd k
zip_moved q kth (e ∷ es) (u ∷ us) (v ∷ vs) h k = grind (arith, ints, zip_moved q kth es us vs h.1 k.1)

-- what is below the k-th score of some is below that of others of which no fewer score above it
below_others : (k : ℕ) (b : ℤ) (xs ys : List Candidate) (o p : Option ℤ) → 0 < k → o ≡ kth k xs → p ≡ kth k ys
    → above b xs ≤ above b ys → bound_is_below o b ≡ true → bound_is_below p b ≡ true
below_others k b xs ys o p some e f fewer h =
    let many : k ≤ above b xs = (below_kth k b xs some).0 (rw e at h) in
    rw f ((below_kth k b ys some).1 (omega arith))

-- the first k candidates of all rows of right parts are those of all candidates of the parts
firsts_of_parts : (q : Query) (ps : List WithData) → AllByRecursion (IsRightPart q) ps
    → first q.k (of_rows (rows_of (parts_alone ps))) ≡ first q.k (flat_map (all_candidates q) (data_of_parts ps))
firsts_of_parts q [] h = refl
firsts_of_parts q (p ∷ ps) h =
    let xs : List Candidate = all_candidates q p.0 in
    let rest : List Candidate = of_rows (rows_of (parts_alone ps)) in
    ap (first q.k) (map-append (λ (r : Named). r.0) p.1.report.rows (rows_of (parts_alone ps))
    ∙ ap (λ (l : List Candidate). l ++ rest) (h.0.report.best ∙ best-first q.k xs (all_apart q p.0 h.0.contents)))
    ∙ first-first_left q.k xs rest ∙ sym (first-first_right q.k xs rest)
    ∙ ap (λ (l : List Candidate). first q.k (xs ++ l)) (firsts_of_parts q ps h.1)
    ∙ first-first_right q.k xs (flat_map (all_candidates q) (data_of_parts ps))

module _ (q : Query) (c : Data) (asked : IsAsked q) (right : IsContents c) (ps : List WithData)
    (cut : IsCut q c (data_of_parts ps)) (parts : AllByRecursion (IsRightPart q) ps) where
  -- the merged rows are the best
  pub merged_best : of_rows (merged_rows q.k (parts_alone ps)) ≡ best_of_query q c
  merged_best =
      sym (take-map (λ (r : Named). r.0) q.k (rows_in_order (rows_of (parts_alone ps))))
      ∙ ap (take q.k) (sorted-map (λ (r : Named). r.0) comes_first (rows_of (parts_alone ps)))
      ∙ firsts_of_parts q ps parts
      ∙ ap (take q.k) ((alike-permutation (flat_map (all_candidates q) (data_of_parts ps)) (all_candidates q c)).1
      cut.candidates)
      ∙ sym (best-first q.k (all_candidates q c) (all_apart q c right))

  -- ---- lines

  -- the k-th score of the whole
  abbrev kth_all : Option ℤ
  kth_all = kth_of_query q c

  -- lines that are right in their parts are right in the whole, if no fewer of its candidates are above a number
  entries_right : (ws : List WithData) → AllByRecursion (IsRightPart q) ws
      → ((b : ℤ) → above b (flat_map (all_candidates q) (data_of_parts ws)) ≤ above b (all_candidates q c))
      → AllZip (IsRightEntry q kth_all) (entries_of_parts (parts_alone ws)) (flat_map (morsels q) (data_of_parts ws))
  entries_right [] h fewer = tt
  entries_right (w ∷ ws) h fewer =
      let xs : List Candidate = all_candidates q w.0 in
      let more = λ (b : ℤ). above-append b xs (flat_map (all_candidates q) (data_of_parts ws)) in
      zip-append (IsRightEntry q kth_all) w.1.certificate.entries (entries_of_parts (parts_alone ws)) (morsels q w.0)
      (flat_map (morsels q) (data_of_parts ws))
      (zip-weaker (IsRightEntry q (kth_of_query q w.0)) (IsRightEntry q kth_all) w.1.certificate.entries
      (morsels q w.0) (λ e u r. record {
        named = r.named;
        above = r.above;
        fits = r.fits;
        passed_over = λ s. below_others q.k e.bound xs (all_candidates q c) (kth_of_query q w.0) kth_all
            (some_asked q asked) (kth_score-kth q.k xs (all_apart q w.0 h.0.contents))
            (kth_score-kth q.k (all_candidates q c) (all_apart q c right))
            (omega (arith, fewer e.bound, more e.bound)) (r.passed_over s);
      }) h.0.certificate.entries)
      (entries_right ws h.1 (λ b. omega (arith, fewer b, more b)))

  -- so the merged lines are right entries of the morsels
  pub merged_entries_right : AllZip (IsRightEntry q kth_all) (merged_entries (parts_alone ps)) (morsels q c)
  merged_entries_right =
      let us : List Series = flat_map (morsels q) (data_of_parts ps) in
      zip_moved q kth_all (merged_entries (parts_alone ps)) (sorted_by series_first us) (morsels q c)
      (sorted-zip (IsRightEntry q kth_all) (λ (a b : Line). id_comes_first a.id b.id) series_first
      (λ a x b y r t. ap₂ id_comes_first r.named t.named) (entries_of_parts (parts_alone ps)) us
      (entries_right ps parts (λ b. omega (
        arith,
        sum_by-IsPermutation (λ (x : Candidate). cond (int_lt b x.score) 1 0)
            (flat_map (all_candidates q) (data_of_parts ps)) (all_candidates q c) cut.candidates,
      )))) cut.morsels

  -- ---- names

  -- a row has the name of its station
  abbrev IsNamed : Named → Type 0
  IsNamed row = name_of c.stations row.0.id ≡ Some row.1

  -- so have the rows of all parts
  names_of_parts : (qs : List WithData) → AllByRecursion (λ d. d.stations ≡ c.stations) (data_of_parts qs)
      → AllByRecursion (IsRightPart q) qs
      → AllByRecursion IsNamed (rows_of (parts_alone qs))
  names_of_parts [] k h = tt
  names_of_parts (p ∷ qs) k h =
      each-append IsNamed p.1.report.rows (rows_of (parts_alone qs))
      (subst (λ (sts : List Station). AllByRecursion (λ row. name_of sts row.0.id ≡ Some row.1) p.1.report.rows) k.0
      h.0.report.named)
      (names_of_parts qs k.1 h.1)

  -- and the merged rows
  names_merged : AllByRecursion IsNamed (merged_rows q.k (parts_alone ps))
  names_merged = grind (arith, ints, take-all, sorted-all, names_of_parts ps cut.stations parts)

  -- ---- the report and the certificate

  -- the merged report and certificate say what is right of the whole
  pub merged_say : SaysRightReport q c (merged_report q (parts_alone ps))
      × SaysRightCertificate q c (merged_certificate q (parts_alone ps))
  merged_say = (
    record { asked = refl; best = merged_best; named = names_merged },
    record {
      asked = refl;
      kth = ap (kth_of_best q.k) merged_best
          ∙ kth-best q.k (all_candidates q c) (some_asked q asked) (all_apart q c right);
      entries = merged_entries_right;
      counts = ap (λ (l : List Candidate). counts_of 2 l (merged_entries (parts_alone ps))) merged_best;
    },
  )

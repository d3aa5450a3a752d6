-- A right certificate is a text of the form that says what is right.
use Rattle.std.proofs.Common.{◌≡◌, ◌⊎◌, inl, inr, ℕ, zero, suc, ◌≤◌, min, take, map, subst, Bool, true, false, cond}
use Rattle.std.proofs.Common.{not, List, [], ◌∷◌, length, Option, Some, None, refl, sym, ap, ◌∙◌, arith, ℤ, FitsSigned}
use Rattle.std.proofs.Common.{w64}
use Rattle.std.specs.Prelude.{◌==◌, ◌||◌, nat_le, IfSome, filter}
use Rattle.std.specs.List.{flat_map, filter_map, cons_option, count_by, list_all, AllByRecursion, AllZip}
use Rattle.std.specs.Option.{option_map}
use Rattle.std.proofs.lemmas.Bool.{and_parts, leb-true}
use Rattle.std.proofs.lemmas.List.{length-take}
use Rattle.std.proofs.lemmas.List.Sums.{count_by-le-length}
use Rattle.std.proofs.lemmas.Int.{ints}
use Rattle.ghcn_fields.specs.Floor.{IsScore}
use Rattle.ghcn_fields.specs.Sorting.{placed, sorted_by}
use Rattle.ghcn_files.specs.declared.station.Station.{Station}
use Rattle.ghcn_files.specs.declared.station.StationId.{StationId}
use Rattle.ghcn_files.specs.Meaning.Ids.{same_id}
use Rattle.ghcn_files.specs.Ids.{is_id}
use Rattle.ghcn_files.proofs.IdLaws.{same_id-is}
use Rattle.ghcn_files.specs.Meaning.Listed.{is_station_of}
use Rattle.ghcn_files.specs.StationLines.{is_station}
use Rattle.ghcn_series.specs.Meaning.Series.{Series}
use Rattle.ghcn_series.specs.Series.{Data, IsSeries, series_of, is_series_of}
use Rattle.ghcn_series.specs.Held.{IsContents}
use Rattle.ghcn_series.specs.DailyFaults.{is_listed}
use Rattle.rank_query.specs.Meaning.Asked.{Query, IsAsked, score_element}
use Rattle.rank_query.specs.Admits.{admits_station}
use Rattle.rank_scores.specs.declared.candidate.Candidate.{Candidate}
use Rattle.rank_scores.specs.Meaning.Candidates.{admitted}
use Rattle.rank_scores.specs.Candidates.{candidates}
use Rattle.rank_scores.specs.Order.{of_rank, rank_in, kth_score}
use Rattle.rank_scores.specs.Morsels.{admitted_series, morsels, id_comes_first, all_candidates, best_of_query}
use Rattle.rank_scores.specs.Morsels.{kth_of_query}
use Rattle.rank_scores.proofs.QueryCandidates.{found-holds, all_apart}
use Rattle.rank_scores.proofs.Rising.{all-filter}
use Rattle.rank_pool.specs.First.{in_order}
use Rattle.rank_pool.proofs.Ranked.{best-first}
use Rattle.rank_sched.proofs.Lists.{each-append, each-weaker}
use Rattle.rank_sched.proofs.ScoreRanges.{candidates_ranged}
use Rattle.rank_papers.specs.Certificate.{Line, Certified, certificate_text, IsEntry, IsCount, AreCounts}
use Rattle.rank_papers.specs.Certificate.{IsCertificateOf, IsRightEntry, count_of, counts_of, IsFoundCertificate}
use Rattle.rank_papers.specs.Certificate.{SaysRightCertificate}
use Rattle.rank_papers.specs.Laws.{RightCertificatesSayRight}
use Rattle.rank_papers.proofs.Counts.{has_version}
use Rattle.rank_papers.proofs.ListedStations.{station_fields}

-- ---- what holds of each element

module _ {X : Type 0} (P : X → Type 0) (first : X → X → Bool) where
  -- of one more that is placed among others
  each-placed : (x : X) (ys : List X) → P x → AllByRecursion P ys → AllByRecursion P (placed first x ys)
  each-placed x [] p h = (p, tt)
  each-placed x (y ∷ ys) p h =
      elim (first x y) as (λ b. AllByRecursion P (cond b (x ∷ y ∷ ys) (y ∷ placed first x ys))) [
        | true ↦ (p, h)
        | false ↦ (h.0, each-placed x ys p h.1)
      ]

  -- of those in an order
  each-sorted : (xs : List X) → AllByRecursion P xs → AllByRecursion P (sorted_by first xs)
  each-sorted [] h = tt
  each-sorted (x ∷ xs) h = each-placed x (sorted_by first xs) h.0 (each-sorted xs h.1)

-- what holds of all series holds of those of a query
pub series_hold : (P : Series → Type 0) (q : Query) (c : Data) → AllByRecursion P c.series
    → AllByRecursion P (admitted_series q c)
series_hold P q c h = by (filter (admits_station q) c.stations)
  where
    by : (sts : List Station)
        → AllByRecursion P (filter_map (λ st. series_of c st.id (score_element q.score)) sts)
    by [] = tt
    by (st ∷ sts) =
        elim (series_of c st.id (score_element q.score)) as (λ o. series_of c st.id (score_element q.score) ≡ o
        → AllByRecursion P (cons_option o (filter_map (λ s. series_of c s.id (score_element q.score)) sts))) [
          | None ↦ λ e. by sts
          | Some u ↦ λ e. (found-holds P (is_series_of st.id (score_element q.score)) c.series u h e, by sts)
        ] refl

-- ---- IDs are visible

-- the ID of a station of the list is visible
listed_visible : (id : StationId) (sts : List Station) → list_all is_station sts ≡ true → is_listed sts id ≡ true
    → is_id id.0 ≡ true
listed_visible id [] h e = absurd cc
listed_visible id (s ∷ sts) h e =
    let both = and_parts (is_station s) (list_all is_station sts) h in
    elim (is_station_of id s) as (λ b. is_station_of id s ≡ b → (b || is_listed sts id) ≡ true → is_id id.0 ≡ true) [
      | true ↦ λ t f. let same : s.id ≡ id = same_id-is s.id id t in
          let other : is_id id.0 ≡ is_id s.id.0 = ap (λ (i : StationId). is_id i.0) (sym same) in
          other ∙ (station_fields s both.0).id
      | false ↦ λ t f. listed_visible id sts both.1 f
    ] refl e

-- the IDs of a query's series are
morsels_visible : (q : Query) (c : Data) → IsContents c
    → AllByRecursion (λ s. is_id s.id.0 ≡ true) (morsels q c)
morsels_visible q c right =
    let all : AllByRecursion (λ s. is_id s.id.0 ≡ true) c.series =
    each-weaker (λ s. is_listed c.stations s.id ≡ true) (λ s. is_id s.id.0 ≡ true) c.series
    (λ s e. listed_visible s.id c.stations right.listed.right e) right.series.listed in
    each-sorted (λ s. is_id s.id.0 ≡ true) (λ a b. id_comes_first a.id b.id)
    (filter (λ s. not (length (admitted q s) == 0)) (admitted_series q c))
    (all-filter (λ s. is_id s.id.0 ≡ true) (λ s. not (length (admitted q s) == 0)) (admitted_series q c)
    (series_hold (λ s. is_id s.id.0 ≡ true) q c all))

-- ---- scores are inside 64 bits

-- a score is inside 64 bits
pub score_fits : (z : ℤ) → IsScore z → FitsSigned w64 z
score_fits z h = let low = h.0 in let high = h.1 in grind (arith, ints)

-- the candidates of series have scores
pub candidates_fit : (q : Query) (ss : List Series) → IsAsked q → AllByRecursion IsSeries ss
    → AllByRecursion (λ d. IsScore d.score) (flat_map (candidates q) ss)
candidates_fit q [] asked h = tt
candidates_fit q (s ∷ ss) asked h =
    each-append (λ d. IsScore d.score) (candidates q s) (flat_map (candidates q) ss)
    (candidates_ranged q s asked h.0) (candidates_fit q ss asked h.1)

-- so a k-th score is inside 64 bits
kth_fits : (k : ℕ) (all : List Candidate) → AllByRecursion (λ d. IsScore d.score) all
    → IfSome (kth_score k all) (FitsSigned w64)
kth_fits zero all h = tt
kth_fits (suc r) all h = elim (of_rank all r)
    as (λ o. of_rank all r ≡ o → IfSome (option_map (λ d. d.score) o) (FitsSigned w64)) [
      | None ↦ λ e. tt
      | Some d ↦ λ e. score_fits d.score (found-holds (λ x. IsScore x.score) (λ x. rank_in all x == r) all d h e)
    ] refl

-- ---- what a right certificate says

-- right entries of visible series can be
each_entry : (q : Query) (k : Option ℤ) (es : List Line) (ss : List Series)
    → AllByRecursion (λ s. is_id s.id.0 ≡ true) ss → AllZip (IsRightEntry q k) es ss → AllByRecursion IsEntry es
each_entry q k [] [] v h = tt
each_entry q k [] (s ∷ ss) v h = tt
each_entry q k (e ∷ es) [] v h = absurd h
each_entry q k (e ∷ es) (s ∷ ss) v h = (
  record { id = ap (λ (i : StationId). is_id i.0) h.0.named ∙ v.0; bound = h.0.fits },
  each_entry q k es ss v.1 h.1,
)

-- ---- the counts of best candidates

-- at most k candidates are the best
few_best : (q : Query) (c : Data) → IsAsked q → IsContents c → length (best_of_query q c) ≤ 1000
few_best q c asked right =
    let all : List Candidate = all_candidates q c in
    let first : length (best_of_query q c) ≡ length (take q.k (in_order all)) =
    ap (λ (l : List Candidate). length l) (best-first q.k all (all_apart q c right)) in
    let taken : length (take q.k (in_order all)) ≡ min q.k (length (in_order all)) = length-take q.k (in_order all) in
    let high : q.k ≤ 1000 = leb-true q.k 1000 (and_parts (nat_le 1 q.k) (nat_le q.k 1000) asked.k).1 in
    omega (arith, first, taken, high)

-- so few belong to one station
count_few : (best : List Candidate) (e : Line) → length best ≤ 1000 → IsCount e (count_of best e)
count_few best e few =
    let parts = by e.skipped (count_of best e) refl in record { few = parts.0; none = parts.1 }
  where
    counted : count_by (λ c. same_id c.id e.id) best ≤ length best
    counted = count_by-le-length (λ (c : Candidate). same_id c.id e.id) best

    by : (b : Bool) → (n : ℕ) → n ≡ cond b 0 (count_by (λ c. same_id c.id e.id) best)
        → (n ≤ 1000) × (b ≡ true → n ≡ 0)
    by true n is = (omega (arith, is), λ t. is)
    by false n is = (omega (arith, is, counted, few), λ t. absurd cc)

-- the counts of the best candidates can be
each_count : (best : List Candidate) (es : List Line) → length best ≤ 1000 → AllZip IsCount es (map (count_of best) es)
each_count best [] few = tt
each_count best (e ∷ es) few = (count_few best e few, each_count best es few)

-- in a version that has them, and in one that has none
right_counts : (w : ℕ) (best : List Candidate) (es : List Line) → ((w ≡ 1) ⊎ (w ≡ 2)) → length best ≤ 1000
    → AreCounts w es (counts_of w best es)
right_counts w best es (inl e) few = inl (e, ap (λ (v : ℕ). counts_of v best es) e)
right_counts w best es (inr e) few = inr (
  e,
  subst (AllZip IsCount es) (sym (ap (λ (v : ℕ). counts_of v best es) e)) (each_count best es few),
)

module _ (q : Query) (c : Data) (bytes : List ℕ) (asked : IsAsked q) (right : IsContents c) where
  -- a right certificate has the form, and says what is right
  says_right : IsFoundCertificate q c bytes → (v : Certified) × IsCertificateOf v bytes × SaysRightCertificate q c v
  says_right h = (
    record {
      version = h.version;
      query = q;
      kth = kth_of_query q c;
      entries = h.entries;
      counts = counts_of h.version (best_of_query q c) h.entries;
    },
    record {
      can_be = record {
        asked = asked;
        kth = kth_fits q.k (all_candidates q c)
            (candidates_fit q (admitted_series q c) asked (series_hold IsSeries q c right.series.right));
        entries = each_entry q (kth_of_query q c) h.entries (morsels q c) (morsels_visible q c right) h.right;
        counts = right_counts h.version (best_of_query q c) h.entries h.known (few_best q c asked right);
      };
      text = h.text;
    },
    record { asked = refl; kth = refl; entries = h.right; counts = refl },
  )

  -- and what says so is a right certificate
  right_where : (v : Certified) → IsCertificateOf v bytes → SaysRightCertificate q c v → IsFoundCertificate q c bytes
  right_where v is says = record {
    version = v.version;
    known = has_version v.version v.entries v.counts is.can_be.counts;
    entries = v.entries;
    right = says.entries;
    text = is.text ∙ λ i. certificate_text (record {
      version = v.version;
      query = says.asked i;
      kth = says.kth i;
      entries = v.entries;
      counts = says.counts i;
    });
  }

-- both directions
pub right_say_right : RightCertificatesSayRight
right_say_right q c bytes asked right =
    (says_right q c bytes asked right, λ h. right_where q c bytes asked right h.0 h.1 h.2)

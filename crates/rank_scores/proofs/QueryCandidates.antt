-- The candidates of a query: that no two begin alike, and that they and the best of them belong to listed stations.
use Rattle.std.proofs.Common.{◌≡◌, ℕ, Bool, true, false, List, [], ◌∷◌, ◌++◌, map, filter, Option, Some, None}
use Rattle.std.proofs.Common.{refl, ◌∙◌, subst, arith}
use Rattle.std.specs.Prelude.{IsTrue}
use Rattle.std.specs.List.{flat_map, filter_map, find, cons_option, AllByRecursion, IsDistinct, list_any}
use Rattle.std.specs.Option.{is_some}
use Rattle.std.proofs.lemmas.Bool.{and_parts, cond_both}
use Rattle.ghcn_files.specs.declared.station.Station.{Station}
use Rattle.ghcn_files.specs.declared.station.StationId.{StationId}
use Rattle.ghcn_files.specs.Meaning.Ids.{same_id}
use Rattle.ghcn_files.specs.Meaning.Listed.{is_station_of}
use Rattle.ghcn_files.proofs.IdLaws.{same_id-is}
use Rattle.ghcn_files.proofs.IdOrder.{strictly, sorted-rise}
use Rattle.ghcn_files.proofs.Ordered.{Descend, each-mapped}
use Rattle.ghcn_series.specs.Meaning.Series.{Series}
use Rattle.ghcn_series.specs.Series.{Data, IsSeries, series_of, is_series_of}
use Rattle.ghcn_series.specs.DailyFaults.{is_listed}
use Rattle.ghcn_series.specs.Held.{IsContents}
use Rattle.ghcn_series.proofs.ListFacts.{each-append, distinct_filter}
use Rattle.ghcn_series.proofs.Members.{found_in, of_one}
use Rattle.rank_query.specs.Meaning.Asked.{Query, score_element}
use Rattle.rank_query.specs.Admits.{admits_station}
use Rattle.rank_scores.specs.declared.candidate.Candidate.{Candidate}
use Rattle.rank_scores.specs.Candidates.{candidates, contenders}
use Rattle.rank_scores.specs.Order.{best, AreApart}
use Rattle.rank_scores.specs.Morsels.{admitted_series, has_admitted, morsels}
use Rattle.rank_scores.specs.QueryCandidates.{CandidatesAreApart, CandidatesAreOfListed, BestAreOfListed}
use Rattle.rank_scores.proofs.Exactly.{apart, begun_on, made}
use Rattle.rank_scores.proofs.Rising.{from_each, each, all-filter, all-made}
use Rattle.std.proofs.lemmas.Int.{ints}

-- ---- what holds of each element of a list

-- what holds of each element holds of the one that is found
pub found-holds : {X : Type 0} (P : X → Type 0) (test : X → Bool) (xs : List X) (x : X) →
    AllByRecursion P xs → find test xs ≡ Some x → P x
found-holds P test xs x h e = of_one P xs x h (found_in test xs x e).0

-- one is found if one passes
any_found : {X : Type 0} (test : X → Bool) (xs : List X) → is_some (find test xs) ≡ list_any test xs
any_found test [] = refl
any_found test (x ∷ xs) = grind (arith, ints, any_found test xs)

-- ---- the best

-- what holds of all candidates holds of the best
pub best-holds : (P : Candidate → Type 0) (k : ℕ) (all : List Candidate) →
    AllByRecursion P all → AllByRecursion P (best k all)
best-holds P k all h = grind (arith, ints, all-made, each, found-holds)

-- ---- the candidates of one series

-- the contenders of a series have its ID
pub contenders-own : (q : Query) (s : Series) → AllByRecursion (λ d. d.id ≡ s.id) (contenders q s)
contenders-own q s = grind (arith, ints, all-made, begun_on q s, each, begun_on, made)

-- and so have its candidates
pub candidates-own : (q : Query) (s : Series) → AllByRecursion (λ d. d.id ≡ s.id) (candidates q s)
candidates-own q s = all-filter (λ d. d.id ≡ s.id) _ (contenders q s) (contenders-own q s)

-- what holds of an ID holds of the candidates of the series that have it
each_candidate : (P : StationId → Type 0) (q : Query) (ss : List Series) →
    AllByRecursion (λ s. P s.id) ss → AllByRecursion (λ d. P d.id) (flat_map (candidates q) ss)
each_candidate P q [] h = tt
each_candidate P q (s ∷ ss) h =
    grind (arith, ints, each-append, from_each, candidates-own q s, each_candidate P q ss h.1)

-- candidates of one ID are apart from those of others
apart-append : (id : StationId) (xs ys : List Candidate) →
    AllByRecursion (λ d. d.id ≡ id) xs → AllByRecursion (λ b. same_id id b.id ≡ false) ys →
    AreApart xs → AreApart ys → AreApart (xs ++ ys)
unfolding IsDistinct
apart-append id [] ys own other a b = b
apart-append id (x ∷ xs) ys own other a b =
    grind (arith, ints, from_each, each-append, apart-append id xs ys own.1 other a.1 b)

-- ---- the series of some stations

module _ (q : Query) (c : Data) where
  -- the series of a station, if it has one
  abbrev pub of_station : Station → Option Series
  of_station st = series_of c st.id (score_element q.score)

  -- the series of those of some stations that are admitted
  abbrev pub series_among : List Station → List Series
  series_among sts = filter_map of_station (filter (admits_station q) sts)

  -- the series of a station has the station's ID
  pub of_station-own : (st : Station) (u : Series) → of_station st ≡ Some u → u.id ≡ st.id
  of_station-own st u e =
      same_id-is u.id st.id (and_parts _ _ (found_in (is_series_of st.id (score_element q.score)) c.series u e).1).0

  -- what holds of the series of each of some stations holds of all these
  pub each_among : (P : Series → Type 0) (sts : List Station) →
      AllByRecursion (λ st. (u : Series) → of_station st ≡ Some u → P u) sts → AllByRecursion P (series_among sts)
  each_among P sts h = grind (arith, ints, all-made, all-filter)

  -- stations without an ID have no series of it
  pub others_among : (id : StationId) (sts : List Station) →
      AllByRecursion (λ i. same_id id i ≡ false) (map (λ (x : Station). x.id) sts) →
      AllByRecursion (λ u. same_id id u.id ≡ false) (series_among sts)
  others_among id sts h = grind (arith, ints, each_among, from_each, of_station-own, each-mapped)

  -- so series of stations with different IDs have different IDs
  series_apart : (sts : List Station) → IsDistinct same_id (map (λ (x : Station). x.id) sts)
      → IsDistinct (λ a b. same_id a.id b.id) (series_among sts)
  unfolding IsDistinct
  series_apart [] d = tt
  series_apart (st ∷ sts) d =
      cond_both (admits_station q st) (st ∷ filter (admits_station q) sts) (filter (admits_station q) sts)
      (λ (l : List Station). IsDistinct (λ a b. same_id a.id b.id) (filter_map of_station l))
      (λ _. elim (of_station st) as (λ o. of_station st ≡ o
      → IsDistinct (λ a b. same_id a.id b.id) (cons_option o (series_among sts))) [
        | None ↦ λ e. series_apart sts d.1
        | Some u ↦ λ e. (rw (of_station-own st u e) (others_among st.id sts d.0), series_apart sts d.1)
      ] refl) (λ _. series_apart sts d.1)

  -- no two candidates of stations with different IDs begin alike
  apart_among : AllByRecursion IsSeries c.series → (sts : List Station) →
      IsDistinct same_id (map (λ (x : Station). x.id) sts) → AreApart (flat_map (candidates q) (series_among sts))
  unfolding IsDistinct
  apart_among right [] d = tt
  apart_among right (st ∷ sts) d =
      let all : List Series = series_among sts in
      let tail : AreApart (flat_map (candidates q) all) = apart_among right sts d.1 in
      cond_both (admits_station q st) (st ∷ filter (admits_station q) sts) (filter (admits_station q) sts)
      (λ (l : List Station). AreApart (flat_map (candidates q) (filter_map of_station l)))
      (λ _. elim (of_station st) as (λ o. of_station st ≡ o → AreApart (flat_map (candidates q) (cons_option o all))) [
        | None ↦ λ e. tail
        | Some u ↦ λ e. apart-append st.id (candidates q u) (flat_map (candidates q) all)
            (subst (λ (i : StationId). AllByRecursion (λ x. x.id ≡ i) (candidates q u)) (of_station-own st u e)
            (candidates-own q u)) (each_candidate (λ i. same_id st.id i ≡ false) q all (others_among st.id sts d.0))
            (apart q u (found-holds IsSeries (is_series_of st.id (score_element q.score)) c.series u right e)) tail
      ] refl) (λ _. tail)

-- ---- the morsels of a query

-- no two belong to one station
pub morsels_apart : (q : Query) (c : Data) → IsContents c
    → IsDistinct (λ a b. same_id a.id b.id) (filter (has_admitted q) (admitted_series q c))
morsels_apart q c right = distinct_filter (λ a b. same_id a.id b.id) (has_admitted q) (admitted_series q c)
    (series_apart q c c.stations right.listed.distinct)

-- and each has an ID before those of all after it
pub morsels_rise : (q : Query) (c : Data) → IsContents c
    → Descend (λ a b. strictly (λ (s : Series). s.id) a b ≡ true) (morsels q c)
morsels_rise q c right = sorted-rise (λ s. s.id) (filter (has_admitted q) (admitted_series q c))
    (morsels_apart q c right)

-- ---- all candidates of a query

-- no two of them belong to one station and begin on one day
pub all_apart : CandidatesAreApart
all_apart q c right = apart_among q c right.series.right c.stations right.listed.distinct

-- they belong to listed stations
pub all_listed : CandidatesAreOfListed
all_listed q c right =
    let IsFound : StationId → Type 0 = λ id. IsTrue (is_some (find (is_station_of id) c.stations)) in
    each_candidate IsFound q (series_among q c c.stations)
    (each_among q c (λ u. IsFound u.id) c.stations
    (each (λ st. (u : Series) → of_station q c st ≡ Some u → IsFound u.id) c.stations
    (λ st u e. any_found (is_station_of u.id) c.stations ∙ found-holds (λ v. is_listed c.stations v.id ≡ true)
    (is_series_of st.id (score_element q.score)) c.series u right.series.listed e)))

-- and so do the best
pub best_listed : BestAreOfListed
best_listed q c right = grind (arith, ints, best-holds, all_listed q c right)

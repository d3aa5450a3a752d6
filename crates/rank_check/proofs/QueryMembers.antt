-- The candidates, series and stations of a query, one by one.
use Rattle.std.proofs.Common.{◌≡◌, Bool, true, false, cond, not, List, [], ◌∷◌, length, map, filter, inl, inr, Option}
use Rattle.std.proofs.Common.{Some, None, refl, sym, ap, ◌∙◌, subst}
use Rattle.std.specs.Prelude.{◌==◌, ◌&&◌}
use Rattle.std.specs.List.{find, IsDistinct}
use Rattle.std.specs.List.Sorted.{IsPermutation}
use Rattle.std.specs.Option.{option_map_or}
use Rattle.std.proofs.lemmas.Bool.{and_parts, eqb-true}
use Rattle.std.proofs.lemmas.List.Sorted.{IsPermutation-sym}
use Rattle.std.proofs.lemmas.Map.Keys.{IsDistinct-head, IsDistinct-tail}
use Rattle.std.proofs.lemmas.List.{nil_from_length}
use Rattle.ghcn_files.specs.declared.station.Station.{Station}
use Rattle.ghcn_files.specs.declared.station.StationId.{StationId}
use Rattle.ghcn_files.specs.declared.element.Element.{Element}
use Rattle.ghcn_files.specs.Meaning.Ids.{same_id}
use Rattle.ghcn_files.proofs.IdLaws.{same_id-is, same_id-laws}
use Rattle.ghcn_files.specs.Meaning.Listed.{is_station_of}
use Rattle.ghcn_series.specs.Meaning.Series.{Series}
use Rattle.ghcn_series.specs.Series.{Data, series_of, is_series_of}
use Rattle.ghcn_series.specs.Held.{IsContents}
use Rattle.rank_query.specs.Meaning.Asked.{Query, score_element}
use Rattle.rank_query.specs.Admits.{admits_station}
use Rattle.rank_scores.specs.declared.candidate.Candidate.{Candidate}
use Rattle.rank_scores.specs.Groups.{leaders}
use Rattle.rank_scores.specs.Meaning.Candidates.{admitted, shape}
use Rattle.rank_scores.specs.Candidates.{contenders_among, candidates}
use Rattle.rank_scores.specs.Morsels.{has_admitted, admitted_series, all_candidates, morsels, id_comes_first}
use Rattle.rank_scores.proofs.QueryCandidates.{candidates-own}
use Rattle.ghcn_files.proofs.Ordered as ordered
use Rattle.rank_check.specs.Pieces.{is_morsel}
use Rattle.ghcn_series.proofs.Members.{In, of_one, found_in, kept_in, in_kept, made_in, in_made, in_all, all_in, in_map, in_permuted}

-- what is there is in each permutation
pub permuted_in : {X : Type 0} (xs ys : List X) → IsPermutation xs ys → (x : X) → In xs x → In ys x
permuted_in xs ys p x h = of_one (In ys) xs x (in_permuted xs ys p) h

-- of elements of which no two are alike, the one that is there is found
in_found : {X K : Type 0} (same : K → K → Bool) (key : X → K) (own : (a : K) → same a a ≡ true)
    (xs : List X) (x : X) → IsDistinct same (map key xs) → In xs x
    → find (λ y. same (key y) (key x)) xs ≡ Some x
in_found same key own [] x d h = absurd h
in_found same key own (y ∷ ys) x d (inl e) =
    let yes : same (key y) (key x) ≡ true = ap (λ z. same (key z) (key x)) e ∙ own (key x) in
    ap (λ (b : Bool). cond b (Some y) (find (λ z. same (key z) (key x)) ys)) yes ∙ ap (λ z. Some z) e
in_found same key own (y ∷ ys) x d (inr h) =
    let apart = IsDistinct-head same (key y) (map key ys) d in
    let no : same (key y) (key x) ≡ false = of_one (λ k. same (key y) k ≡ false) (map key ys) (key x) apart
    (in_map key ys x h) in
    ap (λ (b : Bool). cond b (Some y) (find (λ z. same (key z) (key x)) ys)) no
    ∙ in_found same key own ys x (IsDistinct-tail same (key y) (map key ys) d) h

-- what isn't not so is so
pub so : (b : Bool) → not b ≡ false → b ≡ true
so true e = refl
so false e = absurd cc

module _ (q : Query) (c : Data) where
  -- the query's element
  abbrev el : Element
  el = score_element q.score

  -- a station's series has its ID
  pub own_id : (st : Station) (u : Series) → series_of c st.id (score_element q.score) ≡ Some u → u.id ≡ st.id
  own_id st u e =
      let found = found_in (is_series_of st.id (score_element q.score)) c.series u e in
      same_id-is u.id st.id (and_parts (same_id u.id st.id) _ found.1).0

  -- a listed station is found by its ID
  pub listed_found : IsContents c → (st : Station) → In c.stations st → find (is_station_of st.id) c.stations ≡ Some st
  listed_found right st h =
      in_found same_id (λ (s : Station). s.id) same_id-laws.refl c.stations st right.listed.distinct h

  -- a series of the query is that of an admitted station
  series_in : (u : Series) → In (admitted_series q c) u → (st : Station) × In c.stations st
      × (admits_station q st ≡ true) × (series_of c st.id (score_element q.score) ≡ Some u)
  series_in u h =
      let made = made_in (λ st. series_of c st.id (score_element q.score)) (filter (admits_station q) c.stations) u h in
      let kept = kept_in (admits_station q) c.stations made.0 made.1 in
      (made.0, kept.0, kept.1, made.2)

  -- and back
  in_series : (st : Station) (u : Series) → In c.stations st → admits_station q st ≡ true
      → series_of c st.id (score_element q.score) ≡ Some u → In (admitted_series q c) u
  in_series st u h a e =
      in_made (λ s. series_of c s.id (score_element q.score)) (filter (admits_station q) c.stations) st u
      (in_kept (admits_station q) c.stations st h a) e

  -- a morsel is a series of the query with an admitted day
  morsel_in : (u : Series) → In (morsels q c) u → In (admitted_series q c) u × (has_admitted q u ≡ true)
  morsel_in u h =
      let some : List Series = filter (has_admitted q) (admitted_series q c) in
      let p = ordered.sorted-permutation (λ (a b : Series). id_comes_first a.id b.id)
      (filter (has_admitted q) (admitted_series q c)) in
      kept_in (has_admitted q) (admitted_series q c) u
      (permuted_in (morsels q c) some (IsPermutation-sym some (morsels q c) p) u h)

  -- and back
  in_morsels : (u : Series) → In (admitted_series q c) u → has_admitted q u ≡ true → In (morsels q c) u
  in_morsels u h a =
      let some : List Series = filter (has_admitted q) (admitted_series q c) in
      permuted_in some (morsels q c)
      (ordered.sorted-permutation (λ (x y : Series). id_comes_first x.id y.id)
      (filter (has_admitted q) (admitted_series q c))) u (in_kept (has_admitted q) (admitted_series q c) u h a)

  -- the series of a morsel's station is the morsel
  pub station_of : (u : Series) → In (morsels q c) u → (st : Station) × In c.stations st
      × (admits_station q st ≡ true) × (series_of c st.id (score_element q.score) ≡ Some u)
  station_of u h = series_in u (morsel_in u h).0

  -- and of a station whose series is one, it is a morsel
  pub morsel_of : (st : Station) → In c.stations st
      → is_morsel q st (series_of c st.id (score_element q.score)) ≡ true
      → (u : Series) × (series_of c st.id (score_element q.score) ≡ Some u) × In (morsels q c) u
  morsel_of st h e = by (series_of c st.id (score_element q.score)) refl
      (and_parts (admits_station q st) _ e).0 (and_parts (admits_station q st) _ e).1
    where
      by : (o : Option Series) → series_of c st.id (score_element q.score) ≡ o → admits_station q st ≡ true
          → option_map_or (has_admitted q) (series_of c st.id (score_element q.score)) false ≡ true
          → (u : Series) × (series_of c st.id (score_element q.score) ≡ Some u) × In (morsels q c) u
      by None f a g =
          let no : false ≡ true = ap (λ (o : Option Series). option_map_or (has_admitted q) o false) (sym f) ∙ g in
          absurd cc
      by (Some u) f a g =
          let has : has_admitted q u ≡ true =
          ap (λ (o : Option Series). option_map_or (has_admitted q) o false) (sym f) ∙ g in
          (u, f, in_morsels u (in_series st u h a f) has)

  -- a morsel's station has one
  pub is_morsel_of : (st : Station) (u : Series) → admits_station q st ≡ true
      → series_of c st.id (score_element q.score) ≡ Some u → In (morsels q c) u
      → is_morsel q st (series_of c st.id (score_element q.score)) ≡ true
  is_morsel_of st u a e h =
      ap (λ (b : Bool). b && option_map_or (has_admitted q) (series_of c st.id (score_element q.score)) false) a
      ∙ ap (λ (o : Option Series). option_map_or (has_admitted q) o false) e ∙ (morsel_in u h).1

  -- a morsel is the series of its ID
  morsel_own : (u : Series) → In (morsels q c) u → series_of c u.id (score_element q.score) ≡ Some u
  morsel_own u h =
      let there = station_of u h in
      ap (λ (i : StationId). series_of c i (score_element q.score)) (own_id there.0 u there.3) ∙ there.3

  -- so there is one of an ID
  pub one_morsel : (u v : Series) → In (morsels q c) u → In (morsels q c) v → u.id ≡ v.id → u ≡ v
  one_morsel u v h k e =
      let a = morsel_own u h in
      let b : series_of c u.id (score_element q.score) ≡ Some v =
      ap (λ (i : StationId). series_of c i (score_element q.score)) e ∙ morsel_own v k in
      cc

  -- ---- candidates

  -- a series without an admitted day has none
  none_of : (u : Series) → has_admitted q u ≡ false → candidates q u ≡ []
  none_of u e =
      let none : admitted q u ≡ [] = nil_from_length (admitted q u) (eqb-true (length (admitted q u)) 0
      (so (length (admitted q u) == 0) e)) in
      ap (λ days. leaders q.per (contenders_among u.id (shape q.score) days)) none

  -- a candidate of the query is one of a morsel
  pub candidate_in : (d : Candidate) → In (all_candidates q c) d
      → (u : Series) × In (morsels q c) u × In (candidates q u) d
  candidate_in d h =
      let there = all_in (candidates q) (admitted_series q c) d h in
      by there.0 there.1 there.2 (has_admitted q there.0) refl
    where
      by : (u : Series) → In (admitted_series q c) u → In (candidates q u) d → (b : Bool) → has_admitted q u ≡ b
          → (v : Series) × In (morsels q c) v × In (candidates q v) d
      by u k l true e = (u, in_morsels u k e, l)
      by u k l false e = absurd (subst (λ (ds : List Candidate). In ds d) (none_of u e) l)

  -- and back
  pub in_candidates : (u : Series) (d : Candidate) → In (morsels q c) u → In (candidates q u) d
      → In (all_candidates q c) d
  in_candidates u d h k = in_all (candidates q) (admitted_series q c) u d (morsel_in u h).0 k

  -- it has the ID of its series
  pub candidate_id : (u : Series) (d : Candidate) → In (candidates q u) d → d.id ≡ u.id
  candidate_id u d h = of_one (λ x. x.id ≡ u.id) (candidates q u) d (candidates-own q u) h

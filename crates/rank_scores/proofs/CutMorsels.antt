-- The morsels of files that are cut into parts are those of the parts, if no station has a series in two of them.
use Rattle.std.proofs.Common.{◌≡◌, ℕ, Bool, true, false, cond, not, List, [], ◌∷◌, length, map, filter, refl, sym, ap}
use Rattle.std.proofs.Common.{◌∙◌, subst, None, Some, arith, rules}
use Rattle.std.specs.Prelude.{◌==◌}
use Rattle.std.specs.List.{flat_map, cons_option, IsDistinct}
use Rattle.std.specs.List.Sorted.{IsPermutation}
use Rattle.ghcn_fields.specs.Sorting.{sorted_by}
use Rattle.ghcn_files.specs.declared.station.Station.{Station}
use Rattle.ghcn_files.specs.declared.station.StationId.{StationId}
use Rattle.ghcn_files.specs.Meaning.Ids.{same_id}
use Rattle.ghcn_files.proofs.IdOrder.{id_cmp, id_total, same_station-turned, tied_same}
use Rattle.ghcn_files.proofs.Ordered.{distinct-mapped}
use Rattle.ghcn_series.specs.Meaning.Series.{Series}
use Rattle.ghcn_series.specs.Series.{Data}
use Rattle.ghcn_series.specs.Meaning.Says.{Fact}
use Rattle.ghcn_series.specs.JoinedFiles.{facts_in}
use Rattle.ghcn_series.proofs.FoundSeries.{has_days}
use Rattle.ghcn_series.proofs.JoinedFiles.{contents_in, facts_of_parts, data-held, all_data-held}
use Rattle.ghcn_series.proofs.JoinedSeries.{usable_of-left, usable_of-right}
use Rattle.ghcn_series.proofs.JoinedLists as lists
use Rattle.ghcn_series.proofs.ListFacts.{distinct_filter}
use Rattle.ghcn_series.proofs.Places.{same_id-refl}
use Rattle.rank_query.specs.Meaning.Asked.{Query}
use Rattle.rank_scores.specs.Morsels.{admitted_series, has_admitted, morsels}
use Rattle.rank_scores.specs.Cut.{series_first, series_ids, Filed, MorselsOfParts}
use Rattle.rank_scores.proofs.CutSeries.{admitted_stations, given, all_given, admitted_series-given}
use Rattle.std.proofs.lemmas.Int.{ints}

-- ---- series by their IDs

-- two series belong to one station
abbrev same_station : Series → Series → Bool
same_station a b = same_id a.id b.id

-- ---- what facts give

module _ (q : Query) (stations : List Station) where
  -- the series that facts give the admitted stations, if they have a day
  abbrev own : List Fact → List Series
  own facts = filter has_days (map (given q stations facts) (admitted_stations q stations))

  -- those that have an admitted day
  abbrev ready : List Fact → List Series
  ready facts = filter (has_admitted q) (own facts)

  -- those by ID
  abbrev by_id : List Fact → List Series
  by_id facts = sorted_by series_first (ready facts)

  -- what facts give joins if they do
  given_join : lists.Joins (given q stations) has_days same_station
  given_join =
      grind (arith, ints, same_station-turned (λ (s : Series). s.id), usable_of-left, usable_of-right, same_id-refl)

  -- the series that have a day are given
  given-kept : (facts : List Fact) (sts : List Station)
      → all_given q stations facts sts ≡ filter has_days (map (given q stations facts) sts)
  given-kept facts [] = refl
  given-kept facts (st ∷ sts) =
      let u : Series = given q stations facts st in
      let us : List Series = all_given q stations facts sts in
      let kept : List Series = filter has_days (map (given q stations facts) sts) in
      elim (length u.days == 0) as (λ b. cons_option (cond b None (Some u)) us ≡ cond (not b) (u ∷ kept) kept) [
        | true ↦ given-kept facts sts
        | false ↦ ap (λ (l : List Series). u ∷ l) (given-kept facts sts)
      ]

  -- the series that the query is about, in what files hold
  own_held : (files : List (List ℕ)) → admitted_series q (contents_in stations files) ≡ own (facts_in stations files)
  own_held files = search (rules, arith, admitted_series-given, given-kept, admitted_stations)

  -- the morsels in what files hold
  ready_held : (files : List (List ℕ)) → morsels q (contents_in stations files) ≡ by_id (facts_in stations files)
  ready_held files = ap (λ (us : List Series). sorted_by series_first (filter (has_admitted q) us)) (own_held files)

  -- ---- of parts

  module _ {P : Type 0} (files : P → List (List ℕ)) where
    -- the data of a part
    abbrev data_in : P → Data
    data_in p = contents_in stations (files p)

    -- its facts that count
    abbrev facts_of_part : P → List Fact
    facts_of_part p = facts_in stations (files p)

    -- the series of all parts that the query is about
    all_own : (ps : List P) → flat_map (admitted_series q) (map data_in ps) ≡ flat_map own (map facts_of_part ps)
    all_own [] = refl
    all_own (p ∷ ps) = grind (arith, ints, own_held (files p), all_own ps)

    -- the morsels of all parts
    all_ready : (ps : List P) → flat_map (morsels q) (map data_in ps) ≡ flat_map by_id (map facts_of_part ps)
    all_ready [] = refl
    all_ready (p ∷ ps) = grind (arith, ints, ready_held (files p), all_ready ps)

    module _ (parts : List P) where
      -- the files of all parts
      abbrev all_files : List (List ℕ)
      all_files = flat_map files parts

      -- the facts of each part
      abbrev facts_by_part : List (List Fact)
      facts_by_part = map facts_of_part parts

      -- the data of each part
      abbrev data_by_part : List Data
      data_by_part = map data_in parts

      -- the series with an admitted day, one by one
      abbrev if_ready : Series → List Series
      if_ready u = filter (has_admitted q) (u ∷ [])

      -- those of all series
      ready-pieces : (facts : List Fact) → flat_map if_ready (own facts) ≡ ready facts
      ready-pieces facts = sym (lists.filter-pieces (has_admitted q) (own facts))

      module _ (distinct : IsDistinct same_id (series_ids q data_by_part)) where
        -- no two series of the parts belong to one station
        own_apart : IsDistinct same_station (flat_map own facts_by_part)
        own_apart = subst (IsDistinct same_station) (all_own parts)
            (distinct-mapped (λ (s : Series). s.id) same_id (flat_map (admitted_series q) data_by_part) distinct)

        -- nor are two with an admitted day
        ready_apart : IsDistinct same_station (flat_map ready facts_by_part)
        ready_apart = subst (IsDistinct same_station) (lists.filter-flat_map (has_admitted q) own facts_by_part)
            (distinct_filter same_station (has_admitted q) (flat_map own facts_by_part) own_apart)

        -- the parts have the series with an admitted day that all files have
        ready_together : IsPermutation (flat_map ready facts_by_part) (ready (facts_in stations all_files))
        ready_together =
            let whole : List Fact = flat_map (λ f. f) facts_by_part in
            let moved : IsPermutation (flat_map (λ f. flat_map if_ready (own f)) facts_by_part)
            (flat_map if_ready (own whole)) =
            lists.made_whole (given q stations) has_days same_station given_join facts_by_part
            (admitted_stations q stations) own_apart if_ready in
            let all : flat_map if_ready (own whole) ≡ ready (facts_in stations all_files) =
            ready-pieces whole ∙ ap ready (sym (facts_of_parts stations files parts)) in
            subst (λ (l : List Series). IsPermutation l (ready (facts_in stations all_files)))
            (lists.flat_map-same (λ f. flat_map if_ready (own f)) ready facts_by_part ready-pieces)
            (subst (IsPermutation (flat_map (λ f. flat_map if_ready (own f)) facts_by_part)) all moved)

        -- so the morsels of all files are those of the parts
        pub morsels_together : morsels q (contents_in stations all_files)
            ≡ sorted_by series_first (flat_map (morsels q) data_by_part)
        morsels_together =
            let id_of : Series → StationId = λ s. s.id in
            ready_held all_files
            ∙ lists.sorted_together (id_cmp id_of) (id_total id_of) series_first (λ a b. refl) same_station
            (same_station-turned id_of) (tied_same id_of) ready facts_by_part (ready (facts_in stations all_files))
            ready_apart ready_together
            ∙ ap (sorted_by series_first) (sym (all_ready parts))

-- if no station has a series of the query's element in two parts, the morsels of all files are those of the parts
pub morsels_of_parts : MorselsOfParts
morsels_of_parts q stations parts ds held are all distinct =
    let files : Filed → List (List ℕ) = λ p. p.0 in
    let own_data : List Data = map (λ p. contents_in stations (files p)) parts in
    let IsWhole : Data → List Data → Type 0 =
    λ c l. morsels q c ≡ sorted_by series_first (flat_map (morsels q) l) in
    subst (λ (l : List Data). IsDistinct same_id (series_ids q l) → IsWhole held l)
    (all_data-held stations files parts ds are)
    (λ apart. subst (λ (c : Data). IsWhole c own_data) (data-held stations (flat_map files parts) held all)
    (morsels_together q stations files parts apart)) distinct

-- Files that are cut into parts are cut as a query sees it, if no station has morsels in two parts.
use Rattle.std.proofs.Common.{◌≡◌, ℕ, false, List, [], ◌∷◌, ◌++◌, map, refl, sym, ap, ◌∙◌, subst, arith, rules}
use Rattle.std.specs.List.{flat_map, AllByRecursion, AllZip, IsDistinct}
use Rattle.std.specs.List.Sorted.{IsPermutation}
use Rattle.std.proofs.lemmas.List.{map-append}
use Rattle.std.proofs.lemmas.List.Sorted.{IsPermutation-sym}
use Rattle.std.proofs.lemmas.Map.Keys.{IsDistinct-IsPermutation}
use Rattle.ghcn_fields.specs.Sorting.{sorted_by}
use Rattle.ghcn_files.proofs.IdOrder.{id_cmp, id_total, same_station-turned, tied_same}
use Rattle.ghcn_files.proofs.Ordered.{sorted-permutation}
use Rattle.ghcn_files.specs.declared.station.Station.{Station}
use Rattle.ghcn_files.specs.declared.station.StationId.{StationId}
use Rattle.ghcn_files.specs.Meaning.Ids.{same_id}
use Rattle.ghcn_series.specs.Series.{Data}
use Rattle.ghcn_series.specs.Meaning.Says.{Fact}
use Rattle.ghcn_series.specs.JoinedFiles.{facts_in, HaveData}
use Rattle.ghcn_series.proofs.JoinedFiles.{contents_in, facts_of_parts, data-held, all_data-held}
use Rattle.ghcn_series.proofs.JoinedLists as lists
use Rattle.ghcn_series.proofs.Places.{same_id-refl}
use Rattle.rank_query.specs.Meaning.Asked.{Query, score_element}
use Rattle.rank_scores.specs.declared.candidate.Candidate.{Candidate}
use Rattle.rank_scores.specs.Morsels.{all_candidates, morsels}
use Rattle.rank_scores.specs.Cut.{IsSameFor, series_first, IsCut, morsel_ids, CutByFiles}
use Rattle.rank_scores.proofs.CutDays.{admitted-left, admitted-right}
use Rattle.rank_scores.proofs.CutSeries.{Seen, has_any, of_one, comes_first, seen, candidates_seen, seen_in, same_seen}
use Rattle.rank_scores.proofs.CutSeries.{distinct_seen, sorted-seen, admitted_stations, held_in, candidates_held}
use Rattle.rank_scores.proofs.CutSeries.{morsels_held}
use Rattle.std.proofs.lemmas.Int.{ints}

module _ {P : Type 0} (q : Query) (stations : List Station) (files : P → List (List ℕ)) where
  -- the data of a part
  abbrev data_in : P → Data
  data_in p = contents_in stations (files p)

  -- its facts that count
  abbrev facts_of_part : P → List Fact
  facts_of_part p = facts_in stations (files p)

  -- what some facts hold, by ID
  abbrev by_id : List Fact → List Seen
  by_id facts = sorted_by comes_first (held_in q stations facts)

  -- the data of all parts have the same stations
  same_stations : (ps : List P) → AllByRecursion (λ d. d.stations ≡ stations) (map data_in ps)
  same_stations [] = tt
  same_stations (p ∷ ps) = (refl, same_stations ps)

  -- what is seen of the morsels of all parts
  seen_morsels : (ps : List P) → map (seen q) (flat_map (morsels q) (map data_in ps))
      ≡ flat_map by_id (map facts_of_part ps)
  seen_morsels [] = refl
  seen_morsels (p ∷ ps) =
      map-append (seen q) (morsels q (data_in p)) (flat_map (morsels q) (map data_in ps))
      ∙ ap (λ (l : List Seen). l ++ map (seen q) (flat_map (morsels q) (map data_in ps)))
      (morsels_held q stations (files p))
      ∙ ap (λ (l : List Seen). by_id (facts_of_part p) ++ l) (seen_morsels ps)

  -- the candidates of all parts
  seen_candidates : (ps : List P) → flat_map (all_candidates q) (map data_in ps)
      ≡ flat_map (λ f. flat_map (candidates_seen q) (held_in q stations f)) (map facts_of_part ps)
  seen_candidates [] = refl
  seen_candidates (p ∷ ps) =
      ap (λ (l : List Candidate). l ++ flat_map (all_candidates q) (map data_in ps))
      (candidates_held q stations (files p))
      ∙ ap (λ (l : List Candidate). flat_map (candidates_seen q) (held_in q stations (facts_of_part p)) ++ l)
      (seen_candidates ps)

  -- if nothing is seen in the first facts, what is seen in all is seen in the others
  seen-left : (st : Station) (f g : List Fact) → has_any (seen_in q f st) ≡ false
      → seen_in q (f ++ g) st ≡ seen_in q g st
  seen-left st f g none = grind (arith, ints, admitted-left q st.id (score_element q.score) f g none)

  -- and if nothing is seen in the others, in the first
  seen-right : (st : Station) (f g : List Fact) → has_any (seen_in q g st) ≡ false
      → seen_in q (f ++ g) st ≡ seen_in q f st
  seen-right st f g none = grind (arith, ints, admitted-right q st.id (score_element q.score) f g none)

  -- so what is seen joins if facts do
  seen_join : lists.Joins (seen_in q) has_any of_one
  seen_join = grind (arith, ints, same_station-turned (λ (x : Seen). x.0), seen-left, seen-right, same_id-refl)

  module _ (parts : List P) where
    -- the files of all parts
    abbrev all_files : List (List ℕ)
    all_files = flat_map files parts

    -- the facts of each part
    abbrev facts_by_part : List (List Fact)
    facts_by_part = map facts_of_part parts

    -- the data of each part
    abbrev data_by_part : List Data
    data_by_part = map data_in parts

    -- what all facts hold
    abbrev held_of_all : List Seen
    held_of_all = held_in q stations (facts_in stations all_files)

    -- all facts are those of the parts
    facts_together : flat_map (λ (f : List Fact). f) facts_by_part ≡ facts_in stations all_files
    facts_together = sym (facts_of_parts stations files parts)

    -- the order by ID only moves what is seen
    unsorted : IsPermutation (flat_map by_id facts_by_part) (flat_map (held_in q stations) facts_by_part)
    unsorted = lists.flat_map-permuted by_id (held_in q stations) facts_by_part
        (λ f. IsPermutation-sym (held_in q stations f) (by_id f)
        (sorted-permutation comes_first (held_in q stations f)))

    module _ (distinct : IsDistinct same_id (morsel_ids q data_by_part)) where
      -- what is seen in all parts belongs to different stations
      all_apart : IsDistinct of_one (flat_map by_id facts_by_part)
      all_apart = subst (IsDistinct of_one) (seen_morsels parts)
          (distinct_seen q (flat_map (morsels q) data_by_part) distinct)

      -- in any order
      held_apart : IsDistinct of_one (flat_map (held_in q stations) facts_by_part)
      held_apart =
          IsDistinct-IsPermutation of_one (same_station-turned (λ (x : Seen). x.0)) (flat_map by_id facts_by_part)
          (flat_map (held_in q stations) facts_by_part) unsorted all_apart

      -- it is what is seen in all files
      held_together : IsPermutation (flat_map (held_in q stations) facts_by_part) held_of_all
      held_together =
          subst (λ (f : List Fact). IsPermutation (flat_map (held_in q stations) facts_by_part) (held_in q stations f))
          facts_together
          (lists.held_whole (seen_in q) has_any of_one seen_join facts_by_part (admitted_stations q stations)
          held_apart)

      -- and in the order of IDs the same
      in_order : sorted_by comes_first held_of_all ≡ sorted_by comes_first (flat_map by_id facts_by_part)
      in_order =
          let id_of : Seen → StationId = λ x. x.0 in
          lists.sorted_together (id_cmp id_of) (id_total id_of) comes_first (λ a b. refl) of_one
          (same_station-turned id_of) (tied_same id_of) (held_in q stations) facts_by_part held_of_all held_apart
          held_together

      -- the morsels of all files are those of the parts, as the query sees them
      morsels_cut : AllZip (IsSameFor q) (sorted_by series_first (flat_map (morsels q) data_by_part))
          (morsels q (contents_in stations all_files))
      morsels_cut =
          same_seen q (sorted_by series_first (flat_map (morsels q) data_by_part))
          (morsels q (contents_in stations all_files))
          (sorted-seen q (flat_map (morsels q) data_by_part)
          ∙ ap (sorted_by comes_first) (seen_morsels parts)
          ∙ sym in_order
          ∙ sym (morsels_held q stations all_files))

      -- and so are the candidates
      candidates_cut : IsPermutation (flat_map (all_candidates q) data_by_part)
          (all_candidates q (contents_in stations all_files))
      candidates_cut =
          let of_parts : List Candidate =
          flat_map (λ f. flat_map (candidates_seen q) (held_in q stations f)) facts_by_part in
          let moved : IsPermutation of_parts
          (flat_map (candidates_seen q) (held_in q stations (flat_map (λ f. f) facts_by_part))) =
          lists.made_whole (seen_in q) has_any of_one seen_join facts_by_part (admitted_stations q stations) held_apart
          (candidates_seen q) in
          let same : flat_map (candidates_seen q) (held_in q stations (flat_map (λ f. f) facts_by_part))
          ≡ all_candidates q (contents_in stations all_files) =
          ap (λ (f : List Fact). flat_map (candidates_seen q) (held_in q stations f)) facts_together
          ∙ sym (candidates_held q stations all_files) in
          subst (λ (l : List Candidate). IsPermutation l (all_candidates q (contents_in stations all_files)))
          (sym (seen_candidates parts)) (subst (IsPermutation of_parts) same moved)

      -- so all is cut into the parts
      pub cut : IsCut q (contents_in stations all_files) data_by_part
      cut = record { stations = same_stations parts; candidates = candidates_cut; morsels = morsels_cut }

-- files that are cut into parts of any kind are cut as a query sees it
pub cut_by_parts : {P : Type 0} (q : Query) (stations : List Station) (files : P → List (List ℕ)) (parts : List P)
    (ds : List Data) (held : Data) → AllZip (λ p d. HaveData stations (files p) d) parts ds
    → HaveData stations (flat_map files parts) held → IsDistinct same_id (morsel_ids q ds) → IsCut q held ds
cut_by_parts q stations files parts ds held are all distinct =
    subst (λ (l : List Data). IsDistinct same_id (morsel_ids q l) → IsCut q held l)
    (all_data-held stations files parts ds are)
    (λ apart. subst (λ (c : Data). IsCut q c (map (λ p. contents_in stations (files p)) parts))
    (data-held stations (flat_map files parts) held all) (cut q stations files parts apart)) distinct

-- so are files of parts that have a report and a certificate
pub cut_by_files : CutByFiles
cut_by_files q stations parts ds held are all distinct = search (rules, arith, cut_by_parts)

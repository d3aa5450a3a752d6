-- The morsels of a query: series that it asks about, and no other series has a candidate.
use Rattle.std.proofs.Common.{◌≡◌, Bool, true, false, not, List, [], ◌∷◌, length, filter, Option, Some, refl, arith}
use Rattle.std.specs.Prelude.{◌==◌}
use Rattle.std.specs.List.{find, filter_map, flat_map, AllByRecursion}
use Rattle.std.proofs.lemmas.Grind.{common_steps}
use Rattle.ghcn_files.specs.declared.station.Station.{Station}
use Rattle.ghcn_series.specs.Meaning.Series.{Series, DayValue}
use Rattle.ghcn_series.specs.Series.{Data, IsSeries, series_of, is_series_of}
use Rattle.ghcn_series.specs.Held.{IsContents}
use Rattle.ghcn_series.proofs.Members.{found_in}
use Rattle.rank_query.specs.Meaning.Asked.{Query, score_element}
use Rattle.rank_scores.specs.declared.candidate.Candidate.{Candidate}
use Rattle.rank_scores.specs.Candidates.{candidates}
use Rattle.rank_scores.specs.Morsels.{admitted_series, has_admitted, morsel_at, IsAskedOf}
use Rattle.rank_scores.proofs.Rising.{each}
use Rattle.rank_scores.proofs.QueryCandidates.{found-holds, series_among, each_among}

-- what is found passes
passes : {X : Type 0} (test : X → Bool) (xs : List X) (x : X) → find test xs ≡ Some x → test x ≡ true
passes test xs x e = (found_in test xs x e).1

-- if there is no day, there is no candidate
none_from : (f : DayValue → Option Candidate) (xs : List DayValue) → not (length xs == 0) ≡ false → filter_map f xs ≡ []
none_from f xs e = grind (arith, common_steps)

-- series without an admitted day have no candidates
pub asked_alone : (q : Query) (ss : List Series) → flat_map (candidates q) (filter (has_admitted q) ss)
    ≡ flat_map (candidates q) ss
asked_alone q [] = refl
asked_alone q (s ∷ ss) = grind (arith, none_from, asked_alone q ss)

-- what holds of each that passes holds of those that pass
all_passing : {X : Type 0} (R : X → Type 0) (t : X → Bool) (xs : List X)
    → AllByRecursion (λ x. t x ≡ true → R x) xs → AllByRecursion R (filter t xs)
all_passing R t [] h = tt
all_passing R t (x ∷ xs) h = grind (arith, all_passing R t xs h.1)

module _ (q : Query) (c : Data) where
  -- the morsels station by station are the series with an admitted day
  pub by_station : (sts : List Station) → filter_map (morsel_at q c) sts
      ≡ filter (has_admitted q) (series_among q c sts)
  by_station [] = refl
  by_station (st ∷ sts) = grind (arith, by_station sts)

  -- a station's series with an admitted day is one that the query asks about
  pub asked_of : (st : Station) (u : Series) → series_of c st.id (score_element q.score) ≡ Some u → IsSeries u
      → has_admitted q u ≡ true → IsAskedOf q u
  asked_of st u e right has = grind (arith, passes)

  -- the query asks about each morsel
  pub morsels_asked : IsContents c → AllByRecursion (IsAskedOf q) (filter (has_admitted q) (admitted_series q c))
  morsels_asked right = all_passing (IsAskedOf q) (has_admitted q) (admitted_series q c)
      (each_among q c (λ u. has_admitted q u ≡ true → IsAskedOf q u) c.stations
      (each _ c.stations (λ st u e. asked_of st u e
      (found-holds IsSeries (is_series_of st.id (score_element q.score)) c.series u right.series.right e))))

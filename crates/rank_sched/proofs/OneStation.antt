-- The morsel of a query that is about one station.
use Rattle.rank_sched.proofs.Cited.{◌≡◌, ℕ, Bool, true, false, List, [], ◌∷◌, map, Option, Some, None, refl, sym, ap}
use Rattle.rank_sched.proofs.Cited.{◌∙◌, subst, cond, option_to_list, if◌then◌else◌, slice_get, find, filter_map}
use Rattle.rank_sched.proofs.Cited.{cons_option, AllByRecursion, IsDistinct, option_map, option_and_then, slice_get-map}
use Rattle.rank_sched.proofs.Cited.{StationId, Station, same_id, is_station_of, place_of, found-at_place}
use Rattle.rank_sched.proofs.Cited.{none-without_place, same_id-is, same_id-turned, Data, series_of, IsContents}
use Rattle.rank_sched.proofs.Cited.{Region, Only, Query, score_element, region_holds, has_admitted, passing, measured}
use Rattle.rank_sched.proofs.Cited.{measured_at, measures, planned_morsel, Morsel}
use Rattle.rank_sched.specs.declared.plan.Morsel as code
use Rattle.rank_sched.proofs.PlanMade.{cons-alone}

-- ---- what is made of one station of a list, if nothing is made of the others

module _ {B : Type 0} (made : Station → Option B) (id : StationId)
    (others : (st : Station) → is_station_of id st ≡ false → made st ≡ None) where
  of_others : (sts : List Station) → AllByRecursion (λ other. same_id id other ≡ false) (map (λ st. st.id) sts)
      → filter_map made sts ≡ []
  of_others [] apart = refl
  of_others (st ∷ sts) apart =
      ap (λ (o : Option B). cons_option o (filter_map made sts)) (others st (same_id-turned st.id id ∙ apart.0))
      ∙ of_others sts apart.1

  of_all : (sts : List Station) → IsDistinct same_id (map (λ st. st.id) sts)
      → filter_map made sts ≡ option_to_list (option_and_then made (find (is_station_of id) sts))
  unfolding IsDistinct
  of_all [] apart = refl
  of_all (st ∷ sts) apart = by (is_station_of id st) refl (of_all sts apart.1)
    where
      by : (b : Bool) → is_station_of id st ≡ b
          → filter_map made sts ≡ option_to_list (option_and_then made (find (is_station_of id) sts))
          → filter_map made (st ∷ sts)
          ≡ option_to_list (option_and_then made (cond b (Some st) (find (is_station_of id) sts)))
      by true is rest =
          ap (λ (l : List B). cons_option (made st) l) (of_others sts (subst
          (λ (one : StationId). AllByRecursion (λ other. same_id one other ≡ false) (map (λ s. s.id) sts))
          (same_id-is st.id id is) apart.0))
          ∙ cons-alone (made st)
      by false is rest =
          ap (λ (o : Option B). cons_option o (filter_map made sts)) (others st is) ∙ rest

-- ---- the morsel of the one station of a query

-- what is made of a value that is there
joined : {A B : Type 0} (f : A → Option B) (o : Option A) (r : Option B) → option_map f o ≡ Some r
    → option_and_then f o ≡ r
joined f None r e = absurd cc
joined f (Some x) r e = cc

-- the morsel at a place is that of the station there
pub measured_of : (q : Query) (c : Data) (place : ℕ) (found : Option Morsel) → slice_get (measures q c) place ≡ Some found
    → option_map (measured_at q c) (slice_get c.stations place) ≡ Some found
measured_of q c place found at = sym (slice_get-map (measured_at q c) c.stations place) ∙ at

module _ (q : Query) (c : Data) (id : StationId) (is : IsContents c) (only : q.region ≡ Only id) where
  -- no other station is admitted
  not_admitted : (st : Station) → is_station_of id st ≡ false → measured_at q c st ≡ None
  not_admitted st other =
      ap (λ (b : Bool). option_map (measured q)
      (passing (has_admitted q) (if b then series_of c st.id (score_element q.score) else None)))
      (ap (λ (r : Region). region_holds r st) only ∙ other)

  -- if the station isn't listed, there is no morsel
  pub none_of_station : place_of c.stations id ≡ None → [] ≡ filter_map (measured_at q c) c.stations
  none_of_station none =
      ap (λ o. option_to_list (option_and_then (measured_at q c) o)) (none-without_place c.stations id none)
      ∙ sym (of_all (measured_at q c) id not_admitted c.stations is.listed.distinct)

  -- if it is, it has the only one, if it has any
  pub one_of_station : (place : ℕ) (morsel : Option code.Morsel) → place_of c.stations id ≡ Some place
      → option_map (measured_at q c) (slice_get c.stations place) ≡ Some (option_map planned_morsel morsel)
      → option_to_list (option_map planned_morsel morsel) ≡ filter_map (measured_at q c) c.stations
  one_of_station place morsel at there =
      ap option_to_list (sym (joined (measured_at q c) (find (is_station_of id) c.stations) (option_map planned_morsel morsel)
      (ap (option_map (measured_at q c)) (sym (found-at_place c.stations id place at)) ∙ there)))
      ∙ sym (of_all (measured_at q c) id not_admitted c.stations is.listed.distinct)

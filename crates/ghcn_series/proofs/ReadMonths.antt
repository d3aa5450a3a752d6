-- A reader that has read one month more.
use Rattle.ghcn_series.proofs.Cited.{◌≡◌, ℕ, zero, suc, ◌+◌, ◌<◌, Bool, true, false, cond, not, List, [], ◌∷◌, ◌++◌}
use Rattle.ghcn_series.proofs.Cited.{length, map, get_or, Some, refl, sym, ap, ◌∙◌, arith, add-zero, list_any}
use Rattle.ghcn_series.proofs.Cited.{slice_get, count_by, AllZip, AllByRecursion, IsDistinct, list_any-append}
use Rattle.ghcn_series.proofs.Cited.{sum_by_push, or_parts, OnTrue_from, OnTrue_at, and_left, AllZip-long, Prcp, Snow}
use Rattle.ghcn_series.proofs.Cited.{Snwd, Tmax, Tmin, StationId, Station, Element, Keep, Month, same_id, elements}
use Rattle.ghcn_series.proofs.Cited.{same_element, place_of, IsMonth, Gathering, Reader, is_listed, in_64_bits}
use Rattle.ghcn_series.proofs.Cited.{AreByElement, IsStationOf, HasRead, KeepsStation, AddsAt, ReadsMonth}
use Rattle.ghcn_series.proofs.Cited.{same_id-turned}
use Rattle.ghcn_series.proofs.ListFacts.{each-append}
use Rattle.ghcn_series.proofs.StationMonths.{other_elements, has_month-more}
use Rattle.ghcn_series.proofs.Places.{ids, from_ids, listed-is}

-- a month of another station changes nothing of a station
station-other : (asked : Keep) (before : List Month) (m : Month) (id : StationId) (gs : List Gathering)
    → same_id m.id id ≡ false → AreByElement asked before id gs → AreByElement asked (before ++ m ∷ []) id gs
station-other asked before m id [] other is =
    let none : list_any (λ x. same_id x.id id) before ≡ false = is in
    rw (list_any-append (λ x. same_id x.id id) before (m ∷ []), none, other)
station-other asked before m id (g ∷ gs) other is =
    let none = λ (e : Element). and_left (same_id m.id id) (same_element m.element e) other in (
      has_month-more before m id is.0,
      other_elements asked before m id (g ∷ gs) elements
          (none Prcp, (none Snow, (none Snwd, (none Tmax, (none Tmin, tt))))) is.1,
    )

-- stations that keep what they had have it after a month of none of them
stations-other : (asked : Keep) (before : List Month) (m : Month) (ss : List Station) (olds news : List (List Gathering))
    → AllByRecursion (λ i. same_id m.id i ≡ false) (ids ss)
    → ((i : ℕ) → KeepsStation (get_or olds i []) (get_or news i [])) → length news ≡ length olds
    → AllZip (IsStationOf asked before) ss olds → AllZip (IsStationOf asked (before ++ m ∷ [])) ss news
stations-other asked before m [] [] [] other keeps same is = tt
stations-other asked before m [] [] (n ∷ ns) other keeps same is = absurd (omega (arith, same))
stations-other asked before m (s ∷ ss) (o ∷ os) [] other keeps same is = absurd (omega (arith, same))
stations-other asked before m (s ∷ ss) (o ∷ os) (n ∷ ns) other keeps same is = (
  station-other asked before m s.id n other.0 ((keeps 0).holds asked before s.id is.0),
  stations-other asked before m ss os ns other.1 (λ i. keeps (suc i)) (omega (arith, same)) is.1,
)
stations-other asked before m _ _ news other keeps same is = absurd is

-- a month more of the station at a place
put_station : (asked : Keep) (before : List Month) (m : Month) (ss : List Station) (olds news : List (List Gathering))
    (k : ℕ) (s : Station) → IsDistinct same_id (ids ss) → slice_get ss k ≡ Some s → s.id ≡ m.id
    → ((i : ℕ) → (i ≡ k → ⊥) → KeepsStation (get_or olds i []) (get_or news i [])) → length news ≡ length olds
    → AreByElement asked (before ++ m ∷ []) m.id (get_or news k [])
    → AllZip (IsStationOf asked before) ss olds → AllZip (IsStationOf asked (before ++ m ∷ [])) ss news
unfolding IsDistinct
put_station asked before m [] olds news k s apart at of keeps same more is = absurd cc
put_station asked before m (x ∷ xs) [] news k s apart at of keeps same more is = absurd is
put_station asked before m (x ∷ xs) (o ∷ os) [] k s apart at of keeps same more is = absurd (omega (arith, same))
put_station asked before m (x ∷ xs) (o ∷ os) (n ∷ ns) zero s apart at of keeps same more is =
    let this : x ≡ s = cc in let own : x.id ≡ m.id = ap (λ (z : Station). z.id) this ∙ of in (
      rw own more,
      stations-other asked before m xs os ns (rw own at apart.0) (λ i. keeps (suc i) (λ e. absurd (omega (arith, e))))
          (omega (arith, same)) is.1,
    )
put_station asked before m (x ∷ xs) (o ∷ os) (n ∷ ns) (suc k) s apart at of keeps same more is =
    let other : same_id m.id x.id ≡ false = same_id-turned m.id x.id ∙ ap (same_id x.id) (sym of)
    ∙ from_ids (λ i. same_id x.id i ≡ false) xs k s apart.0 at in (
      station-other asked before m x.id n other
          ((keeps 0 (λ e. absurd (omega (arith, e)))).holds asked before x.id is.0),
      put_station asked before m xs os ns k s apart.1 at of (λ i ne. keeps (suc i) (λ e. ne (omega (arith, e))))
          (omega (arith, same)) more is.1,
    )

-- how many months of stations that aren't listed there are
abbrev pub unlisted_months : List Station → List Month → ℕ
unlisted_months stations months = count_by (λ m. not (is_listed stations m.id)) months

-- one month more is counted if its station isn't listed
count_more : (stations : List Station) (before : List Month) (m : Month) (b : Bool) → is_listed stations m.id ≡ b
    → unlisted_months stations (before ++ m ∷ []) ≡ unlisted_months stations before + cond (not b) 1 0
count_more stations before m b is = sum_by_push (λ x. cond (not (is_listed stations x.id)) 1 0) before m
    ∙ ap (λ (c : Bool). unlisted_months stations before + cond (not c) 1 0) is

-- one more, if the number was capped before
pub capped : (n : ℕ) → in_64_bits (in_64_bits n + 1) ≡ in_64_bits (n + 1)
capped n = omega arith

-- what is gathered at a place is what these months say of the station there
station_at : (asked : Keep) (before : List Month) (ss : List Station) (all : List (List Gathering)) (k : ℕ)
    (s : Station) → AllZip (IsStationOf asked before) ss all → slice_get ss k ≡ Some s
    → AreByElement asked before s.id (get_or all k [])
station_at asked before [] all k s are at = absurd cc
station_at asked before (x ∷ xs) [] k s are at = absurd are
station_at asked before (x ∷ xs) (gs ∷ all) zero s are at = let this : x ≡ s = cc in rw (← this) are.0
station_at asked before (x ∷ xs) (gs ∷ all) (suc k) s are at = station_at asked before xs all k s are.1 at

-- what is gathered at the place of an ID is what these months say of it
pub own_months : (before : List Month) (r : Reader) (id : StationId) (k : ℕ) → HasRead r before
    → place_of r.stations id ≡ Some k → AreByElement r.keep before id (get_or r.gathered.stations k [])
own_months before r id k is place =
    let at = listed-is r.stations id k place in
    rw (← at.0.2) (station_at r.keep before r.stations r.gathered.stations k at.0.0 is.gathered at.0.1)

-- a month of a listed station is read
pub read-listed : (old new : Reader) (m : Month) (k : ℕ) (added : Bool) → place_of old.stations m.id ≡ Some k
    → AddsAt old.keep k old.gathered.stations new.gathered.stations m added
    → new.keep ≡ old.keep → new.stations ≡ old.stations → new.unlisted ≡ old.unlisted → IsMonth m
    → ReadsMonth old new m added
read-listed old new m k added place adds element stations unlisted right =
    let at = listed-is old.stations m.id k place in record {
      is_new = λ before is. rw at.1 (adds.own.is_new before (own_months before old m.id k is place));
      holds = λ before is. OnTrue_from added _ (λ yes. record {
        listed = rw stations is.listed;
        right = each-append IsMonth before (m ∷ []) is.right (right, tt);
        unlisted = rw (stations, count_more old.stations before m true at.1, add-zero) (unlisted ∙ is.unlisted);
        gathered = rw (element, stations) (put_station old.keep before m old.stations old.gathered.stations
            new.gathered.stations k at.0.0 is.listed.distinct at.0.1 at.0.2 adds.others adds.number
            (OnTrue_at yes (adds.own.holds before (own_months before old m.id k is place))) is.gathered);
      });
    }

-- a month of a station that isn't listed is skipped and counted
pub read-unlisted : (old new : Reader) (m : Month) → is_listed old.stations m.id ≡ false
    → new.keep ≡ old.keep → new.stations ≡ old.stations → new.gathered ≡ old.gathered
    → new.unlisted ≡ in_64_bits (old.unlisted + 1) → IsMonth m → ReadsMonth old new m true
read-unlisted old new m none element stations gathered unlisted right = record {
  is_new = λ before is. rw none refl;
  holds = λ before is. record {
    listed = rw stations is.listed;
    right = each-append IsMonth before (m ∷ []) is.right (right, tt);
    unlisted = rw (stations, count_more old.stations before m false none, unlisted, is.unlisted)
        (capped (unlisted_months old.stations before));
    gathered = rw (element, stations, gathered) (stations-other old.keep before m old.stations old.gathered.stations
        old.gathered.stations (apart old.stations none) (λ i. record { holds = λ asked ms id of. of }) refl
        is.gathered);
  };
}
  where
    apart : (ss : List Station) → is_listed ss m.id ≡ false → AllByRecursion (λ i. same_id m.id i ≡ false) (ids ss)
    apart [] none = tt
    apart (x ∷ xs) none =
        let both = or_parts (same_id x.id m.id) (is_listed xs m.id) none in
        (same_id-turned m.id x.id ∙ both.0, apart xs both.1)

-- of no station anything is read
pub none_read : (asked : Keep) (ss : List Station) → AllZip (IsStationOf asked []) ss (map (λ s. []) ss)
none_read asked [] = tt
none_read asked (s ∷ ss) = (refl, none_read asked ss)

-- there are as many gatherings as stations
pub as_many_gathered : (before : List Month) (r : Reader) → HasRead r before
    → length r.gathered.stations ≡ length r.stations
as_many_gathered before r is = AllZip-long _ r.stations r.gathered.stations is.gathered

-- a listed station has its gatherings
pub within_gathered : (before : List Month) (r : Reader) (id : StationId) (k : ℕ) → HasRead r before
    → place_of r.stations id ≡ Some k → k < length r.gathered.stations
within_gathered before r id k is place =
    omega (arith, (listed-is r.stations id k place).2, as_many_gathered before r is)

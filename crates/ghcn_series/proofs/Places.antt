-- Stations by their places in the list.
use Rattle.ghcn_series.proofs.Cited.{◌≡◌, ℕ, zero, suc, ◌+◌, ◌<◌, Bool, true, false, cond, not, List, [], ◌∷◌, length}
use Rattle.ghcn_series.proofs.Cited.{map, Some, None, refl, sym, ap, ◌∙◌, arith, ◌||◌, nat_lt, slice_get}
use Rattle.ghcn_series.proofs.Cited.{position_or_len, AllByRecursion, IsDistinct, nat_tests, nat_list_eq_equiv, lt-ltb}
use Rattle.ghcn_series.proofs.Cited.{le-ltb, ltb-true, cond_some, slice_get-map, get_or_from_slice_get, option_map}
use Rattle.ghcn_series.proofs.Cited.{StationId, Station, same_id, is_station_of, place_of, is_listed, same_id-is}
use Rattle.ghcn_series.proofs.Cited.{no_place}
use Rattle.std.proofs.lemmas.List.Quantifiers.{position-Some}
use Rattle.ghcn_series.proofs.ListFacts.{from_all}

-- an ID is the same as itself
pub same_id-refl : (a : StationId) → same_id a a ≡ true
same_id-refl a = nat_list_eq_equiv.refl a.0

-- the IDs of stations
abbrev pub ids : List Station → List StationId
ids stations = map (λ s. s.id) stations

-- what is true of all IDs is true of a station's
pub from_ids : (P : StationId → Type 0) (ss : List Station) (k : ℕ) (s : Station) → AllByRecursion P (ids ss)
    → slice_get ss k ≡ Some s → P s.id
from_ids P ss k s all at =
    from_all P (ids ss) k s.id all (slice_get-map (λ s. s.id) ss k ∙ ap (option_map (λ (s : Station). s.id)) at)

-- if no ID is listed twice, a station is the first of its ID
pub first_place : (ss : List Station) (k : ℕ) (s : Station) → IsDistinct same_id (ids ss) → slice_get ss k ≡ Some s
    → (position_or_len (is_station_of s.id) ss ≡ k) × (k < length ss)
unfolding IsDistinct
first_place [] k s apart at = absurd cc
first_place (x ∷ xs) zero s apart at =
    let same : x ≡ s = cc in (rw (← same, same_id-refl x.id), omega arith)
first_place (x ∷ xs) (suc k) s apart at =
    let more = first_place xs k s apart.1 at in
    let other : same_id x.id s.id ≡ false = from_ids (λ y. same_id x.id y ≡ false) xs k s apart.0 at in
    (rw other (omega (arith, more.0)), omega (arith, more.1))

-- the place of a station's ID is its own
pub place_of-at : (ss : List Station) (k : ℕ) (s : Station) (id : StationId) → IsDistinct same_id (ids ss)
    → slice_get ss k ≡ Some s → s.id ≡ id → place_of ss id ≡ Some k
place_of-at ss k s id apart at of =
    let first = first_place ss k s apart at in rw (← of, first.0, lt-ltb k (length ss) first.1)

-- what comes first has a place, and anything else has one if it has one among those after it
place_next : (b r : Bool) (n m : ℕ) → nat_lt n m ≡ r → nat_lt (cond (not b) (1 + n) 0) (suc m) ≡ (b || r)
place_next true r n m is = lt-ltb 0 (suc m) (omega arith)
place_next false r n m is = rw (← is) (grind (arith, nat_tests))

-- an ID has a place if it is listed
has_place : (ss : List Station) (id : StationId) → nat_lt (position_or_len (is_station_of id) ss) (length ss)
    ≡ is_listed ss id
has_place [] id = refl
has_place (x ∷ xs) id =
    place_next (is_station_of id x) (is_listed xs id) (position_or_len (is_station_of id) xs) (length xs)
    (has_place xs id)

-- an ID without a place isn't listed
pub unlisted-is : (ss : List Station) (id : StationId) → place_of ss id ≡ None → is_listed ss id ≡ false
unlisted-is ss id none = sym (has_place ss id) ∙ le-ltb (position_or_len (is_station_of id) ss) (length ss)
    (no_place ss id none)

-- the station at a place
abbrev pub IsAt : List Station → ℕ → StationId → Type 0
IsAt ss k id = (s : Station) × (slice_get ss k ≡ Some s) × (s.id ≡ id)

-- some station is at a place of the list
pub station_there : (ss : List Station) (k : ℕ) → k < length ss → (s : Station) × (slice_get ss k ≡ Some s)
station_there [] k lt = absurd (omega (arith, lt))
station_there (s ∷ ss) zero lt = (s, refl)
station_there (s ∷ ss) (suc k) lt = station_there ss k (omega (arith, lt))

-- an ID with a place is that of the station there, and it is listed
pub listed-is : (ss : List Station) (id : StationId) (k : ℕ) → place_of ss id ≡ Some k
    → IsAt ss k id × (is_listed ss id ≡ true) × (k < length ss)
listed-is ss id k some =
    let at = cond_some (nat_lt (position_or_len (is_station_of id) ss) (length ss))
    (position_or_len (is_station_of id) ss) k some in
    let lt : k < length ss = omega (arith, ltb-true _ _ at.0, at.1) in
    let there = station_there ss k lt in
    let found = position-Some (is_station_of id) ss k there.0 some in
    let passes = rw (get_or_from_slice_get ss k there.0 there.0 there.1) at found.1 in
    ((there.0, there.1, same_id-is there.0.id id passes), sym (has_place ss id) ∙ at.0, lt)

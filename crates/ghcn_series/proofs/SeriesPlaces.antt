-- The series of a station and an element, in the list at its place.
use Rattle.ghcn_series.proofs.Cited.{◌≡◌, ℕ, zero, suc, ◌+◌, ◌≤◌, get_or, true, false, cond, not, List, [], ◌∷◌, length}
use Rattle.ghcn_series.proofs.Cited.{map, Option, None, Some, refl, sym, ap, ◌∙◌, arith, nat_lt, find, slice_get}
use Rattle.ghcn_series.proofs.Cited.{position_or_len, IsDistinct, AllByRecursion, AllZip, option_or, option_and_then}
use Rattle.ghcn_series.proofs.Cited.{ltb-true, find-append, slice_get_past, slice_get-get_or}
use Rattle.ghcn_series.proofs.Cited.{slice_get-map, AllZip-long, StationId, Station, Element, same_id, is_station_of}
use Rattle.ghcn_series.proofs.Cited.{place_of, Series, Data, is_series_of, series_of, all_of, is_of_element}
use Rattle.ghcn_series.proofs.Cited.{same_id-is, same_id-turned, no_place, each-mapped}
use Rattle.ghcn_series.specs.Held.{lists_by_number}
use Rattle.ghcn_series.proofs.Lookups.{or_none}
use Rattle.ghcn_series.proofs.Places.{ids, first_place, listed-is}
use Rattle.ghcn_series.proofs.ListFacts.{each-append, each-weaker}

-- of the series of one station, an element's is the station's and the element's
find_own : (id own : StationId) (e : Element) (us : List Series) → same_id own id ≡ true
    → AllByRecursion (λ u. u.id ≡ own) us → find (is_series_of id e) us ≡ find (is_of_element e) us
find_own id own e [] is all = refl
find_own id own e (u ∷ us) is all = rw (all.0, is, find_own id own e us is all.1)

-- among the series of other stations there is none
find_none : (id : StationId) (e : Element) (us : List Series) → AllByRecursion (λ u. same_id u.id id ≡ false) us
    → find (is_series_of id e) us ≡ None
find_none id e [] other = refl
find_none id e (u ∷ us) other = rw other.0 (find_none id e us other.1)

-- each list has the series of its station
abbrev pub AreOwn : List Station → List (List Series) → Type 0
AreOwn stations lists = AllZip (λ s series. AllByRecursion (λ u. u.id ≡ s.id) series) stations lists

-- what follows for the series of each station is true of all series
pub in_all : (S : Station → Type 0) (P : Station → Series → Type 0) (Q : Series → Type 0) (ss : List Station)
    (lists : List (List Series)) → ((s : Station) (u : Series) → S s → P s u → Q u) → AllByRecursion S ss
    → AllZip (λ s us. AllByRecursion (P s) us) ss lists → AllByRecursion Q (all_of lists)
in_all S P Q ss [] follows each own = tt
in_all S P Q [] (us ∷ lists) follows each own = absurd own
in_all S P Q (s ∷ ss) (us ∷ lists) follows each own =
    each-append Q us (all_of lists) (each-weaker (P s) Q us (λ u. follows s u each.0) own.0)
    (in_all S P Q ss lists follows each.1 own.1)

-- the series of stations of other IDs
all_other : (id : StationId) (ss : List Station) (lists : List (List Series))
    → AllByRecursion (λ i. same_id id i ≡ false) (ids ss) → AreOwn ss lists
    → AllByRecursion (λ u. same_id u.id id ≡ false) (all_of lists)
all_other id ss lists other own =
    in_all (λ s. same_id id s.id ≡ false) (λ s u. u.id ≡ s.id) (λ u. same_id u.id id ≡ false) ss lists
    (λ s u apart is. rw is (same_id-turned s.id id ∙ apart))
    (each-mapped (λ (s : Station). s.id) (λ (i : StationId). same_id id i ≡ false) ss other) own

-- the series of a station and an element is found in the list at the station's place
pub found_by_place : (id : StationId) (e : Element) (ss : List Station) (lists : List (List Series))
    → IsDistinct same_id (ids ss) → AreOwn ss lists
    → option_and_then (find (is_of_element e)) (slice_get lists (position_or_len (is_station_of id) ss))
    ≡ find (is_series_of id e) (all_of lists)
unfolding IsDistinct
found_by_place id e [] [] apart own = refl
found_by_place id e (s ∷ ss) (us ∷ lists) apart own =
    let place = position_or_len (is_station_of id) ss in
    (elim (same_id s.id id) as (λ b. same_id s.id id ≡ b
    → option_and_then (find (is_of_element e)) (slice_get (us ∷ lists) (cond (not b) (1 + place) 0))
    ≡ option_or (find (is_series_of id e) us) (find (is_series_of id e) (all_of lists))) [
      | true ↦ λ is. let others = all_other id ss lists (rw (same_id-is s.id id is) at apart.0) own.1 in
          rw (find_none id e (all_of lists) others, find_own id s.id e us is own.0)
          (sym (or_none (find (is_of_element e) us)))
      | false ↦ λ is.
          let others = each-weaker (λ (u : Series). u.id ≡ s.id) (λ (u : Series). same_id u.id id ≡ false) us
          (λ u of. rw of is) own.0 in
          let next : 1 + place ≡ suc place = omega arith in
          rw (next, find_none id e us others) (found_by_place id e ss lists apart.1 own.1)
    ] refl) ∙ sym (find-append (is_series_of id e) us (all_of lists))
found_by_place id e _ _ apart own = absurd own

-- ---- as a list at a place is looked up

-- a station that isn't listed has no series
pub none-unlisted : (id : StationId) (e : Element) (ss : List Station) (lists : List (List Series))
    → IsDistinct same_id (ids ss) → AreOwn ss lists → place_of ss id ≡ None
    → None ≡ find (is_series_of id e) (all_of lists)
none-unlisted id e ss lists apart own none =
    let at : ℕ = position_or_len (is_station_of id) ss in
    let beyond : length lists ≤ at = omega (arith, AllZip-long _ ss lists own, no_place ss id none) in
    sym (ap (option_and_then (find (is_of_element e))) (slice_get_past lists at beyond))
    ∙ found_by_place id e ss lists apart own

-- a list ends before a place at which it has nothing
pub past_end : {A : Type 0} (xs : List A) (k : ℕ) → slice_get xs k ≡ None → length xs ≤ k
past_end [] k none = omega arith
past_end (x ∷ xs) zero none = absurd cc
past_end (x ∷ xs) (suc k) none = omega (arith, past_end xs k none)

-- the series of the station at a place are in the list there
pub found-at : (e : Element) (ss : List Station) (lists : List (List Series)) (k : ℕ) (us : Option (List Series))
    → IsDistinct same_id (ids ss) → AreOwn ss lists → us ≡ slice_get lists k
    → option_and_then (find (is_of_element e)) us
    ≡ option_and_then (λ (s : Station). find (is_series_of s.id e) (all_of lists)) (slice_get ss k)
found-at e ss lists k us apart own is =
    elim (slice_get ss k) as (λ o. slice_get ss k ≡ o → option_and_then (find (is_of_element e)) us
    ≡ option_and_then (λ (s : Station). find (is_series_of s.id e) (all_of lists)) o) [
      | None ↦ λ none. rw (is, slice_get_past lists k (omega (arith, AllZip-long _ ss lists own, past_end ss k none)))
      | Some s ↦ λ at. ap (option_and_then (find (is_of_element e)))
          (is ∙ ap (slice_get lists) (sym (first_place ss k s apart at).0)) ∙ found_by_place s.id e ss lists apart own
    ] refl

-- the series of the station at a place
abbrev pub at_place : Data → Element → ℕ → Option Series
at_place all e k = option_and_then (λ (s : Station). series_of all s.id e) (slice_get all.stations k)

-- at the place of an ID they are that ID's
pub listed-at : (all : Data) (id : StationId) (e : Element) (k : ℕ) → place_of all.stations id ≡ Some k
    → at_place all e k ≡ series_of all id e
listed-at all id e k place =
    let at = listed-is all.stations id k place in rw at.0.1 (ap (λ (i : StationId). series_of all i e) at.0.2)

-- what is found at a place of a list of lists
pub list-there : {V : Type 0} (items : V → List Series) (vs : List V) (k : ℕ) (v : V) → nat_lt k (length vs) ≡ true
    → v ≡ get_or vs k v → Some (items v) ≡ slice_get (map items vs) k
list-there items vs k v lt is = rw (slice_get-map items vs k, slice_get-get_or vs k v (ltb-true k (length vs) lt), ← is)

-- the list of a number that isn't 0 is at the number's place
pub list-numbered : (lists : List (List Series)) (numbers : List ℕ) (k n i : ℕ) → nat_lt k (length numbers) ≡ true
    → n ≡ get_or numbers k n → n ≡ suc i → Some (get_or lists i []) ≡ slice_get (lists_by_number lists numbers) k
list-numbered lists numbers k n i lt is next =
    ap (λ (m : ℕ). Some (get_or ([] ∷ lists) m [])) (sym next)
    ∙ list-there (λ m. get_or ([] ∷ lists) m []) numbers k n lt is

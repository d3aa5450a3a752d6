-- Laws of IDs: when two are the same, and which place the station of an ID has.
use Rattle.std.proofs.Common.{◌≡◌, ℕ, ◌≤◌, Bool, true, false, cond, List, length, Some, None, refl, ap, arith}
use Rattle.std.specs.Prelude.{nat_lt}
use Rattle.std.specs.List.{position_or_len}
use Rattle.std.specs.Cmp.{IsEquivalence}
use Rattle.std.proofs.lemmas.Bool.Decides.{Decides-eqb, nat_tests}
use Rattle.std.proofs.lemmas.Cmp.{nat_list_eq_equiv}
use Rattle.std.proofs.lemmas.Slice.Eq.{slice_eq-Decides}
use Rattle.ghcn_files.specs.declared.station.StationId.{StationId}
use Rattle.ghcn_files.specs.declared.station.Station.{Station}
use Rattle.ghcn_files.specs.Meaning.Ids.{same_id}
use Rattle.ghcn_files.specs.Meaning.Listed.{is_station_of}
use Rattle.ghcn_files.specs.Listed.{place_of}

-- either of two IDs may come first
pub same_id-turned : (a b : StationId) → same_id a b ≡ same_id b a
same_id-turned a b = nat_list_eq_equiv.symm a.0 b.0

-- IDs are the same as a relation of equals
pub same_id-laws : IsEquivalence same_id
same_id-laws = record {
  refl = λ a. nat_list_eq_equiv.refl a.0;
  symm = same_id-turned;
  congr = λ a b c. nat_list_eq_equiv.congr a.0 b.0 c.0;
}

-- IDs that are the same by their bytes are the same
pub same_id-is : (a b : StationId) → same_id a b ≡ true → a ≡ b
same_id-is a b e =
    let make : List ℕ → StationId = λ bytes. record { 0 = bytes } in
    ap make ((slice_eq-Decides Decides-eqb a.0 b.0 (same_id a b) refl).0 e)

-- the place of an ID, if it has one
pub place_is : (ss : List Station) (id : StationId) (k : ℕ) → place_of ss id ≡ Some k
    → position_or_len (is_station_of id) ss ≡ k
place_is ss id k at = by (nat_lt _ _) at
  where
    by : (b : Bool) → cond b (Some (position_or_len (is_station_of id) ss)) None ≡ Some k
        → position_or_len (is_station_of id) ss ≡ k
    by true e = cc
    by false e = absurd cc

-- an ID without a place isn't found before the end
pub no_place : (ss : List Station) (id : StationId) → place_of ss id ≡ None
    → length ss ≤ position_or_len (is_station_of id) ss
no_place ss id none = by (nat_lt _ _) refl none
  where
    by : (b : Bool) → nat_lt (position_or_len (is_station_of id) ss) (length ss) ≡ b
        → cond b (Some (position_or_len (is_station_of id) ss)) None ≡ None
        → length ss ≤ position_or_len (is_station_of id) ss
    by true is e = absurd cc
    by false is e = grind (arith, nat_tests)

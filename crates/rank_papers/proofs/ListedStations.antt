-- What is true of listed stations and of their names.
use Rattle.std.proofs.Common.{◌≡◌, ℕ, zero, suc, ◌-◌, ◌<◌, Bool, true, false, cond, not, List, [], ◌∷◌, length, take, reverse, get_or, Option, Some, refl, sym, ap, ◌∙◌, subst, arith}
use Rattle.std.specs.Prelude.{◌==◌, ◌&&◌, slice_get, nat_le}
use Rattle.std.specs.List.{find, list_all, prefix_len, suffix_len}
use Rattle.std.specs.Option.{option_map_or}
use Rattle.std.proofs.lemmas.Bool.{le-leb, eqb-true, and_parts}
use Rattle.std.proofs.lemmas.List.{get_or-reverse, get_or-take, length-reverse, length-take-le}
use Rattle.std.proofs.lemmas.List.Sums.{prefix_len_stops}
use Rattle.std.proofs.lemmas.Option.{slice_get-get_or}
use Rattle.ghcn_fields.specs.declared.field.Field.TheVariants.{Number}
use Rattle.ghcn_files.specs.declared.station.Station.{Station}
use Rattle.ghcn_files.specs.declared.station.StationId.{StationId}
use Rattle.ghcn_files.specs.Ids.{is_id}
use Rattle.ghcn_files.proofs.IdLaws.{same_id-is}
use Rattle.ghcn_files.specs.Meaning.Listed.{is_station_of}
use Rattle.ghcn_files.specs.Meaning.StationLines.{is_printable}
use Rattle.ghcn_files.specs.StationLines.{is_station, is_latitude, is_longitude}
use Rattle.rank_papers.specs.Meaning.Report.{trimmed}
use Rattle.rank_papers.specs.ReportLines.{is_name, ends_in_print}

-- ---- a station of the list

-- its ID is visible, and its name is thirty bytes that can be printed
pub record HasFields (s : Station) : Type 0 where
  pub id : is_id s.id.0 ≡ true
  pub name : list_all is_printable s.name ≡ true
  pub thirty : length s.name ≡ 30

-- a station that is right has such fields
pub station_fields : (s : Station) → is_station s ≡ true → HasFields s
station_fields s h =
    let a : Bool = is_id s.id.0 in
    let north : Bool = is_latitude (Number s.latitude) in
    let east : Bool = is_longitude (Number s.longitude) in
    let state : Bool = list_all is_printable s.state in
    let name : Bool = list_all is_printable s.name in
    let six = and_parts (is_id s.id.0 && north && east && state && name) (length s.name == 30) h in
    let five = and_parts (is_id s.id.0 && north && east && state) (list_all is_printable s.name) six.0 in
    let four = and_parts (is_id s.id.0 && north && east) state five.0 in
    let three = and_parts (is_id s.id.0 && north) east four.0 in
    record {
      id = (and_parts (is_id s.id.0) north three.0).0;
      name = five.1;
      thirty = eqb-true (length s.name) 30 six.1;
    }

-- the station that is found by an ID has it, and is right if all are
pub found_station : (id : StationId) (sts : List Station) (s : Station) → list_all is_station sts ≡ true
    → find (is_station_of id) sts ≡ Some s → (is_station s ≡ true) × (s.id ≡ id)
found_station id [] s h e = absurd cc
found_station id (x ∷ xs) s h e =
    let both = and_parts (is_station x) (list_all is_station xs) h in
    elim (is_station_of id x) as (λ b. is_station_of id x ≡ b
    → cond b (Some x) (find (is_station_of id) xs) ≡ Some s → (is_station s ≡ true) × (s.id ≡ id)) [
      | true ↦ λ t f. let same : x ≡ s = cc in
          subst (λ (y : Station). (is_station y ≡ true) × (y.id ≡ id)) same (both.0, same_id-is x.id id t)
      | false ↦ λ t f. found_station id xs s both.1 f
    ] refl e

-- ---- names

-- the first of bytes that pass, pass
passes-take : (p : ℕ → Bool) (n : ℕ) (xs : List ℕ) → list_all p xs ≡ true → list_all p (take n xs) ≡ true
passes-take p zero xs h = refl
passes-take p (suc n) [] h = refl
passes-take p (suc n) (x ∷ xs) h =
    let both = and_parts (p x) (list_all p xs) h in
    ap (λ (t : Bool). t && list_all p (take n xs)) both.0 ∙ passes-take p n xs both.1

-- a blank
abbrev is_blank : ℕ → Bool
is_blank b = b == 32

-- how many bytes are left without the blanks at the end
abbrev left : List ℕ → ℕ
left bytes = length bytes - suffix_len is_blank bytes

-- that many
length-trimmed : (bytes : List ℕ) → length (trimmed bytes) ≡ length bytes - suffix_len (λ b. b == 32) bytes
length-trimmed bytes = length-take-le (length bytes - suffix_len (λ b. b == 32) bytes) bytes (omega arith)

-- the last of them isn't a blank
last_no_blank : (bytes : List ℕ) → 0 < left bytes → is_blank (get_or bytes (left bytes - 1) 0) ≡ false
last_no_blank bytes some =
    let inside : prefix_len is_blank (reverse bytes) < length bytes = omega (arith, some) in
    let low : prefix_len is_blank (reverse bytes) < length (reverse bytes) =
    omega (arith, inside, length-reverse bytes) in
    let place : length bytes - 1 - prefix_len is_blank (reverse bytes) ≡ left bytes - 1 = omega arith in
    ap (λ (i : ℕ). is_blank (get_or bytes i 0)) (sym place)
    ∙ ap is_blank (sym (get_or-reverse bytes (prefix_len is_blank (reverse bytes)) 0 inside))
    ∙ prefix_len_stops is_blank (reverse bytes) 0 low

-- so such a text is empty, or its last byte isn't a blank
trimmed_ends : (bytes : List ℕ) → ends_in_print (trimmed bytes) ≡ true
trimmed_ends bytes = by (left bytes) refl
  where
    long : length (trimmed bytes) ≡ left bytes
    long = length-trimmed bytes

    none : (xs : List ℕ) → length xs ≡ 0 → ends_in_print xs ≡ true
    none [] e = refl
    none (x ∷ xs) e = absurd (omega (arith, e))

    by : (n : ℕ) → left bytes ≡ n → ends_in_print (trimmed bytes) ≡ true
    by zero e = none (trimmed bytes) (long ∙ e)
    by (suc n) e =
        let some : 0 < left bytes = omega (arith, e) in
        let place : length (trimmed bytes) - 1 ≡ left bytes - 1 = omega (arith, long) in
        let inside : left bytes - 1 < length (trimmed bytes) = omega (arith, long, some) in
        let before : left bytes - 1 < left bytes = omega (arith, some) in
        let there : slice_get (trimmed bytes) (length (trimmed bytes) - 1) ≡ Some (get_or bytes (left bytes - 1) 0) =
        ap (slice_get (trimmed bytes)) place ∙ slice_get-get_or (trimmed bytes) (left bytes - 1) 0 inside
        ∙ ap (λ (b : ℕ). Some b) (get_or-take (left bytes) bytes (left bytes - 1) 0 before) in
        ap (λ (o : Option ℕ). option_map_or (λ b. not (b == 32)) o (nat_le (length (trimmed bytes)) 0)) there
        ∙ ap not (last_no_blank bytes some)

-- the name of a right station without the blanks at its end is one that a row can have
pub trimmed_name : (s : Station) → HasFields s → is_name (trimmed s.name) ≡ true
trimmed_name s is =
    let few : nat_le (length (trimmed s.name)) 30 ≡ true =
    le-leb (length (trimmed s.name)) 30 (omega (arith, length-trimmed s.name, is.thirty)) in
    ap (λ (t : Bool). t && list_all is_printable (trimmed s.name) && ends_in_print (trimmed s.name)) few
    ∙ ap (λ (t : Bool). t && ends_in_print (trimmed s.name))
    (passes-take is_printable (length s.name - suffix_len (λ b. b == 32) s.name) s.name is.name)
    ∙ trimmed_ends s.name

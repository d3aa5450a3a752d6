-- A list that is read at once: the stations of lines that have no error by themselves, and the keys of their IDs.
use Rattle.std.proofs.Common.{◌≡◌, ℕ, suc, ◌+◌, ◌<◌, ◌≤◌, ◌^◌, Bool, true, false, List, [], ◌∷◌, ◌++◌, length, map, take}
use Rattle.std.proofs.Common.{get_or, Option, None, Ok, refl, sym, ap, subst, ◌∙◌, arith, is_some, length-append}
use Rattle.std.proofs.Common.{true≢false, append_assoc}
use Rattle.std.specs.Prelude.{◌&&◌}
use Rattle.std.specs.List.{All, IsDistinct, list_all}
use Rattle.std.specs.List.Sorted.{IsPermutation}
use Rattle.std.specs.Ordering.{eq_by_cmp, is_eq}
use Rattle.std.proofs.lemmas.Bool.{lt-ltb}
use Rattle.std.proofs.lemmas.List.{append-nil, get_or-map, get_or_append_left, length-map, length_push}
use Rattle.std.proofs.lemmas.List.Elements.{All-head, All-push, All-tail}
use Rattle.std.proofs.lemmas.List.Sorted.{IsPermutation-map, IsPermutation-sym}
use Rattle.std.proofs.lemmas.Map.Keys.{IsDistinct-from_apart, IsDistinct-from_sorted, IsDistinct-IsPermutation}
use Rattle.std.proofs.lemmas.Map.Keys.{apart_from_distinct, sorted_from_all_adjacent}
use Rattle.ghcn_fields.specs.Meaning.Bytes.{is_blank}
use Rattle.ghcn_fields.specs.Faults.{first_fault, HaveNoFault}
use Rattle.ghcn_files.specs.declared.station.StationId.{StationId}
use Rattle.ghcn_files.specs.declared.station.Station.{Station}
use Rattle.ghcn_files.specs.declared.fault.StationsFault.{StationsFault}
use Rattle.ghcn_files.specs.Meaning.Ids.{same_id}
use Rattle.ghcn_files.specs.StationLines.{id_of, is_station, line_why, station_of}
use Rattle.ghcn_files.specs.Listed.{AreListed, ListLines, Numbered, listed_unless, place_of, station_fault}
use Rattle.ghcn_files.specs.Listed.{station_lines, stations_of}
use Rattle.ghcn_files.specs.KeptStations.{AreOrdered, AreTaken, IsAdded, Rise, id_key, key_cmp, key_of, key_with_place}
use Rattle.ghcn_files.specs.KeptStations.{keys_from}
use Rattle.ghcn_files.proofs.FaultLaws.{first_fault-none}
use Rattle.ghcn_files.proofs.IdLaws.{same_id-is}
use Rattle.ghcn_files.proofs.ById.{has_place, key_itself}
use Rattle.ghcn_files.proofs.Adding.{fault_of_right_line, station_of-right}
use Rattle.ghcn_files.proofs.OrderedKeys.{apart, keys_from-push, keys_total, no_place_by}
use Rattle.ghcn_files.proofs.ReadLines.{lines_more, not_blank, not_blank-blank, not_blank-line, stations-push}

-- a line has no error by itself
abbrev pub IsRight : Numbered → Type 0
IsRight l = line_why l.1 ≡ None

-- how far a loop has come: the first k lines have no error by themselves, and their stations are held after others, with
-- the keys of all
pub record HasGathered (before : List Station) (all : List Numbered) (k : ℕ) (held : List Station)
    (keys : List (ℕ × ℕ × ℕ)) : Type 0 where
  pub held_is : held ≡ before ++ stations_of (not_blank (take k all))
  pub right : All IsRight (not_blank (take k all))
  pub few : length held ≤ 2 ^ 20
  pub own : keys ≡ keys_from 0 held

-- the others alone are held before the first line
pub none_gathered : (before : List Station) (all : List Numbered) (keys : List (ℕ × ℕ × ℕ)) → AreTaken before keys
    → HasGathered before all 0 before keys
none_gathered before all keys taken = record {
  held_is = sym (append-nil before);
  right = λ k d lt. absurd (omega (arith, lt));
  few = taken.few;
  own = taken.own;
}

-- past a blank line as much is held
pub past_blank : (before : List Station) (all : List Numbered) (k : ℕ) (held more : List Station)
    (keys longer : List (ℕ × ℕ × ℕ)) (l : Numbered) → k < length all → l ≡ get_or all k l → is_blank l.1 ≡ true
    → more ≡ held → longer ≡ keys → HasGathered before all k held keys → HasGathered before all (k + 1) more longer
past_blank before all k held more keys longer l lt is blank stay keep h =
    let same : not_blank (take (k + 1) all) ≡ not_blank (take k all) =
    lines_more all k l lt is ∙ ap (λ (zs : List Numbered). not_blank (take k all) ++ zs) (not_blank-blank l blank)
    ∙ append-nil (not_blank (take k all)) in
    record {
      held_is = stay ∙ h.held_is ∙ ap (λ (ls : List Numbered). before ++ stations_of ls) (sym same);
      right = subst (All IsRight) (sym same) h.right;
      few = omega (arith, h.few, ap (λ (ss : List Station). length ss) stay);
      own = keep ∙ h.own ∙ ap (keys_from 0) (sym stay);
    }

-- past any other line its station is held too
pub past_line : (before : List Station) (all : List Numbered) (k : ℕ) (held more : List Station)
    (keys longer : List (ℕ × ℕ × ℕ)) (l : Numbered) → k < length all → l ≡ get_or all k l → is_blank l.1 ≡ false
    → IsAdded l.1 held keys more longer → HasGathered before all k held keys
    → HasGathered before all (k + 1) more longer
past_line before all k held more keys longer l lt is shown adds h =
    let next : not_blank (take (k + 1) all) ≡ not_blank (take k all) ++ l ∷ [] = lines_more all k l lt is
    ∙ ap (λ (zs : List Numbered). not_blank (take k all) ++ zs) (not_blank-line l [] shown) in
    let place : 0 + length held ≡ length held = omega arith in
    record {
      held_is = adds.station ∙ ap (λ (ss : List Station). ss ++ station_of l.1 ∷ []) h.held_is
          ∙ append_assoc before (stations_of (not_blank (take k all))) (station_of l.1 ∷ [])
          ∙ ap (λ (ss : List Station). before ++ ss)
          (sym (stations-push (not_blank (take k all)) l) ∙ ap stations_of (sym next));
      right = subst (All IsRight) (sym next) (All-push IsRight (not_blank (take k all)) l h.right adds.right);
      few = omega (arith, ap (λ (ss : List Station). length ss) adds.station, length_push held (station_of l.1), adds.room);
      own = adds.key
          ∙ ap (λ (ks : List (ℕ × ℕ × ℕ)). ks ++ key_with_place (id_of l.1) (length held) ∷ []) h.own
          ∙ ap (λ (n : ℕ). keys_from 0 held ++ key_with_place (id_of l.1) n ∷ []) (sym place)
          ∙ sym (keys_from-push 0 held (station_of l.1))
          ∙ ap (keys_from 0) (sym adds.station);
    }

-- ---- no two stations have one ID

-- the IDs of stations
abbrev pub ids : List Station → List StationId
ids ss = map (λ s. s.id) ss

-- their keys without places are those of the IDs
pub keys-ids : (n : ℕ) (ss : List Station) → map id_key (keys_from n ss) ≡ map (λ id. key_of id.0) (ids ss)
keys-ids n [] = refl
keys-ids n (s ∷ ss) = ap (λ (ks : List (ℕ × ℕ)). key_of s.id.0 ∷ ks) (keys-ids (suc n) ss)

-- keys compare as equal the other way round too
pub equal-turned : (a b : ℕ × ℕ) → eq_by_cmp key_cmp a b ≡ eq_by_cmp key_cmp b a
equal-turned a b = grind (arith, keys_total.antisymm)

-- keys that rise differ
keys_differ : (keys : List (ℕ × ℕ × ℕ)) → Rise keys → IsDistinct (eq_by_cmp key_cmp) (map id_key keys)
keys_differ keys rise =
    let d : ℕ × ℕ × ℕ = (0, 0, 0) in
    let at = λ (k : ℕ) (lt : k < length keys). get_or-map id_key keys k d (0, 0) lt in
    IsDistinct-from_sorted key_cmp (map id_key keys) (sorted_from_all_adjacent keys_total (map id_key keys) (0, 0)
    (λ k lt.
    let low : k + 1 < length keys = omega (arith, lt, length-map keys id_key) in
    ap (λ (x : ℕ × ℕ). key_cmp x (get_or (map id_key keys) (k + 1) (0, 0))) (at k (omega arith))
    ∙ ap (key_cmp (id_key (get_or keys k d))) (at (k + 1) low)
    ∙ rise k d low))

-- so do the IDs of the stations that have the keys
pub ids_differ : (ss : List Station) (keys : List (ℕ × ℕ × ℕ)) → IsPermutation (keys_from 0 ss) keys → Rise keys
    → IsDistinct same_id (ids ss)
ids_differ ss keys own rise =
    let number = λ (id : StationId). key_of id.0 in
    let moved = IsPermutation-sym (map id_key (keys_from 0 ss)) (map id_key keys)
    (IsPermutation-map id_key (keys_from 0 ss) keys own) in
    let differ : IsDistinct (eq_by_cmp key_cmp) (map number (ids ss)) =
    subst (IsDistinct (eq_by_cmp key_cmp)) (keys-ids 0 ss)
    (IsDistinct-IsPermutation (eq_by_cmp key_cmp) equal-turned (map id_key keys) (map id_key (keys_from 0 ss)) moved
    (keys_differ keys rise)) in
    IsDistinct-from_apart same_id (ids ss) (λ i j d before lt.
    let a : StationId = get_or (ids ss) i d in
    let b : StationId = get_or (ids ss) j d in
    let far : eq_by_cmp key_cmp (number a) (number b) ≡ false =
    ap (λ (x : ℕ × ℕ). eq_by_cmp key_cmp x (number b)) (sym (get_or-map number (ids ss) i d (number d) (omega arith)))
    ∙ ap (eq_by_cmp key_cmp (get_or (map number (ids ss)) i (number d)))
    (sym (get_or-map number (ids ss) j d (number d) lt))
    ∙ apart_from_distinct (eq_by_cmp key_cmp) (map number (ids ss)) i j (number d) differ before
    (omega (arith, lt, length-map (ids ss) number)) in
    elim (same_id a b) as (λ t. same_id a b ≡ t → t ≡ false) [
      | true ↦ λ e. absurd (true≢false (sym (key_itself (number b))
          ∙ ap (λ (x : StationId). is_eq (key_cmp (number x) (number b))) (sym (same_id-is a b e)) ∙ far))
      | false ↦ λ e. refl
    ] refl)

-- ---- no line has an error

-- the stations of right lines are right
pub right_stations : (ls : List Numbered) → All IsRight ls → list_all is_station (stations_of ls) ≡ true
right_stations [] right = refl
right_stations (l ∷ ls) right =
    ap (λ (b : Bool). b && list_all is_station (stations_of ls))
    (station_of-right l.1 (All-head IsRight l ls right))
    ∙ right_stations ls (All-tail IsRight l ls right)

-- what is true of each line is true of one between others
right_between : (before : List Numbered) (l : Numbered) (behind : List Numbered) → All IsRight (before ++ l ∷ behind)
    → IsRight l
right_between [] l behind right = All-head IsRight l behind right
right_between (b ∷ bs) l behind right = right_between bs l behind (All-tail IsRight b (bs ++ l ∷ behind) right)

-- the stations of lines and more lines
pub stations-append : (xs ys : List Numbered) → stations_of (xs ++ ys) ≡ stations_of xs ++ stations_of ys
stations-append [] ys = refl
stations-append (x ∷ xs) ys = ap (λ (ss : List Station). station_of x.1 ∷ ss) (stations-append xs ys)

-- the first of what follows some elements
after_others : (xs : List Station) (s d : Station) (ys : List Station) → get_or (xs ++ s ∷ ys) (length xs) d ≡ s
after_others [] s d ys = refl
after_others (x ∷ xs) s d ys = after_others xs s d ys

-- lines that are right by themselves, whose stations are listed, have no error
pub no_faults : (ls : List Numbered) → All IsRight ls → AreListed (stations_of ls) → HaveNoFault station_fault ls
no_faults ls right listed = record {
  none = λ before l behind e.
      let held : List Station = stations_of before in
      let id : StationId = id_of l.1 in
      let whole : stations_of ls ≡ held ++ station_of l.1 ∷ stations_of behind =
      ap stations_of e ∙ stations-append before (l ∷ behind) in
      let rest : List Station = station_of l.1 ∷ stations_of behind in
      let all : AreListed (held ++ rest) = subst AreListed whole listed in
      let long : length (held ++ rest) ≡ length held + suc (length (stations_of behind)) = length-append held rest in
      let none : place_of held id ≡ None = no_place_by held id (λ k d lt.
      ap (λ (s : Station). same_id s.id id) (sym (get_or_append_left held rest d k lt))
      ∙ ap (λ (s : Station). same_id (get_or (held ++ rest) k d).id s.id)
      (sym (after_others held (station_of l.1) d (stations_of behind)))
      ∙ apart (held ++ rest) k (length held) d all lt (omega (arith, long))) in
      fault_of_right_line before l.0 l.1 held id false true refl
      (right_between before l behind (subst (All IsRight) e right)) refl
      (sym (has_place held id) ∙ ap is_some none)
      (lt-ltb (length held) (2 ^ 20) (omega (arith, long, all.few)));
}

-- listed stations are the list of each text of whose lines they are
pub list_lines : (held : List Station) → AreListed held → ListLines held
list_lines held are text of =
    let none : first_fault station_fault (station_lines text) ≡ None = first_fault-none station_fault (station_lines text)
    (no_faults (station_lines text) of.right (subst AreListed of.all are)) in
    ap (λ (o : Option (Numbered × StationsFault)). listed_unless o (station_lines text)) none
    ∙ ap (λ (ss : List Station). Ok ss) (sym of.all)

-- stations that were taken, whose keys rise in some order, are kept with these
pub ordered_taken : (held rest : List Station) (keys sorted : List (ℕ × ℕ × ℕ)) → rest ≡ [] → AreTaken held keys
    → IsPermutation keys sorted → Rise sorted → AreOrdered (held ++ rest) sorted
ordered_taken held rest keys sorted none taken moved rise =
    let own : IsPermutation (keys_from 0 held) sorted =
    subst (λ (ks : List (ℕ × ℕ × ℕ)). IsPermutation ks sorted) taken.own moved in
    subst (λ (ss : List Station). AreOrdered ss sorted)
    (sym (ap (λ (ss : List Station). held ++ ss) none ∙ append-nil held))
    (record {
      list = record { distinct = ids_differ held sorted own rise; few = taken.few; right = taken.right };
      rise = rise;
      own = own;
    })

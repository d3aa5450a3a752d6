-- Stations by the places of their IDs.
use Rattle.std.proofs.Common.{◌≡◌, ℕ, zero, suc, ◌<◌, ◌-◌, min, take, drop, get_or, ◌+◌, ◌≤◌, Bool, true, false, cond}
use Rattle.std.proofs.Common.{not, List, [], ◌∷◌, ◌++◌, length, Option, Some, None, refl, sym, ap, ◌∙◌, arith}
use Rattle.std.proofs.Common.{true≢false, is_some}
use Rattle.std.specs.Prelude.{nat_lt, ◌==◌, ◌||◌, ◌&&◌}
use Rattle.std.specs.List.{find, slice_get, position_or_len, list_any, list_all}
use Rattle.std.specs.Option.{option_or}
use Rattle.std.specs.declared.cmp.Ordering.{Ordering}
use Rattle.std.specs.declared.cmp.Ordering.TheVariants.{Less, Equal, Greater}
use Rattle.std.specs.Int.{to_be_bytes, w32, w64}
use Rattle.std.specs.Ordering.{is_eq, nat_cmp, ordering_then}
use Rattle.std.proofs.lemmas.Bool.Decides.{nat_tests}
use Rattle.std.proofs.lemmas.List.{length_push, length-take, length-drop, take-append-drop}
use Rattle.std.proofs.lemmas.List.Folds.{find_at, position_or_len_push}
use Rattle.std.proofs.lemmas.List.Sums.{prefix_len-le-length}
use Rattle.std.proofs.lemmas.Nat.{be_bytes_4, be_bytes_8}
use Rattle.std.proofs.lemmas.Option.{slice_get_past}
use Rattle.ghcn_files.specs.declared.station.StationId.{StationId}
use Rattle.ghcn_files.specs.declared.station.Station.{Station}
use Rattle.ghcn_files.specs.Meaning.Ids.{same_id, is_visible}
use Rattle.ghcn_files.specs.Ids.{is_id}
use Rattle.ghcn_files.proofs.IdLaws.{same_id-laws, same_id-is, place_is, no_place}
use Rattle.ghcn_files.specs.Meaning.Listed.{is_station_of}
use Rattle.ghcn_files.specs.Listed.{place_of}
use Rattle.ghcn_files.specs.KeptStations.{key_of, key_cmp, AreEleven}

-- ---- the station at a place that was found

-- the station at the place of an ID is the first that has it
pub found-at_place : (ss : List Station) (id : StationId) (k : ℕ) → place_of ss id ≡ Some k
    → slice_get ss k ≡ find (is_station_of id) ss
found-at_place ss id k at = ap (slice_get ss) (sym (place_is ss id k at)) ∙ sym (find_at (is_station_of id) ss)

-- an ID without a place isn't any station's
pub none-without_place : (ss : List Station) (id : StationId) → place_of ss id ≡ None
    → None ≡ find (is_station_of id) ss
none-without_place ss id none = sym (find_at (is_station_of id) ss ∙ slice_get_past ss _ (no_place ss id none))

-- ---- whether an ID has a place

-- both sides of an order one greater
stepped : (n m : ℕ) → nat_lt (1 + n) (suc m) ≡ nat_lt n m
stepped n m = grind (arith, nat_tests)

-- 0 is below any number's next
first : (m : ℕ) → nat_lt 0 (suc m) ≡ true
first m = grind (arith, nat_tests)

-- an element is found before the end if the list has one
at_or_past : (p : Station → Bool) (ss : List Station) → nat_lt (position_or_len p ss) (length ss) ≡ list_any p ss
at_or_past p [] = refl
at_or_past p (s ∷ ss) = by (p s) (at_or_past p ss)
  where
    by : (b : Bool) → nat_lt (position_or_len p ss) (length ss) ≡ list_any p ss
        → nat_lt (cond (not b) (1 + position_or_len p ss) 0) (length (s ∷ ss)) ≡ (b || list_any p ss)
    by true rest = first (length ss)
    by false rest = stepped (position_or_len p ss) (length ss) ∙ rest

-- a value under a test is there if the test holds
some_if : (b : Bool) (n : ℕ) → is_some (cond b (Some n) None) ≡ b
some_if true n = refl
some_if false n = refl

-- an ID has a place if a station has it
pub has_place : (ss : List Station) (id : StationId) → is_some (place_of ss id) ≡ list_any (is_station_of id) ss
has_place ss id = some_if _ _ ∙ at_or_past (is_station_of id) ss

-- what has nothing is nothing
pub not_found : (o : Option ℕ) → is_some o ≡ false → o ≡ None
not_found None e = refl
not_found (Some n) e = absurd (true≢false e)

-- ---- one station more

-- the place of an element that is found before the end, or last
at_end : (n m k long : ℕ) (there last : Bool) → n ≤ m → nat_lt n m ≡ there → k ≡ cond (n == m) (m + cond last 0 1) n
    → long ≡ m + 1
    → cond (nat_lt k long) (Some k) None ≡ option_or (cond there (Some n) None) (cond last (Some m) None)
at_end n m k long true last le lt is e = grind (arith, nat_tests, lt, is, e)
at_end n m k long false true le lt is e = grind (arith, nat_tests, le, lt, is, e)
at_end n m k long false false le lt is e = grind (arith, nat_tests, le, lt, is, e)

-- none adds nothing
or_none : (o : Option ℕ) → option_or o None ≡ o
or_none None = refl
or_none (Some n) = refl

-- the place of an ID with one station more
place-push : (ss : List Station) (s : Station) (id : StationId)
    → place_of (ss ++ s ∷ []) id ≡ option_or (place_of ss id) (cond (same_id s.id id) (Some (length ss)) None)
place-push ss s id =
    let test = is_station_of id in
    let n = position_or_len test ss in
    at_end n (length ss) _ _ (nat_lt n (length ss)) (same_id s.id id)
    (prefix_len-le-length (λ x. not (test x)) ss) refl (position_or_len_push test ss s) (length_push ss s)

-- ---- keys

-- the first of some bytes are bytes
pub first_bytes : (n : ℕ) (bs : List ℕ) → ((i : ℕ) → get_or bs i 0 < 256) → (i : ℕ) → get_or (take n bs) i 0 < 256
first_bytes zero bs fits i = omega arith
first_bytes (suc n) [] fits i = omega arith
first_bytes (suc n) (b ∷ bs) fits zero = fits 0
first_bytes (suc n) (b ∷ bs) fits (suc i) = first_bytes n bs (λ j. fits (suc j)) i

-- and so are those after them
pub last_bytes : (n : ℕ) (bs : List ℕ) → ((i : ℕ) → get_or bs i 0 < 256) → (i : ℕ) → get_or (drop n bs) i 0 < 256
last_bytes zero bs fits i = fits i
last_bytes (suc n) [] fits i = omega arith
last_bytes (suc n) (b ∷ bs) fits i = last_bytes n bs (λ j. fits (suc j)) i

-- one more is left out
one_more : (n : ℕ) (bs : List ℕ) → drop (suc n) bs ≡ drop 1 (drop n bs)
one_more zero bs = refl
one_more (suc n) [] = refl
one_more (suc n) (b ∷ bs) = one_more n bs

-- the first eight of eleven
pub front_length : (bs : List ℕ) → length bs ≡ 11 → length (take 8 bs) ≡ 8
front_length bs e = length-take 8 bs ∙ ap (min 8) e

-- the last four of eleven
pub back_length : (bs : List ℕ) → length bs ≡ 11 → length (drop 7 bs) ≡ 4
back_length bs e = length-drop 7 bs ∙ ap (λ (n : ℕ). n - 7) e

-- IDs with one key are the same
same_key : (a b : StationId) → AreEleven a.0 → AreEleven b.0 → key_of a.0 ≡ key_of b.0 → a ≡ b
same_key a b p q e =
    let front : take 8 a.0 ≡ take 8 b.0 =
    sym (be_bytes_8 (take 8 a.0) (key_of a.0).0 (front_length a.0 p.0) (first_bytes 8 a.0 p.1) refl)
    ∙ ap (λ (k : ℕ × ℕ). to_be_bytes w64 k.0) e
    ∙ be_bytes_8 (take 8 b.0) (key_of b.0).0 (front_length b.0 q.0) (first_bytes 8 b.0 q.1) refl in
    let back : drop 7 a.0 ≡ drop 7 b.0 =
    sym (be_bytes_4 (drop 7 a.0) (key_of a.0).1 (back_length a.0 p.0) (last_bytes 7 a.0 p.1) refl)
    ∙ ap (λ (k : ℕ × ℕ). to_be_bytes w32 k.1) e
    ∙ be_bytes_4 (drop 7 b.0) (key_of b.0).1 (back_length b.0 q.0) (last_bytes 7 b.0 q.1) refl in
    let make : List ℕ → StationId = λ bytes. record { 0 = bytes } in
    ap make (
    sym (take-append-drop 8 a.0)
    ∙ ap (λ (bs : List ℕ). bs ++ drop 8 a.0) front
    ∙ ap (λ (bs : List ℕ). take 8 b.0 ++ bs) (one_more 7 a.0 ∙ ap (drop 1) back ∙ sym (one_more 7 b.0))
    ∙ take-append-drop 8 b.0)

-- keys that compare as equal are
is_eq-key_cmp : (a b : ℕ × ℕ) → is_eq (key_cmp a b) ≡ true → a ≡ b
is_eq-key_cmp a b e = both (nat_cmp a.0 b.0) refl e
  where
    last : (o : Ordering) → nat_cmp a.1 b.1 ≡ o → is_eq o ≡ true → a.1 ≡ b.1
    last Less is t = absurd cc
    last Equal is t = grind (arith, nat_tests)
    last Greater is t = absurd cc

    both : (o : Ordering) → nat_cmp a.0 b.0 ≡ o → is_eq (ordering_then o (nat_cmp a.1 b.1)) ≡ true → a ≡ b
    both Less is t = absurd cc
    both Equal is t = let one : a.0 ≡ b.0 = grind (arith, nat_tests) in
        let two : a.1 ≡ b.1 = last (nat_cmp a.1 b.1) refl t in ap (λ (x : ℕ). (x, a.1)) one
        ∙ ap (λ (y : ℕ). (b.0, y)) two
    both Greater is t = absurd cc

-- a number compares as equal with itself
pub cmp_itself : (n : ℕ) → nat_cmp n n ≡ Equal
cmp_itself n = grind (arith, nat_tests)

-- and so does a key
pub key_itself : (k : ℕ × ℕ) → is_eq (key_cmp k k) ≡ true
key_itself k = ap (λ (o : Ordering). is_eq (ordering_then o (nat_cmp k.1 k.1))) (cmp_itself k.0)
    ∙ ap is_eq (cmp_itself k.1)

-- the keys of two IDs compare as equal if the IDs are the same
pub compares_equal : (a b : StationId) → AreEleven a.0 → AreEleven b.0
    → is_eq (key_cmp (key_of a.0) (key_of b.0)) ≡ same_id a b
compares_equal a b p q = by (same_id a b) refl (is_eq (key_cmp (key_of a.0) (key_of b.0))) refl
  where
    by : (s : Bool) → same_id a b ≡ s → (t : Bool) → is_eq (key_cmp (key_of a.0) (key_of b.0)) ≡ t
        → is_eq (key_cmp (key_of a.0) (key_of b.0)) ≡ s
    by true is t et = ap (λ (x : StationId). is_eq (key_cmp (key_of a.0) (key_of x.0))) (sym (same_id-is a b is))
        ∙ key_itself (key_of a.0)
    by false is true et = absurd (true≢false (sym (same_id-laws.refl a)
        ∙ ap (same_id a) (same_key a b p q (is_eq-key_cmp (key_of a.0) (key_of b.0) et)) ∙ is))
    by false is false et = et

-- numbers are equal if they compare so
equal_cmp : (n m : ℕ) → (n == m) ≡ is_eq (nat_cmp n m)
equal_cmp n m = by (nat_cmp n m) refl
  where
    by : (o : Ordering) → nat_cmp n m ≡ o → (n == m) ≡ is_eq (nat_cmp n m)
    by Less is = (let none : (n == m) ≡ false = grind (arith, nat_tests) in none) ∙ sym (ap is_eq is)
    by Equal is = (let same : (n == m) ≡ true = grind (arith, nat_tests) in same) ∙ sym (ap is_eq is)
    by Greater is = (let none : (n == m) ≡ false = grind (arith, nat_tests) in none) ∙ sym (ap is_eq is)

-- two IDs are the same if both parts of their keys are
pub equal_keys : (a b : StationId) (x y : ℕ × ℕ) → x ≡ key_of a.0 → y ≡ key_of b.0 → AreEleven a.0 → AreEleven b.0
    → (x.0 == y.0 && x.1 == y.1) ≡ same_id a b
equal_keys a b x y is_a is_b p q =
    both x y ∙ ap (λ (k : ℕ × ℕ). is_eq (key_cmp k y)) is_a
    ∙ ap (λ (k : ℕ × ℕ). is_eq (key_cmp (key_of a.0) k)) is_b ∙ compares_equal a b p q
  where
    by : (o p : Ordering) → (is_eq o && is_eq p) ≡ is_eq (ordering_then o p)
    by Less p = refl
    by Equal p = refl
    by Greater p = refl

    both : (x y : ℕ × ℕ) → (x.0 == y.0 && x.1 == y.1) ≡ is_eq (key_cmp x y)
    both x y =
        ap (λ (b : Bool). b && x.1 == y.1) (equal_cmp x.0 y.0)
        ∙ ap (λ (b : Bool). is_eq (nat_cmp x.0 y.0) && b) (equal_cmp x.1 y.1)
        ∙ by (nat_cmp x.0 y.0) (nat_cmp x.1 y.1)

-- visible bytes are bytes
visible_bytes : (bs : List ℕ) → list_all is_visible bs ≡ true → (i : ℕ) → get_or bs i 0 < 256
visible_bytes [] all i = omega arith
visible_bytes (b ∷ bs) all zero = low (is_visible b) refl all
  where
    low : (v : Bool) → is_visible b ≡ v → (v && list_all is_visible bs) ≡ true → b < 256
    low true is e = grind (arith, nat_tests)
    low false is e = absurd cc
visible_bytes (b ∷ bs) all (suc i) = visible_bytes bs (rest (is_visible b) all) i
  where
    rest : (v : Bool) → (v && list_all is_visible bs) ≡ true → list_all is_visible bs ≡ true
    rest true e = e
    rest false e = absurd cc

-- an ID is made of bytes
pub id_bytes : (id : StationId) → is_id id.0 ≡ true → AreEleven id.0
id_bytes id e = both (length id.0 == 11) refl e
  where
    both : (l : Bool) → (length id.0 == 11) ≡ l → (l && list_all is_visible id.0) ≡ true → AreEleven id.0
    both true is v = (grind (arith, nat_tests), visible_bytes id.0 v)
    both false is v = absurd cc

-- the place kept for one station more, whose ID had none
pub put_place : (ss : List Station) (s : Station) (id : StationId) → AreEleven s.id.0 → AreEleven id.0
    → place_of ss s.id ≡ None
    → cond (is_eq (key_cmp (key_of s.id.0) (key_of id.0))) (Some (length ss)) (place_of ss id)
    ≡ place_of (ss ++ s ∷ []) id
put_place ss s id p q none =
    ap (λ (b : Bool). cond b (Some (length ss)) (place_of ss id)) (compares_equal s.id id p q)
    ∙ by (same_id s.id id) refl
    ∙ sym (place-push ss s id)
  where
    by : (b : Bool) → same_id s.id id ≡ b → cond (same_id s.id id) (Some (length ss)) (place_of ss id)
        ≡ option_or (place_of ss id) (cond (same_id s.id id) (Some (length ss)) None)
    by true e =
        let none-here : place_of ss id ≡ None = ap (place_of ss) (sym (same_id-is s.id id e)) ∙ none in
        ap (λ (b : Bool). cond b (Some (length ss)) (place_of ss id)) e
        ∙ sym (ap (λ (o : Option ℕ). option_or o (cond (same_id s.id id) (Some (length ss)) None)) none-here
        ∙ ap (λ (b : Bool). cond b (Some (length ss)) None) e)
    by false e =
        ap (λ (b : Bool). cond b (Some (length ss)) (place_of ss id)) e
        ∙ sym (or_none (place_of ss id))
        ∙ sym (ap (λ (b : Bool). option_or (place_of ss id) (cond b (Some (length ss)) None)) e)

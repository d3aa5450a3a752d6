-- Stations are added one after the other: what is known of a line after those before it.
use Rattle.std.proofs.Common.{◌≡◌, ℕ, suc, ◌<◌, ◌^◌, Bool, true, false, cond, List, [], ◌∷◌, ◌++◌, length, map, drop, take}
use Rattle.std.proofs.Common.{replicate, length-append, length-drop, Option}
use Rattle.std.proofs.Common.{Some, None, refl, sym, ap, subst, ◌∙◌, arith, true≢false, ◌||◌, ◌&&◌, is_some}
use Rattle.std.specs.Prelude.{◌==◌, ◌≤◌, nat_lt, nat_le, ℤ, pos, neg_ℤ}
use Rattle.std.specs.List.{list_any, list_all, IsDistinct}
use Rattle.std.specs.Option.{option_or, option_map}
use Rattle.std.specs.Ordering.{is_eq}
use Rattle.std.proofs.lemmas.Bool.Decides.{nat_tests}
use Rattle.std.proofs.lemmas.List.{length_push, map-append, length-map, length-take-le, length-replicate}
use Rattle.ghcn_fields.specs.Meaning.Bytes.{blank_byte, is_blank}
use Rattle.std.proofs.lemmas.Map.Keys.{IsDistinct-push}
use Rattle.ghcn_fields.specs.declared.field.Field.{Field}
use Rattle.ghcn_fields.specs.declared.field.Field.TheVariants.{Blank, Number, Bad}
use Rattle.ghcn_fields.specs.Meaning.Lines.{columns}
use Rattle.ghcn_files.specs.declared.station.StationId.{StationId}
use Rattle.ghcn_files.specs.declared.station.Station.{Station}
use Rattle.ghcn_files.specs.declared.fault.StationWhy.{StationWhy}
use Rattle.ghcn_files.specs.declared.fault.StationWhy.TheVariants.{Duplicate}
use Rattle.ghcn_files.specs.declared.fault.StationsFault.{StationsFault}
use Rattle.ghcn_files.specs.declared.fault.StationsFault.TheVariants.{StationLine, TooManyStations}
use Rattle.ghcn_files.specs.Meaning.Ids.{same_id, is_visible}
use Rattle.ghcn_files.specs.Ids.{is_id}
use Rattle.ghcn_files.specs.StationLines.{id_of, latitude, longitude, elevation, is_number_within, is_latitude}
use Rattle.ghcn_files.specs.StationLines.{is_longitude, is_bad, number_of, station_of, line_why, is_station}
use Rattle.ghcn_files.specs.Meaning.StationLines.{is_printable, printable}
use Rattle.ghcn_files.specs.Meaning.Listed.{is_station_of}
use Rattle.ghcn_files.specs.Listed.{Numbered, is_repeated, stations_of, station_fault, place_of, AreListed}
use Rattle.ghcn_files.specs.KeptStations.{key_of, key_cmp, AreEleven, kept_place, AreKept}
use Rattle.ghcn_files.proofs.IdLaws.{same_id-turned, same_id-laws}
use Rattle.ghcn_files.proofs.ById.{has_place, put_place, id_bytes}
use Rattle.ghcn_files.proofs.StationTests.{why_by}

-- ---- an ID that an earlier line has

-- the IDs of listed stations are those of their lines
repeated_is : (earlier : List Numbered) (id : StationId)
    → list_any (is_station_of id) (stations_of earlier) ≡ is_repeated earlier id
repeated_is [] id = refl
repeated_is (l ∷ ls) id = ap (λ (b : Bool). same_id (id_of l.1) id || b) (repeated_is ls id)

-- as many stations as lines
length-stations_of : (ls : List Numbered) → length (stations_of ls) ≡ length ls
length-stations_of [] = refl
length-stations_of (l ∷ ls) = ap suc (length-stations_of ls)

-- ---- the error of a line that is right by itself

-- that its ID is repeated, or that there is no room
abbrev pub fault_if : ℕ → Bool → Bool → Option StationsFault
fault_if n repeated room = option_or (option_map (λ why. StationLine n why) (cond repeated (Some Duplicate) None))
    (cond room None (Some TooManyStations))

-- an error by what was found out of the line
abbrev fault_by : ℕ → Option StationWhy → Bool → Bool → Option StationsFault
fault_by n o repeated room = option_or (option_map (λ why. StationLine n why)
    (option_or o (cond repeated (Some Duplicate) None))) (cond room None (Some TooManyStations))

-- the error of a line that is right by itself, after lines that list the stations held
pub fault_of_right_line : (earlier : List Numbered) (n : ℕ) (line : List ℕ) (held : List Station) (id : StationId)
    (repeated room : Bool) → stations_of earlier ≡ held → line_why line ≡ None → id ≡ id_of line
    → list_any (is_station_of id) held ≡ repeated → nat_lt (length held) (2 ^ 20) ≡ room
    → station_fault earlier (n, line) ≡ fault_if n repeated room
fault_of_right_line earlier n line held id repeated room e right is rep ro =
    let again : is_repeated earlier (id_of line) ≡ repeated =
    sym (repeated_is earlier (id_of line)) ∙ ap (λ (ss : List Station). list_any (is_station_of (id_of line)) ss) e
    ∙ ap (λ (i : StationId). list_any (is_station_of i) held) (sym is) ∙ rep in
    let fits : nat_lt (length earlier) (2 ^ 20) ≡ room =
    ap (λ (k : ℕ). nat_lt k (2 ^ 20)) (sym (length-stations_of earlier) ∙ ap length e) ∙ ro in
    ap (λ (o : Option StationWhy). fault_by n o (is_repeated earlier (id_of line))
    (nat_lt (length earlier) (2 ^ 20))) right
    ∙ ap (λ (b : Bool). fault_by n None b (nat_lt (length earlier) (2 ^ 20))) again
    ∙ ap (λ (b : Bool). fault_by n None repeated b) fits

-- ---- the station of a line without an error

-- a line without an error passed its tests
passed_all : (long id north east bad : Bool) → why_by long id north east bad ≡ None
    → (id ≡ true) × (north ≡ true) × (east ≡ true)
passed_all true true true true bad e = (refl, refl, refl)
passed_all true true true false bad e = absurd cc
passed_all true true false east bad e = absurd cc
passed_all true false north east bad e = absurd cc
passed_all false id north east bad e = absurd cc

-- a number within limits is the number of its field
own_number : (low high : ℤ) (f : Field) → is_number_within low high f ≡ true
    → is_number_within low high (Number (number_of f)) ≡ true
own_number low high Blank e = absurd (true≢false (sym e))
own_number low high (Number z) e = e
own_number low high Bad e = absurd (true≢false (sym e))

-- a byte that is made printable is
printed_byte : (plain : Bool) (b : ℕ) → is_printable b ≡ plain → is_printable (cond plain b 63) ≡ true
printed_byte true b e = e
printed_byte false b e = refl

-- so are all bytes of a text
printed : (bytes : List ℕ) → list_all is_printable (map printable bytes) ≡ true
printed [] = refl
printed (b ∷ bs) = ap (λ (t : Bool). t && list_all is_printable (map printable bs))
    (printed_byte (is_printable b) b refl) ∙ printed bs

-- six tests that hold, hold together
all_six : (a b c d e f : Bool) → a ≡ true → b ≡ true → c ≡ true → d ≡ true → e ≡ true → f ≡ true
    → (a && b && c && d && e && f) ≡ true
all_six a b c d e f p q r s t u = cc

-- the columns of a name are thirty bytes
name_long : (line : List ℕ) → (length (map printable (columns 42 71 line)) == 30) ≡ true
name_long line =
    let all : List ℕ = line ++ replicate 71 blank_byte in
    let long : length (map printable (columns 42 71 line)) ≡ 30 =
    length-map (columns 42 71 line) printable ∙ length-take-le 30 (drop 41 (line ++ replicate 71 blank_byte))
    (omega (
      arith,
      length-drop 41 (line ++ replicate 71 blank_byte),
      length-append line (replicate 71 blank_byte),
      length-replicate 71 blank_byte,
    )) in
    ap (λ (n : ℕ). n == 30) long

-- a line that fails no test has a station with its fields in their ranges
pub station_of-right : (line : List ℕ) → line_why line ≡ None → is_station (station_of line) ≡ true
station_of-right line none =
    let tests = passed_all (nat_le 30 (length line)) (is_id (columns 1 11 line)) (is_latitude (latitude line))
    (is_longitude (longitude line)) (is_bad (elevation line)) none in
    all_six _ _ _ _ _ _ tests.0 (own_number (neg_ℤ (pos 900_000)) (pos 900_000) (latitude line) tests.1)
    (own_number (neg_ℤ (pos 1_800_000)) (pos 1_800_000) (longitude line) tests.2) (printed (columns 39 40 line))
    (printed (columns 42 71 line)) (name_long line)

-- and it has the columns of an ID
pub id_there : (line : List ℕ) → line_why line ≡ None → 11 ≤ length line
id_there line none = by (nat_le 30 (length line)) refl none
  where
    by : (long : Bool) → nat_le 30 (length line) ≡ long → why_by long (is_id (columns 1 11 line))
        (is_latitude (latitude line)) (is_longitude (longitude line)) (is_bad (elevation line)) ≡ None
        → 11 ≤ length line
    by true is e = grind (arith, nat_tests)
    by false is e = absurd cc

-- the second of three tests that hold together
second : (a b c : Bool) → (a && (b && c)) ≡ true → b ≡ true
second true true c e = refl
second true false c e = e
second false b c e = absurd cc

-- what begins with a byte that shows in print isn't blank
begins : (b : ℕ) (bs : List ℕ) → is_visible b ≡ true → is_blank (b ∷ bs) ≡ false
begins b bs seen = by (b == 32) refl
  where
    by : (blank : Bool) → (b == 32) ≡ blank → is_blank (b ∷ bs) ≡ false
    by true e = grind (arith, nat_tests)
    by false e = ap (λ (t : Bool). t && is_blank bs) e

-- a line without an error isn't blank
pub shows : (line : List ℕ) → line_why line ≡ None → is_blank line ≡ false
shows [] none = absurd cc
shows (b ∷ bs) none =
    let line : List ℕ = b ∷ bs in
    let tests = passed_all (nat_le 30 (length line)) (is_id (columns 1 11 line)) (is_latitude (latitude line))
    (is_longitude (longitude line)) (is_bad (elevation line)) none in
    let more : List ℕ = take 10 (bs ++ replicate 11 blank_byte) in
    begins b bs (second (length (columns 1 11 line) == 11) (is_visible b) (list_all is_visible more) tests.0)

-- ---- one station more

-- stations that are right stay so with one more that is
right-push : (ss : List Station) (s : Station) → list_all is_station ss ≡ true → is_station s ≡ true
    → list_all is_station (ss ++ s ∷ []) ≡ true
right-push [] s all e = ap (λ (b : Bool). b && true) e
right-push (x ∷ xs) s all e = both (is_station x) (list_all is_station xs) all (λ h. right-push xs s h e)
  where
    both : (b rest : Bool) → (b && rest) ≡ true → (rest ≡ true → list_all is_station (xs ++ s ∷ []) ≡ true)
        → (b && list_all is_station (xs ++ s ∷ [])) ≡ true
    both true rest h more = more h
    both false rest h more = absurd (true≢false (sym h))

-- the IDs with one station more
ids-push : (ss : List Station) (s : Station) → map (λ t. t.id) (ss ++ s ∷ []) ≡ map (λ t. t.id) ss ++ s.id ∷ []
ids-push ss s = map-append (λ t. t.id) ss (s ∷ [])

-- an ID is a station's if it is among the IDs
no_id : (ss : List Station) (id : StationId)
    → list_any (is_station_of id) ss ≡ list_any (same_id id) (map (λ t. t.id) ss)
no_id [] id = refl
no_id (s ∷ ss) id =
    ap (λ (b : Bool). b || list_any (is_station_of id) ss) (same_id-turned s.id id)
    ∙ ap (λ (b : Bool). same_id id s.id || b) (no_id ss id)

-- none is not some
none_there : (o : Option ℕ) → o ≡ None → is_some o ≡ false
none_there None e = refl
none_there (Some n) e = absurd cc

-- a right station's ID is made of bytes
pub own_bytes : (s : Station) → is_station s ≡ true → AreEleven s.id.0
own_bytes s right = id_bytes s.id (first (is_id s.id.0) _ _ _ _ _ right)
  where
    first : (a b c d e f : Bool) → (a && b && c && d && e && f) ≡ true → a ≡ true
    first true b c d e f all = refl
    first false b c d e f all = absurd cc

-- what is listed stays so with one station more, whose ID none has
pub listed_more : (ss : List Station) (s : Station) → AreListed ss → place_of ss s.id ≡ None → length ss < 2 ^ 20
    → is_station s ≡ true → AreListed (ss ++ s ∷ [])
listed_more ss s h new room right =
    let fresh = sym (no_id ss s.id) ∙ sym (has_place ss s.id) ∙ none_there (place_of ss s.id) new in
    record {
      distinct = subst (IsDistinct same_id) (sym (ids-push ss s))
          (IsDistinct-push same_id-laws (map (λ t. t.id) ss) s.id h.distinct fresh);
      few = omega (arith, length_push ss s);
      right = right-push ss s h.right right;
    }

-- and so does what is kept, if its place is kept beside the others
pub kept_more : (ss : List Station) (places more : List ((ℕ × ℕ) × ℕ)) (s : Station) → AreKept ss places
    → place_of ss s.id ≡ None → length ss < 2 ^ 20 → is_station s ≡ true
    → ((id : StationId) → kept_place more id ≡ cond (is_eq (key_cmp (key_of s.id.0) (key_of id.0)))
    (Some (length ss)) (kept_place places id)) → AreKept (ss ++ s ∷ []) more
kept_more ss places more s h new room right put = record {
  list = listed_more ss s h.list new room right;
  own = λ id bytes. put id ∙ ap (cond (is_eq (key_cmp (key_of s.id.0) (key_of id.0))) (Some (length ss)))
      (h.own id bytes) ∙ put_place ss s id (own_bytes s right) bytes new;
}

-- nothing is kept at first
pub nothing_kept : (ss : List Station) (places : List ((ℕ × ℕ) × ℕ)) → ss ≡ [] → places ≡ [] → AreKept ss places
unfolding IsDistinct
nothing_kept ss places none empty =
    let P : List Station → Type 0 = λ x. AreKept x places in
    let Q : List ((ℕ × ℕ) × ℕ) → Type 0 = AreKept [] in
    subst P (sym none) (subst Q (sym empty) (record {
      list =
          record { distinct = tt; few = omega arith; right = refl };
      own = λ id bytes. refl;
    }))

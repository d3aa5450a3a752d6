-- Groups of eight columns, read by lanes.
use Rattle.std.proofs.Common.{◌≡◌, ℕ, ◌+◌, ◌*◌, ◌%◌, ◌<◌, ◌≤◌, Bool, true, false, cond, List, [], ◌∷◌, map, length}
use Rattle.std.proofs.Common.{get_or, refl, sym, ap, subst, ◌∙◌, ◌++◌, zero, suc, arith, ℤ, pos, eqb, w8, Fits, rules}
use Rattle.std.specs.Prelude.{◌&&◌, ◌||◌, ◌==◌, not, if◌then◌else◌, neg_ℤ, bit_and}
use Rattle.std.specs.Int.Bits.{and_zero_r}
use Rattle.std.specs.Char.{is_ascii_digit}
use Rattle.std.specs.List.{list_any, range_with_len}
use Rattle.std.specs.Simd.Lanes.{Each1}
use Rattle.std.proofs.lemmas.Bool.{and_parts, not-false}
use Rattle.std.proofs.lemmas.Bool.Decides.{nat_tests}
use Rattle.std.proofs.lemmas.Nat.{and_mask, and_le_r}
use Rattle.std.proofs.lemmas.Simd.{pick_l_whole, get_or_wider}
use lib.Lanes.{top, pick_l, zip2, chunk, number_l, digits_l}
use Rattle.ghcn_fields.specs.Numbers.{int_field, is_bad, number_or}
use Rattle.ghcn_fields.specs.FieldForms.{digit_of, may_precede, is_minus, is_number_form, digits_behind}
use Rattle.ghcn_fields.specs.Groups.{number_if, AreNumbers}
use Rattle.ghcn_fields.proofs.FieldsByKind.{digit-small}
use Rattle.ghcn_fields.proofs.FieldLanes.{may_stand, by_parts, five-form, bad_five, taken}

-- a lane that has a number if a test passes, and 0 otherwise
abbrev pub lane_if : Bool → ℕ → ℕ
lane_if t n = cond (top 7 (cond t 255 0)) n 0

-- the lane of one of a field's first four columns
abbrev pub front_lane : ℕ → ℕ
front_lane b = cond (top 7 (cond (eqb b 45) 255 0)) 0 (bit_and b 15)

-- the lowest four bits of a byte
low_bits : (b : ℕ) → bit_and b 15 ≡ b % 16
low_bits b = and_mask b 4

-- such a lane is below 16
lane-small : (b : ℕ) → front_lane b ≤ 15
lane-small b = let le = and_le_r b 15 in rw (taken (eqb b 45) 0 (bit_and b 15)) (grind (arith, nat_tests, le))

-- a byte may be in a field: it is a blank, a digit or a minus
abbrev may_be : ℕ → Bool
may_be b = (b == 32) || (is_ascii_digit b || (b == 45))

-- the lane of such a byte has what it writes
front-digit : (b : ℕ) → may_be b ≡ true → front_lane b ≡ digit_of b
front-digit b is = taken (eqb b 45) 0 (bit_and b 15) ∙ ap (cond (eqb b 45) 0) (low_bits b) ∙ grind (arith, nat_tests)

-- so do the lowest bits of a digit
last-digit : (b : ℕ) → is_ascii_digit b ≡ true → b % 16 ≡ digit_of b
last-digit b is = grind (arith, nat_tests)

-- the first four columns of each of four groups
abbrev pub fronts : List ℕ → List ℕ
fronts xs =
    pick_l 0 (chunk 0 32 xs ++ chunk 0 32 xs)
    (0 ∷ 1 ∷ 2 ∷ 3 ∷ 8 ∷ 9 ∷ 10 ∷ 11 ∷ 16 ∷ 17 ∷ 18 ∷ 19 ∷ 24 ∷ 25 ∷ 26 ∷ 27 ∷ [])

-- the four columns after these
abbrev pub backs : List ℕ → List ℕ
backs xs =
    pick_l 0 (chunk 0 32 xs ++ chunk 0 32 xs)
    (4 ∷ 5 ∷ 6 ∷ 7 ∷ 12 ∷ 13 ∷ 14 ∷ 15 ∷ 20 ∷ 21 ∷ 22 ∷ 23 ∷ 28 ∷ 29 ∷ 30 ∷ 31 ∷ [])

-- four weights for each group
abbrev pub by_fours : ℕ → ℕ → ℕ → ℕ → List ℕ
by_fours a b c d = a ∷ b ∷ c ∷ d ∷ a ∷ b ∷ c ∷ d ∷ a ∷ b ∷ c ∷ d ∷ a ∷ b ∷ c ∷ d ∷ []

-- lanes of digits are bytes
pub digits_fit : (bs : List ℕ) → Each1 (Fits w8) (map front_lane bs)
digits_fit [] = tt
digits_fit (b ∷ bs) = (record { fits = let small = lane-small b in omega (arith, small) }, digits_fit bs)

-- lanes that are no more than other bytes are bytes
zips_fit : {X : Type 0} (f : X → ℕ → ℕ) → ((x : X) (n : ℕ) → f x n ≤ n) → (xs : List X) (ns : List ℕ)
    → Each1 (λ n. n < 256) ns → Each1 (λ n. n < 256) (zip2 f xs ns)
zips_fit f few [] ns fit = tt
zips_fit f few (x ∷ xs) [] fit = tt
zips_fit f few (x ∷ xs) (n ∷ ns) fit =
    (let less = few x n in let small = fit.0 in omega (arith, less, small), zips_fit f few xs ns fit.1)

-- such a lane is at most the number
lane_if-le : (t : Bool) (n : ℕ) → lane_if t n ≤ n
lane_if-le t n = grind arith

-- the number that four lanes make of sixteen bytes
abbrev pub wide : List ℕ → ℕ → ℕ
wide xs k = get_or (digits_l 4294967296 4 (number_l 256 xs)) k 0

-- is that of its four bytes
wide-is : (xs : List ℕ) (k : ℕ) → k < 4 → Each1 (λ n. n < 256) xs → wide xs k ≡ number_l 256 (chunk (4 * k) 4 xs)
wide-is xs k lt fit = get_or_wider 256 4 4294967296 4 xs k refl fit lt

-- the number that five digits write, by hundreds, tens and the last, among columns of no effect
abbrev pub size : ℕ → ℕ → ℕ → ℕ → ℕ → ℕ
size a b c d e =
    (((((((a * 10 + b * 1) + (c * 0 + d * 0)) * 100) % 4294967296 + ((a * 0 + b * 0) + (c * 10 + d * 1))) % 4294967296)
    * 10) % 4294967296 + e) % 4294967296

-- the number of five columns fits
pub size-small : (a b c d e : ℕ) → e ≤ 15
    → size (front_lane a) (front_lane b) (front_lane c) (front_lane d) e < 262144
size-small a b c d e least = search rules

-- the last columns of four groups, and what they write
abbrev pub lasts : List ℕ → List ℕ
lasts xs = zip2 bit_and (backs xs) (by_fours 15 0 0 0)

-- what blanks count after the first columns of four groups
abbrev pub blanks : List ℕ → List ℕ
blanks xs = zip2 lane_if (map (λ b. eqb b 32) (backs xs)) (by_fours 1 0 1 0)

-- which of the first columns are minuses
abbrev pub minuses : List ℕ → List ℕ
minuses xs = zip2 lane_if (map (λ b. eqb b 45) (fronts xs)) (by_fours 1 1 1 1)

-- four bytes of which the first alone may be more than 0
last-wide : (e f g h : ℕ)
    → number_l 256 (bit_and e 15 ∷ bit_and f 0 ∷ bit_and g 0 ∷ bit_and h 0 ∷ []) ≡ e % 16
last-wide e f g h = rw (low_bits e, and_zero_r f, and_zero_r g, and_zero_r h) (omega arith)

-- what two blanks count among columns of no effect
blanks-are : (s t u v : Bool)
    → (number_l 256 (lane_if s 1 ∷ lane_if t 0 ∷ lane_if u 1 ∷ lane_if v 0 ∷ []) == 65536) ≡ (not s && u)
blanks-are s t u v = grind (arith, nat_tests)

-- what minuses count in four columns
abbrev minus-count : Bool → Bool → Bool → Bool → ℕ
minus-count p q r s = number_l 256 (lane_if p 1 ∷ lane_if q 1 ∷ lane_if r 1 ∷ lane_if s 1 ∷ [])

-- they count 0 if none of the columns is one
none-are : (p q r s : Bool) → (minus-count p q r s == 0) ≡ not (p || (q || (r || (s || (false || false)))))
none-are p q r s = grind (arith, nat_tests)

-- if each byte may be there, the last one says whether they are a number
last_says : (p q r s last digit : Bool) → (p && (q && (r && (s && last)))) ≡ true
    → (p && (q && (r && (s && digit)))) ≡ digit
last_says p q r s last digit e = grind arith

-- a digit isn't a minus
digit-minus : (e : ℕ) → is_ascii_digit e ≡ true → (e == 45) ≡ false
digit-minus e is = grind (arith, nat_tests)

-- a number is known by its last digit, its minuses and its flag
by-tests : (digit flag none negative : Bool) (m n : ℕ) (other : ℤ)
    → (digit ≡ true → (none ≡ not negative) × (m ≡ n))
    → (if digit && flag then (if none then pos m else neg_ℤ (pos m)) else other)
    ≡ (if flag then by_parts digit negative n other else other)
by-tests digit flag none negative m n other h = grind arith

-- a group's last column isn't a blank, and its second flag is one
abbrev has_number : ℕ → ℕ → ℕ → ℕ → ℕ
has_number e f g h = number_l 256 (lane_if (eqb e 32) 1 ∷ lane_if (eqb f 32) 0 ∷ lane_if (eqb g 32) 1
    ∷ lane_if (eqb h 32) 0 ∷ [])

-- the number that the lanes of a group say
abbrev of_lanes : ℤ → ℕ → ℕ → ℕ → ℕ → ℕ → ℕ → ℕ → ℤ
of_lanes other a b c d last few some = number_if some few (size (front_lane a) (front_lane b) (front_lane c)
    (front_lane d) last) other

-- the bytes of a field that isn't bad may all be there
each-may : (a b c d e : ℕ) → may_stand (a ∷ b ∷ c ∷ d ∷ e ∷ []) ≡ true → (may_be a ≡ true) × (may_be b ≡ true)
    × (may_be c ≡ true) × (may_be d ≡ true) × (((e == 32) || is_ascii_digit e) ≡ true)
each-may a b c d e all = grind (arith, nat_tests, and_parts)

-- a last column is a digit if it isn't blank
blank-or-digit : (e : ℕ) → ((e == 32) || is_ascii_digit e) ≡ true → not (e == 32) ≡ is_ascii_digit e
blank-or-digit e is = grind (arith, nat_tests)

-- the lanes of five columns that may be there have what these write
size-written : (a b c d e : ℕ) → may_be a ≡ true → may_be b ≡ true → may_be c ≡ true → may_be d ≡ true
    → is_ascii_digit e ≡ true → size (front_lane a) (front_lane b) (front_lane c) (front_lane d) (e % 16)
    ≡ digits_behind 0 (a ∷ b ∷ c ∷ d ∷ e ∷ [])
size-written a b c d e p q r s t = grind (arith, nat_tests, front-digit, last-digit, digit-small)

-- what the lanes of a group say is its number
of_group : (other : ℤ) (a b c d e f g h last few some : ℕ)
    → last ≡ number_l 256 (bit_and e 15 ∷ bit_and f 0 ∷ bit_and g 0 ∷ bit_and h 0 ∷ [])
    → few ≡ minus-count (eqb a 45) (eqb b 45) (eqb c 45) (eqb d 45) → some ≡ has_number e f g h
    → is_bad (int_field (a ∷ b ∷ c ∷ d ∷ e ∷ [])) ≡ false
    → of_lanes other a b c d last few some
    ≡ (if g == 32 then number_or other (int_field (a ∷ b ∷ c ∷ d ∷ e ∷ [])) else other)
of_group other a b c d e f g h last few some ends signs facts fine =
    let bytes : List ℕ = a ∷ b ∷ c ∷ d ∷ e ∷ [] in
    let digit : Bool = is_ascii_digit e in
    let all : may_stand bytes ≡ true = not-false (may_stand bytes) (sym (bad_five a b c d e) ∙ fine) in
    let may = each-may a b c d e all in
    let number : is_number_form bytes ≡ digit =
    last_says (may_precede a b) (may_precede b c) (may_precede c d) (may_precede d e) ((e == 32) || digit) digit all in
    rw (
      ends,
      last-wide e f g h,
      signs,
      facts,
      blanks-are (eqb e 32) (eqb f 32) (eqb g 32) (eqb h 32),
      blank-or-digit e may.4,
      (five-form other a b c d e).1,
      number,
    )
    (by-tests digit (g == 32) _ (list_any is_minus bytes) _ (digits_behind 0 bytes) other
    (λ is. (
      rw (digit-minus e is) (none-are (a == 45) (b == 45) (c == 45) (d == 45)),
      size-written a b c d e may.0 may.1 may.2 may.3 is,
    )))

-- the lanes of last columns by their four bytes
lasts-wide : (xs : List ℕ) (k : ℕ) → k < 4 → wide (lasts xs) k ≡ number_l 256 (chunk (4 * k) 4 (lasts xs))
lasts-wide xs k lt = grind (arith, nat_tests, zips_fit, wide-is, and_le_r)

-- those of blanks
blanks-wide : (xs : List ℕ) (k : ℕ) → k < 4 → wide (blanks xs) k ≡ number_l 256 (chunk (4 * k) 4 (blanks xs))
blanks-wide xs k lt = grind (arith, nat_tests, zips_fit, lane_if-le, wide-is)

-- those of minuses
minuses-wide : (xs : List ℕ) (k : ℕ) → k < 4 → wide (minuses xs) k ≡ number_l 256 (chunk (4 * k) 4 (minuses xs))
minuses-wide xs k lt = grind (arith, nat_tests, zips_fit, lane_if-le, wide-is)

-- what a last column writes is below 16
pub last-small : (xs : List ℕ) (k : ℕ) → k < 4 → wide (lasts xs) k ≤ 15
last-small xs k lt = search rules

-- the number that the lanes of some columns say of the group from a place on
abbrev pub read_at : ℤ → List ℕ → ℕ → ℕ → ℤ
read_at other xs n k =
    let at = λ (j : ℕ). get_or (chunk 0 32 xs ++ chunk 0 32 xs) (n + j) 0 in
    of_lanes other (at 0) (at 1) (at 2) (at 3) (wide (lasts xs) k) (wide (minuses xs) k) (wide (blanks xs) k)

-- thirty-two columns, one by one
abbrev columns : (ℕ → ℕ) → List ℕ
columns at = map at (range_with_len 0 32)

-- four groups of columns, one by one
each : (other : ℤ) (at : ℕ → ℕ) (v w x y : ℤ) → v ≡ read_at other (columns at) 0 0
    → w ≡ read_at other (columns at) 8 1 → x ≡ read_at other (columns at) 16 2 → y ≡ read_at other (columns at) 24 3
    → AreNumbers other (columns at) (v ∷ w ∷ x ∷ y ∷ [])
each other at v w x y p q r s zero lt fine =
    p ∙ of_group other (at 0) (at 1) (at 2) (at 3) (at 4) (at 5) (at 6) (at 7) _ _ _
    (lasts-wide (columns at) 0 lt) (minuses-wide (columns at) 0 lt) (blanks-wide (columns at) 0 lt) fine
each other at v w x y p q r s (suc zero) lt fine =
    q ∙ of_group other (at 8) (at 9) (at 10) (at 11) (at 12) (at 13) (at 14) (at 15) _ _ _
    (lasts-wide (columns at) 1 lt) (minuses-wide (columns at) 1 lt) (blanks-wide (columns at) 1 lt) fine
each other at v w x y p q r s (suc (suc zero)) lt fine =
    r ∙ of_group other (at 16) (at 17) (at 18) (at 19) (at 20) (at 21) (at 22) (at 23) _ _ _
    (lasts-wide (columns at) 2 lt) (minuses-wide (columns at) 2 lt) (blanks-wide (columns at) 2 lt) fine
each other at v w x y p q r s (suc (suc (suc zero))) lt fine =
    s ∙ of_group other (at 24) (at 25) (at 26) (at 27) (at 28) (at 29) (at 30) (at 31) _ _ _
    (lasts-wide (columns at) 3 lt) (minuses-wide (columns at) 3 lt) (blanks-wide (columns at) 3 lt) fine
each other at v w x y p q r s (suc (suc (suc (suc k)))) lt fine = absurd (omega (arith, lt))

-- four groups have the numbers that their lanes say
pub groups-read : (other : ℤ) (xs : List ℕ) (v w x y : ℤ) → length xs ≡ 32
    → v ≡ read_at other xs 0 0 → w ≡ read_at other xs 8 1 → x ≡ read_at other xs 16 2 → y ≡ read_at other xs 24 3
    → AreNumbers other xs (v ∷ w ∷ x ∷ y ∷ [])
groups-read other xs v w x y many =
    subst (λ (zs : List ℕ). v ≡ read_at other zs 0 0 → w ≡ read_at other zs 8 1 → x ≡ read_at other zs 16 2
    → y ≡ read_at other zs 24 3 → AreNumbers other zs (v ∷ w ∷ x ∷ y ∷ []))
    (pick_l_whole 0 xs 32 many) (each other (λ j. get_or xs j 0) v w x y)

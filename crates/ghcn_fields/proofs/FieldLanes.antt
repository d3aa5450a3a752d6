-- Two number fields of five columns each, tested by lanes.
use Rattle.std.proofs.Common.{◌≡◌, ℕ, zero, suc, ◌+◌, ◌*◌, ◌-◌, ◌%◌, ◌^◌, Bool, true, false, cond, List, [], ◌∷◌, ◌++◌}
use Rattle.std.proofs.Common.{map, length, get_or, refl, sym, ap, ap₂, ◌∙◌, arith, pos, eqb, leb, ltb, w8, ℤ, ◌<◌}
use Rattle.std.proofs.Common.{rules}
use Rattle.std.proofs.lemmas.List.{length-map}
use Rattle.std.proofs.lemmas.Nat.{le_or_r}
use Rattle.std.specs.Int.Bits.{or_zero_r}
use Rattle.std.specs.Prelude.{◌&&◌, ◌||◌, ◌==◌, not, bit_or, bit_and, replicate, if◌then◌else◌, neg_ℤ}
use Rattle.std.specs.Char.{is_ascii_digit}
use Rattle.std.specs.List.{list_all, list_any, range_with_len}
use Rattle.std.proofs.lemmas.Bool.Decides.{nat_tests}
use Rattle.std.proofs.Math.Nat.{pow-suc}
use Rattle.std.proofs.Math.Pow.{suc_ones}
use Rattle.std.proofs.lemmas.Simd.{pick_l_whole, mask_l-mod, tops_compared, zip2_splat_left, length-zip2}
use Rattle.std.proofs.lemmas.Bool.{and_parts}
use lib.Lanes.{mask_l, top, zip2}
use Rattle.ghcn_fields.specs.Meaning.Bytes.{is_blank}
use Rattle.ghcn_fields.specs.Numbers.{int_field, is_bad, number_or}
use Rattle.ghcn_fields.specs.FieldForms.{may_precede, is_minus, is_number_form, digits_behind, are_set, are_set_but}
use Rattle.ghcn_fields.specs.FieldForms.{five_of_eight}
use Rattle.ghcn_fields.proofs.FieldsByForm.{field_by_form, int_field-form}
use Rattle.ghcn_fields.proofs.FieldsByKind.{digit-small}

-- ---- a field whose bytes may be where they are

-- each byte may come before the next, and the last one at the end
abbrev pub may_stand : List ℕ → Bool
may_stand [] = true
may_stand (b ∷ []) = (b == 32) || is_ascii_digit b
may_stand (b ∷ c ∷ bytes) = may_precede b c && may_stand (c ∷ bytes)

-- a blank isn't a digit
blank_digit : (b : ℕ) → (b == 32) ≡ true → is_ascii_digit b ≡ false
blank_digit b e = grind (arith, nat_tests)

-- if blanks alone follow, a blank alone may precede
before_blanks : (blank other digit number blanks : Bool) → (blanks ≡ true → digit ≡ false)
    → ((blank || (other && digit)) && (number || blanks))
    ≡ (((blank || (other && digit)) && number) || (blank && blanks))
before_blanks blank other digit number blanks apart = grind arith

-- such bytes are a number or blanks alone
stands : (b : ℕ) (bytes : List ℕ) → may_stand (b ∷ bytes) ≡ (is_number_form (b ∷ bytes) || is_blank (b ∷ bytes))
stands b [] = grind (arith, nat_tests)
stands b (c ∷ bytes) =
    ap (λ (t : Bool). may_precede b c && t) (stands c bytes)
    ∙ before_blanks (b == 32) (is_ascii_digit b || (b == 45)) (is_ascii_digit c) (is_number_form (c ∷ bytes))
    (is_blank (c ∷ bytes)) (λ all. blank_digit c (and_parts (c == 32) (is_blank bytes) all).0)

-- a number by what is known of its field
abbrev pub by_parts : Bool → Bool → ℕ → ℤ → ℤ
by_parts number negative n other = if number then (if negative then neg_ℤ (pos n) else pos n) else other

-- whether a field of such a form is bad, and its number
by-form : (number negative blank : Bool) (n : ℕ) (other : ℤ) → n < 131072
    → (is_bad (field_by_form number negative n blank) ≡ not (number || blank))
    × (number_or other (field_by_form number negative n blank) ≡ by_parts number negative n other)
by-form number negative blank n other small = grind arith

-- the same of a field of five bytes
pub five-form : (other : ℤ) (a b c d e : ℕ) → let bytes : List ℕ = a ∷ b ∷ c ∷ d ∷ e ∷ [] in
    (is_bad (int_field bytes) ≡ not (is_number_form bytes || is_blank bytes)) × (number_or other (int_field bytes)
    ≡ by_parts (is_number_form bytes) (list_any is_minus bytes) (digits_behind 0 bytes) other)
five-form other a b c d e =
    rw (int_field-form (a ∷ b ∷ c ∷ d ∷ e ∷ [])) (by-form _ _ _ (digits_behind 0 (a ∷ b ∷ c ∷ d ∷ e ∷ [])) other
    (omega (arith, digit-small)))

-- a field of five bytes is bad if one of them may not be where it is
pub bad_five : (a b c d e : ℕ) → is_bad (int_field (a ∷ b ∷ c ∷ d ∷ e ∷ [])) ≡ not (may_stand (a ∷ b ∷ c ∷ d ∷ e ∷ []))
bad_five a b c d e = (five-form (pos 0) a b c d e).0 ∙ ap not (sym (stands a (b ∷ c ∷ d ∷ e ∷ [])))

-- ---- lanes

-- a lane of a mask
abbrev pub mark : Bool → ℕ
mark t = cond t 255 0

-- a mask's lanes are taken as they are
pub taken : (t : Bool) (x y : ℕ) → cond (top 7 (mark t)) x y ≡ cond t x y
taken t x y = grind arith

-- the digit nearest to a byte
abbrev nearest : ℕ → ℕ
nearest b =
    let least = cond (top 7 (mark (ltb b 48))) 48 b in
    cond (top 7 (mark (ltb least 57))) least 57

-- what a byte's lane says, by the next byte, and what else may come before a digit
abbrev lane : ℕ → ℕ → ℕ → ℕ
lane b next minus =
    let digits = λ (x : ℕ). cond (top 7 (mark (eqb x (nearest x)))) 255 0 in
    bit_or (cond (top 7 (mark (eqb b 32))) 255 0)
    (bit_and (bit_or (digits b) (cond (top 7 (mark (eqb b minus))) 255 0)) (digits next))

-- a byte of a field before its last one
lane-front : (b next : ℕ) → leb 255 (lane b next 45) ≡ may_precede b next
lane-front b next = search rules

-- a field's last byte
lane-last : (b : ℕ) → leb 255 (lane b b 48) ≡ may_stand (b ∷ [])
lane-last b = grind arith

-- ---- two fields

-- twice a number and a bit is twice another and 1 if the bit is set and the numbers are the same
twice : (t : Bool) (m k : ℕ) → (cond t 1 0 + 2 * m == 1 + 2 * k) ≡ (t && (m == k))
twice t m k = grind arith

-- a mask has all its bits if each lane is set
all_set : (ts : List Bool) (k : ℕ) → k ≡ 2 ^ length ts - 1 → (mask_l ts == k) ≡ list_all (λ t. t) ts
all_set [] k e = ap (λ (n : ℕ). zero == n) e
all_set (t ∷ ts) k e =
    let double : 2 ^ length (t ∷ ts) ≡ 2 ^ length ts * 2 = pow-suc 2 (length ts) in
    let some : suc (2 ^ length ts - 1) ≡ 2 ^ length ts = suc_ones (length ts) in
    let half : k ≡ 1 + 2 * (2 ^ length ts - 1) = omega arith in
    ap (λ (n : ℕ). cond t 1 0 + 2 * mask_l ts == n) half ∙ twice t (mask_l ts) (2 ^ length ts - 1)
    ∙ ap (λ (b : Bool). t && b) (all_set ts (2 ^ length ts - 1) refl)

-- so has that of sixteen lanes
pub sixteen_set : (ts : List Bool) → length ts ≡ 16 → (mask_l ts % 2 ^ 64 == 65535) ≡ list_all (λ t. t) ts
sixteen_set ts many =
    ap (λ (n : ℕ). n == 65535) (mask_l-mod ts 64 (omega (arith, many)))
    ∙ all_set ts 65535 (ap (λ (n : ℕ). 2 ^ n - 1) (sym many))

-- that all of some tests are passed and all of others
pub all_of : (a b c d e rest : Bool)
    → (a && (b && (c && (d && (e && rest))))) ≡ ((a && (b && (c && (d && e)))) && rest)
all_of a b c d e rest = grind arith

-- neither of two is bad if both are good
pub neither_bad : (s t : Bool) → (s && (t && true)) ≡ not (not s || not t)
neither_bad s t = grind arith

-- what the lanes of a field's five columns and the three after them say
abbrev eight : ℕ → ℕ → ℕ → ℕ → ℕ → ℕ → ℕ → ℕ → List ℕ
eight a b c d e f g h =
    lane a b 45 ∷ lane b c 45 ∷ lane c d 45 ∷ lane d e 45 ∷ lane e e 48 ∷ lane f f 0 ∷ lane g g 0 ∷ lane h h 0 ∷ []

-- whether the lanes of a field's five columns have all their bits, and others
five-are : (a b c d e : ℕ) (rest : Bool)
    → (leb 255 (lane a b 45) && (leb 255 (lane b c 45) && (leb 255 (lane c d 45) && (leb 255 (lane d e 45)
    && (leb 255 (lane e e 48) && rest))))) ≡ (may_stand (a ∷ b ∷ c ∷ d ∷ e ∷ []) && rest)
five-are a b c d e rest = grind (arith, nat_tests, lane-front, lane-last, all_of)

-- sixteen columns, one by one
pub sixteen_are : (xs : List ℕ) → length xs ≡ 16 → xs ≡ map (λ j. get_or xs j 0) (range_with_len 0 16)
sixteen_are xs many = sym (pick_l_whole 0 xs 16 many)

-- the lanes of sixteen columns say whether one of the two fields is bad
pub two_fields : (a b c d e f g h i j k l m n o p : ℕ)
    → are_set (eight a b c d e f g h ++ eight i j k l m n o p)
    ≡ not (is_bad (int_field (a ∷ b ∷ c ∷ d ∷ e ∷ [])) || is_bad (int_field (i ∷ j ∷ k ∷ l ∷ m ∷ [])))
two_fields a b c d e f g h i j k l m n o p = grind (arith, nat_tests, bad_five, neither_bad, five-are)

-- a lane after a field is set, and any other as it was
or-behind : (behind : Bool) (lane : ℕ) → leb 255 (bit_or lane (mark behind)) ≡ (behind || leb 255 lane)
or-behind true lane = let more = le_or_r lane 255 in grind (arith, nat_tests, more)
or-behind false lane = ap (leb 255) (or_zero_r lane)

-- a test of each lane is one of what it says
each_test : (bs : List Bool) (xs : List ℕ) → length xs ≡ length bs
    → list_all (λ t. t) (map (λ x. leb 255 x) (zip2 bit_or xs (map mark bs))) ≡ are_set_but bs xs
each_test [] [] e = refl
each_test [] (x ∷ xs) e = absurd (omega arith)
each_test (b ∷ bs) [] e = absurd (omega arith)
each_test (b ∷ bs) (x ∷ xs) e = ap₂ (λ (s t : Bool). s && t) (or-behind b x) (each_test bs xs (omega arith))

-- a mask of the lanes that have all their bits is full if each lane has, except for some
pub set_mask_but : (bs : List Bool) (xs : List ℕ) → length bs ≡ 16 → length xs ≡ 16
    → (mask_l (map (top 7) (zip2 (λ a b. cond (leb a b) 255 0) (replicate 16 255) (zip2 bit_or xs (map mark bs))))
    % 2 ^ 64 == 65535) ≡ are_set_but bs xs
set_mask_but bs xs flags many =
    let ys : List ℕ = zip2 bit_or xs (map mark bs) in
    let tests : List Bool = map (λ x. leb 255 x) ys in
    let even : length xs ≡ length (map mark bs) = many ∙ sym flags ∙ sym (length-map bs mark) in
    let all : length ys ≡ 16 = length-zip2 bit_or xs (map mark bs) even ∙ many in
    let long : length tests ≡ 16 = length-map ys (λ x. leb 255 x) ∙ all in
    ap (λ (ms : List Bool). mask_l ms % 2 ^ 64 == 65535)
    (tops_compared w8 leb (replicate 16 255) ys ∙ zip2_splat_left leb 255 16 ys all)
    ∙ sixteen_set tests long
    ∙ each_test bs xs (many ∙ sym flags)

-- it is full if each lane of two fields has
pub set_mask : (xs : List ℕ) → length xs ≡ 16
    → (mask_l (map (top 7) (zip2 (λ a b. cond (leb a b) 255 0) (replicate 16 255)
    (zip2 bit_or xs (map mark (five_of_eight ++ five_of_eight))))) % 2 ^ 64 == 65535) ≡ are_set xs
set_mask xs many = set_mask_but (five_of_eight ++ five_of_eight) xs refl many

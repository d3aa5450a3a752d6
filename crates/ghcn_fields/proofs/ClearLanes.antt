-- Two number fields of five columns each, tested by lanes that are 0 if a column may be where it is.
use Rattle.std.proofs.Common.{◌≡◌, ℕ, ◌+◌, ◌-◌, ◌%◌, ◌^◌, ◌≤◌, zero, suc, Bool, true, false, cond, List, [], ◌∷◌, ◌++◌}
use Rattle.std.proofs.Common.{get_or, refl, sym, ap, ap₂, ◌∙◌, arith, ltb, eqb, w8, length, map}
use Rattle.std.specs.Prelude.{◌&&◌, ◌||◌, ◌==◌, not, bit_or, bit_and, replicate}
use Rattle.std.specs.Char.{is_ascii_digit}
use Rattle.std.proofs.lemmas.Bool.Decides.{nat_tests}
use Rattle.std.proofs.lemmas.Nat.{le_or_l, and_mask}
use Rattle.std.proofs.Math.Nat.{mod-eq_of_lt}
use Rattle.std.proofs.lemmas.List.{length-map}
use Rattle.std.specs.List.{list_all}
use Rattle.std.specs.Int.Bits.{or_zero_l, and_zero_r}
use Rattle.std.proofs.lemmas.Simd.{bytes_below, tops_compared, zip2_splat, length-zip2}
use lib.Lanes.{mask_l, top, zip2, Each1}
use mir.Val.{Fits}
use Rattle.ghcn_fields.specs.Numbers.{int_field, is_bad}
use Rattle.ghcn_fields.specs.FieldForms.{may_precede, are_clear, are_clear_but, five_of_eight}
use Rattle.ghcn_fields.proofs.FieldLanes.{mark, taken, may_stand, bad_five, sixteen_set, all_of, neither_bad}

-- each of some numbers is at most 255
at_most : (xs : List ℕ) → Each1 (λ a. a ≤ 255) xs → (j : ℕ) → get_or xs j 0 ≤ 255
at_most [] most j = omega arith
at_most (x ∷ xs) most zero = most.0
at_most (x ∷ xs) most (suc j) = at_most xs most.1 j

-- each lane of bytes is at most 255
pub byte_at : (xs : List ℕ) → Each1 (Fits w8) xs → (j : ℕ) → get_or xs j 0 ≤ 255
byte_at xs fits j = at_most xs (bytes_below xs fits) j

-- a byte less another one, which wraps around
abbrev less : ℕ → ℕ → ℕ
less b c = (b + (256 - c)) % 256

-- the lesser of two
abbrev least : ℕ → ℕ → ℕ
least x y = cond (top 7 (mark (ltb x y))) x y

-- how far a byte is from digits
abbrev past : ℕ → ℕ
past b =
    let digit : ℕ = less b 48 in
    less (cond (top 7 (mark (ltb digit 9))) 9 digit) 9

-- what a byte's lane says, by the next byte, and what else may come before a digit
abbrev lane : ℕ → ℕ → ℕ → ℕ
lane b next minus = least (less b 32) (bit_or (least (less b minus) (past b)) (past next))

-- both of two are 0 if they are joined to 0
or_clear : (x y : ℕ) → (bit_or x y == 0) ≡ ((x == 0) && (y == 0))
or_clear zero y = ap (λ (n : ℕ). n == 0) (or_zero_l y)
or_clear (suc x) y = let more = le_or_l (suc x) y in grind (arith, nat_tests, more)

-- one of two is 0 if the lesser is
least_clear : (x y : ℕ) → (least x y == 0) ≡ ((x == 0) || (y == 0))
least_clear x y = simp taken (grind (arith, nat_tests))

-- the distance of a byte from the digits is 0 if and only if the byte is a digit
past_clear : (b : ℕ) → b ≤ 255 → (past b == 0) ≡ is_ascii_digit b
past_clear b most = simp taken (grind (arith, nat_tests))

-- the difference from another byte is 0 if and only if the two are the same
less_clear : (b c : ℕ) → b ≤ 255 → c ≤ 255 → (less b c == 0) ≡ (b == c)
less_clear b c most more = grind (arith, nat_tests)

-- a minus or a digit is a digit or a minus
either : (blank minus digit next : Bool) → (blank || ((minus || digit) && next)) ≡ (blank || ((digit || minus) && next))
either blank minus digit next = grind arith

-- what else a last byte may be has no effect
last_alone : (blank other digit : Bool) → (blank || ((other || digit) && digit)) ≡ (blank || digit)
last_alone blank other digit = grind arith

-- what a lane of 0 says
lane-is : (b next minus : ℕ) → b ≤ 255 → next ≤ 255 → minus ≤ 255 → (lane b next minus == 0)
    ≡ ((b == 32) || (((b == minus) || is_ascii_digit b) && is_ascii_digit next))
lane-is b next minus p q r =
    let other : ℕ = least (less b minus) (past b) in
    least_clear (less b 32) (bit_or other (past next))
    ∙ ap₂ (λ (s t : Bool). s || t) (less_clear b 32 p (omega arith))
    (or_clear other (past next)
    ∙ ap₂ (λ (s t : Bool). s && t)
    (least_clear (less b minus) (past b) ∙ ap₂ (λ (s t : Bool). s || t) (less_clear b minus p r) (past_clear b p))
    (past_clear next q))

-- a byte of a field before its last one
lane-front : (b next : ℕ) → b ≤ 255 → next ≤ 255 → (lane b next 45 == 0) ≡ may_precede b next
lane-front b next p q =
    lane-is b next 45 p q (omega arith) ∙ either (b == 32) (b == 45) (is_ascii_digit b) (is_ascii_digit next)

-- a field's last byte
lane-last : (b : ℕ) → b ≤ 255 → (lane b b 48 == 0) ≡ may_stand (b ∷ [])
lane-last b p = lane-is b b 48 p p (omega arith) ∙ last_alone (b == 32) (b == 48) (is_ascii_digit b)

-- whether the lanes of a field's five columns are 0, and others
five-clear : (a b c d e : ℕ) (rest : Bool) → a ≤ 255 → b ≤ 255 → c ≤ 255 → d ≤ 255 → e ≤ 255
    → ((lane a b 45 == 0) && ((lane b c 45 == 0) && ((lane c d 45 == 0) && ((lane d e 45 == 0)
    && ((lane e e 48 == 0) && rest))))) ≡ (may_stand (a ∷ b ∷ c ∷ d ∷ e ∷ []) && rest)
five-clear a b c d e rest la lb lc ld le =
    ap₂ (λ (s t : Bool). s && t) (lane-front a b la lb)
    (ap₂ (λ (s t : Bool). s && t) (lane-front b c lb lc)
    (ap₂ (λ (s t : Bool). s && t) (lane-front c d lc ld)
    (ap₂ (λ (s t : Bool). s && t) (lane-front d e ld le) (ap (λ (t : Bool). t && rest) (lane-last e le)))))
    ∙ all_of (may_precede a b) (may_precede b c) (may_precede c d) (may_precede d e) (may_stand (e ∷ [])) rest

-- the lanes of sixteen columns say whether one of the two fields is bad
pub two_clear : (a b c d e f g h i j k l m n o p : ℕ) → a ≤ 255 → b ≤ 255 → c ≤ 255 → d ≤ 255 → e ≤ 255
    → i ≤ 255 → j ≤ 255 → k ≤ 255 → l ≤ 255 → m ≤ 255
    → are_clear (lane a b 45 ∷ lane b c 45 ∷ lane c d 45 ∷ lane d e 45 ∷ lane e e 48 ∷ lane f f 0 ∷ lane g g 0
    ∷ lane h h 0 ∷ lane i j 45 ∷ lane j k 45 ∷ lane k l 45 ∷ lane l m 45 ∷ lane m m 48 ∷ lane n n 0 ∷ lane o o 0
    ∷ lane p p 0 ∷ [])
    ≡ not (is_bad (int_field (a ∷ b ∷ c ∷ d ∷ e ∷ [])) || is_bad (int_field (i ∷ j ∷ k ∷ l ∷ m ∷ [])))
two_clear a b c d e f g h i j k l m n o p la lb lc ld le li lj lk ll lm =
    five-clear a b c d e _ la lb lc ld le
    ∙ ap (λ (t : Bool). may_stand (a ∷ b ∷ c ∷ d ∷ e ∷ []) && t) (five-clear i j k l m true li lj lk ll lm)
    ∙ neither_bad (may_stand (a ∷ b ∷ c ∷ d ∷ e ∷ [])) (may_stand (i ∷ j ∷ k ∷ l ∷ m ∷ []))
    ∙ sym (ap₂ (λ (s t : Bool). not (s || t)) (bad_five a b c d e) (bad_five i j k l m))

-- ---- a vector's lanes

-- no bits for a column after a field, and all bits for one of a field
abbrev field : Bool → ℕ
field behind = cond behind 0 255

-- a lane of no field is 0, and any other as it was
and-field : (behind : Bool) (n : ℕ) → n ≤ 255 → (bit_and n (field behind) == 0) ≡ (behind || (n == 0))
and-field true n most = ap (λ (m : ℕ). m == 0) (and_zero_r n)
and-field false n most = ap (λ (m : ℕ). m == 0) (and_mask n 8 ∙ mod-eq_of_lt (omega (arith, most)))

-- a test of each lane is one of what it says
each_test : (bs : List Bool) (xs : List ℕ) → length xs ≡ length bs → Each1 (λ a. a ≤ 255) xs
    → list_all (λ t. t) (map (λ x. eqb x 0) (zip2 bit_and xs (map field bs))) ≡ are_clear_but bs xs
each_test [] [] e most = refl
each_test [] (x ∷ xs) e most = absurd (omega arith)
each_test (b ∷ bs) [] e most = absurd (omega arith)
each_test (b ∷ bs) (x ∷ xs) e most =
    ap₂ (λ (s t : Bool). s && t) (and-field b x most.0) (each_test bs xs (omega arith) most.1)

-- a mask of the lanes of two fields that are 0 is full if each is
pub clear_mask : (xs : List ℕ) → length xs ≡ 16 → Each1 (Fits w8) xs
    → (mask_l (map (top 7) (zip2 (λ a b. cond (eqb a b) 255 0)
    (zip2 bit_and xs (map field (five_of_eight ++ five_of_eight))) (replicate 16 0))) % 2 ^ 64 == 65535) ≡ are_clear xs
clear_mask xs many fits =
    let bs : List Bool = five_of_eight ++ five_of_eight in
    let ys : List ℕ = zip2 bit_and xs (map field bs) in
    let tests : List Bool = map (λ x. eqb x 0) ys in
    let all : length ys ≡ 16 = length-zip2 bit_and xs (map field bs) many ∙ many in
    let long : length tests ≡ 16 = length-map ys (λ x. eqb x 0) ∙ all in
    ap (λ (ms : List Bool). mask_l ms % 2 ^ 64 == 65535)
    (tops_compared w8 eqb ys (replicate 16 0) ∙ zip2_splat eqb ys 16 0 all)
    ∙ sixteen_set tests long
    ∙ each_test bs xs many (bytes_below xs fits)

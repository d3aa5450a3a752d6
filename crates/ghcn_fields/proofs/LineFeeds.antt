-- Where bytes are above a line feed, by lanes.
use Rattle.std.proofs.Common.{◌≡◌, ℕ, ◌+◌, ◌-◌, ◌^◌, ◌<◌, ◌≤◌, Bool, true, cond, List, [], ◌∷◌, map, ◌%◌, length}
use Rattle.std.proofs.Common.{get_or, refl, sym, ap, ◌∙◌, subst, arith, ltb, w8}
use Rattle.std.specs.Prelude.{◌&&◌, ◌==◌, nat_lt, replicate}
use Rattle.std.specs.List.{list_all}
use Rattle.std.proofs.lemmas.Bool.Decides.{nat_tests}
use Rattle.std.proofs.lemmas.List.{length-map}
use Rattle.std.proofs.lemmas.Simd.{tops_compared, zip2_splat_left, length-zip2, length-sel_l, get_or-chunk}
use Rattle.std.proofs.lemmas.Simd.{length-chunk}
use Rattle.std.proofs.lemmas.Grind.{common_steps}
use lib.Lanes.{mask_l, top, zip2, sel_l, chunk}
use Rattle.ghcn_fields.specs.Lines.{are_above}
use Rattle.ghcn_fields.proofs.FieldLanes.{sixteen_set, taken}

-- the lesser of each two lanes
abbrev pub lesser : List ℕ → List ℕ → List ℕ
lesser xs ys = sel_l (map (top 7) (zip2 (λ a b. cond (ltb a b) 255 0) xs ys)) xs ys

-- there are as many lesser ones as each list has
pub length-lesser : (xs ys : List ℕ) → length xs ≡ length ys → length (lesser xs ys) ≡ length xs
length-lesser xs ys e = grind (arith, nat_tests, length-map, length-zip2, length-sel_l)

-- if the lesser ones are above a line feed, all are
pub both_above : (xs ys : List ℕ) → length xs ≡ length ys → are_above (lesser xs ys) ≡ true
    → (are_above xs ≡ true) × (are_above ys ≡ true)
both_above [] [] e above = (refl, refl)
both_above [] (y ∷ ys) e above = absurd (omega arith)
both_above (x ∷ xs) [] e above = absurd (omega arith)
both_above (x ∷ xs) (y ∷ ys) e above = let rest = both_above xs ys (omega arith) in grind (arith, nat_tests, taken)

-- the bytes from one place up to another are above a line feed
abbrev pub AreAbove : List ℕ → ℕ → ℕ → Type 0
AreAbove bytes from to = (j : ℕ) → from ≤ j → j < to → nat_lt 10 (get_or bytes j 0) ≡ true

-- each byte of some that are
each_above : (bytes : List ℕ) (k : ℕ) → are_above bytes ≡ true → k < length bytes → nat_lt 10 (get_or bytes k 0) ≡ true
each_above bytes k above lt = grind (arith, nat_tests, common_steps)

-- so are those of a part
pub part_above : (bytes : List ℕ) (from n : ℕ) → from + n ≤ length bytes → are_above (chunk from n bytes) ≡ true
    → AreAbove bytes from (from + n)
part_above bytes from n room above j low high =
    let at : from + (j - from) ≡ j = omega (arith, low) in
    subst (λ (i : ℕ). nat_lt 10 (get_or bytes i 0) ≡ true) at
    (ap (nat_lt 10) (sym (get_or-chunk from n bytes (j - from) 0 (omega (arith, low, high))))
    ∙ each_above (chunk from n bytes) (j - from) above
    (let long = length-chunk from n bytes room in omega (arith, long, low, high)))

-- a test of each lane is one of what it says
each_test : (xs : List ℕ) → list_all (λ t. t) (map (λ x. ltb 10 x) xs) ≡ are_above xs
each_test [] = refl
each_test (x ∷ xs) = ap (λ (t : Bool). ltb 10 x && t) (each_test xs)

-- a mask of the lanes above a line feed is full if all are
pub above_mask : (xs : List ℕ) → length xs ≡ 16
    → (mask_l (map (top 7) (zip2 (λ a b. cond (ltb a b) 255 0) (replicate 16 10) xs)) % 2 ^ 64 == 65535) ≡ are_above xs
above_mask xs many =
    let tests : List Bool = map (λ x. ltb 10 x) xs in
    let long : length tests ≡ 16 = length-map xs (λ x. ltb 10 x) ∙ many in
    ap (λ (ms : List Bool). mask_l ms % 2 ^ 64 == 65535)
    (tops_compared w8 ltb (replicate 16 10) xs ∙ zip2_splat_left ltb 10 16 xs many)
    ∙ sixteen_set tests long ∙ each_test xs

-- Lanes whose comparison is full are the same.
use Rattle.std.proofs.Common.{◌≡◌, ℕ, ◌+◌, ◌*◌, ◌%◌, ◌^◌, ◌<◌, Bool, true, false, cond, eqb, List, [], ◌∷◌, ◌++◌}
use Rattle.std.proofs.Common.{map, length, get_or, take, refl, sym, ap, ap₂, subst, ◌∙◌, arith, w8}
use Rattle.std.proofs.Math.Nat.{pow-succ'}
use Rattle.std.proofs.Math.Seq.{take-suc}
use Rattle.std.proofs.lemmas.Bool.{eqb-true}
use Rattle.std.proofs.lemmas.List.{take_all}
use Rattle.std.proofs.lemmas.Simd.{mask_l-lt, mask_l-mod, length-zip2, tops_compared}
use lib.Lanes.{mask_l, top, zip2}

-- a list without lanes is the one of its length
empty : (ys : List ℕ) → 0 ≡ length ys → [] ≡ ys
empty [] e = refl
empty (y ∷ ys) e = absurd (omega (arith, e))

-- the first lane of a full mask is set, and the others have one
first_set : (t : Bool) (m p : ℕ) → m < p → cond t 1 0 + 2 * m + 1 ≡ 2 * p → (t ≡ true) × (m + 1 ≡ p)
first_set true m p lt e = (refl, omega (arith, e))
first_set false m p lt e = absurd (omega (arith, e, lt))

-- lanes whose comparisons are all so are the same
same_lanes : (xs ys : List ℕ) → length xs ≡ length ys → mask_l (zip2 eqb xs ys) + 1 ≡ 2 ^ length xs → xs ≡ ys
same_lanes [] ys long full = empty ys long
same_lanes (x ∷ xs) [] long full = absurd (omega (arith, long))
same_lanes (x ∷ xs) (y ∷ ys) long full =
    let even : length xs ≡ length ys = omega (arith, long) in
    let below = mask_l-lt (zip2 eqb xs ys) in
    let parts = first_set (eqb x y) (mask_l (zip2 eqb xs ys)) (2 ^ length xs)
    (subst (λ (n : ℕ). mask_l (zip2 eqb xs ys) < 2 ^ n) (length-zip2 eqb xs ys even) below)
    (full ∙ pow-succ' 2 (length xs)) in
    ap₂ (λ (z : ℕ) (zs : List ℕ). z ∷ zs) (eqb-true x y parts.0) (same_lanes xs ys even parts.1)

-- sixteen lanes whose mask is full are the same
pub from_full_mask : (xs ys : List ℕ) → length xs ≡ 16 → length ys ≡ 16
    → eqb (mask_l (map (top 7) (zip2 (λ a b. cond (eqb a b) 255 0) xs ys)) % 2 ^ 64) 65535 ≡ true → xs ≡ ys
from_full_mask xs ys many long is =
    let even : length xs ≡ length ys = many ∙ sym long in
    let lanes : length (zip2 eqb xs ys) ≡ 16 = length-zip2 eqb xs ys even ∙ many in
    let full : mask_l (zip2 eqb xs ys) ≡ 65535 =
    sym (mask_l-mod (zip2 eqb xs ys) 64 (omega (arith, lanes)))
    ∙ sym (ap (λ (ms : List Bool). mask_l ms % 2 ^ 64) (tops_compared w8 eqb xs ys))
    ∙ eqb-true _ _ is in
    same_lanes xs ys even (ap (λ (m : ℕ). m + 1) full ∙ sym (ap (λ (n : ℕ). 2 ^ n) many))

-- seventeen numbers are sixteen and the last
apart : (xs : List ℕ) → length xs ≡ 17 → xs ≡ take 16 xs ++ get_or xs 16 0 ∷ []
apart xs many = sym (take_all 17 xs (omega (arith, many))) ∙ take-suc xs 16 0 (omega (arith, many))

-- they are the same if both are
pub same_seventeen : (xs ys : List ℕ) → length xs ≡ 17 → length ys ≡ 17 → take 16 xs ≡ take 16 ys
    → get_or xs 16 0 ≡ get_or ys 16 0 → xs ≡ ys
same_seventeen xs ys many long most last =
    apart xs many ∙ ap₂ (λ (zs : List ℕ) (z : ℕ). zs ++ z ∷ []) most last ∙ sym (apart ys long)

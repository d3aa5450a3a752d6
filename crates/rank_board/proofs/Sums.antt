-- Sums over lists that change at one place, are cut there, or are joined there.
use Rattle.std.proofs.Common.{◌≡◌, ℕ, zero, suc, ◌+◌, ◌≤◌, List, [], ◌∷◌, ◌++◌, set, sum_by, sym, refl, ap, arith}
use Rattle.std.proofs.lemmas.List.Sums.{sum_by-cons, sum_by_push}
use mathlib.Core.Option.{some, some-injective, some-ne-none}
use lib.ListN.{get_elem?}

module _ {A : Type 0} (g : A → ℕ) where
  -- w takes the place of v
  pub sum_by-replaced : (l : List A) (i : ℕ) (v w : A) → get_elem? l i ≡ some v
      → sum_by g (set l i w) + g v ≡ sum_by g l + g w
  sum_by-replaced [] i v w at = absurd (some-ne-none v (sym at))
  sum_by-replaced (x ∷ xs) zero v w at =
      omega (arith, sum_by-cons g x xs, sum_by-cons g w xs, ap g (some-injective x v at))
  sum_by-replaced (x ∷ xs) (suc i) v w at =
      omega (arith, sum_by-cons g x xs, sum_by-cons g x (set xs i w), sum_by-replaced xs i v w at)

  -- a term is at most the sum
  pub term_le : (l : List A) (i : ℕ) (v : A) → get_elem? l i ≡ some v → g v ≤ sum_by g l
  term_le [] i v at = absurd (some-ne-none v (sym at))
  term_le (x ∷ xs) zero v at = omega (arith, sum_by-cons g x xs, ap g (some-injective x v at))
  term_le (x ∷ xs) (suc i) v at = omega (arith, sum_by-cons g x xs, term_le xs i v at)

  -- one value becomes two
  pub sum_by-cut : (l : List A) (i : ℕ) (v left right : A) → get_elem? l i ≡ some v
      → sum_by g (set l i left ++ right ∷ []) + g v ≡ sum_by g l + (g left + g right)
  sum_by-cut l i v left right at = omega (arith, sum_by_push g (set l i left) right, sum_by-replaced l i v left at)

  -- two values become one, and nothing is left where the second was
  pub sum_by-joined : (l : List A) (i j : ℕ) (v w both spent : A) → get_elem? l i ≡ some v
      → get_elem? (set l i both) j ≡ some w
      → g both ≡ g v + g w → g spent ≡ 0 → sum_by g (set (set l i both) j spent) ≡ sum_by g l
  sum_by-joined l i j v w both spent at there adds nothing_left =
      omega (arith, sum_by-replaced l i v both at, sum_by-replaced (set l i both) j w spent there)

module _ {A : Type 0} (g h : A → ℕ) where
  -- if g has no sum, and h is 0 wherever g is, h has none
  sum_by-none : (l : List A) → sum_by g l ≡ 0 → ((j : ℕ) (u : A) → get_elem? l j ≡ some u → g u ≡ 0 → h u ≡ 0)
      → sum_by h l ≡ 0
  sum_by-none [] empty with_it = refl
  sum_by-none (x ∷ xs) empty with_it = let first = sum_by-cons g x xs in
      omega (
        arith,
        sum_by-cons h x xs,
        with_it 0 x refl (omega arith),
        sum_by-none xs (omega arith)
            (λ j. with_it (suc j)),
      )

  -- if all of g is at one place, and h is 0 wherever g is, all of h is there
  pub sum_by-alone : (l : List A) (i : ℕ) (v : A) → get_elem? l i ≡ some v → sum_by g l ≡ g v
      → ((j : ℕ) (u : A) → get_elem? l j ≡ some u → g u ≡ 0 → h u ≡ 0) → sum_by h l ≡ h v
  sum_by-alone [] i v at all with_it = absurd (some-ne-none v (sym at))
  sum_by-alone (x ∷ xs) zero v at all with_it =
      let e : x ≡ v = some-injective x v at in let first = sum_by-cons g x xs in
      omega (arith, ap h e, sum_by-cons h x xs, sum_by-none xs (omega (arith, ap g e)) (λ j. with_it (suc j)))
  sum_by-alone (x ∷ xs) (suc i) v at all with_it = let part = term_le g xs i v at in let first = sum_by-cons g x xs in
      omega (
        arith,
        sum_by-cons h x xs,
        with_it 0 x refl (omega arith),
        sum_by-alone xs i v at (omega arith)
            (λ j. with_it (suc j)),
      )

  -- a sum of sums
  pub sum_by-plus : (l : List A) → sum_by (λ u. g u + h u) l ≡ sum_by g l + sum_by h l
  sum_by-plus [] = refl
  sum_by-plus (x ∷ xs) =
      omega (arith, sum_by-cons g x xs, sum_by-cons h x xs, sum_by-cons (λ u. g u + h u) x xs, sum_by-plus xs)

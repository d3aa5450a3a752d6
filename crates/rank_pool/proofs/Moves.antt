-- Candidates have one order, in whatever order they are listed.
use Rattle.std.proofs.Common.{◌≡◌, ℕ, Bool, true, not, List, [], ◌∷◌, refl, sym, ap, ◌∙◌, subst, arith, ◌↔◌}
use Rattle.std.specs.List.{count_by, AllByRecursion}
use Rattle.std.specs.List.Sorted.{IsPermutation}
use Rattle.std.proofs.lemmas.Bool.{true_from_ne_false}
use Rattle.std.proofs.lemmas.List.Sorted.{IsPermutation-sym, IsPermutation-trans, sum_by-IsPermutation}
use Rattle.ghcn_files.proofs.Ordered.{sorted-permutation}
use Rattle.rank_scores.specs.declared.candidate.Candidate.{Candidate}
use Rattle.rank_pool.specs.First.{comes_first, in_order}
use Rattle.rank_pool.proofs.Orders.{InTurn, in_order-turn, same_place, first_itself}
use Rattle.rank_pool.proofs.Counts.{one_if, count-cons}

-- the number that pass a test is the same in both lists, whatever the test
abbrev AreAsMany : List Candidate → List Candidate → Type 0
AreAsMany xs ys = (t : Candidate → Bool) → count_by t xs ≡ count_by t ys

-- none of those that x comes before is before x
none_before : (x : Candidate) (ys : List Candidate) → AllByRecursion (λ y. comes_first x y ≡ true) ys
    → count_by (λ y. not (comes_first x y)) ys ≡ 0
none_before x [] h = refl
none_before x (y ∷ ys) h =
    omega (arith, count-cons (λ c. not (comes_first x c)) y ys, ap (λ b. one_if (not b)) h.0, none_before x ys h.1)

-- the first of some in order comes before the first of the same number
leads : (x y : Candidate) (xs ys : List Candidate) → InTurn (x ∷ xs) → AreAsMany (x ∷ xs) (y ∷ ys)
    → comes_first x y ≡ true
leads x y xs ys h many = true_from_ne_false _ (λ e. omega (
  arith,
  many (λ c. not (comes_first x c)),
  none_before x (x ∷ xs) (first_itself x, h.0),
  count-cons (λ c. not (comes_first x c)) y ys,
  ap (λ b. one_if (not b)) e,
))

-- so candidates can be in order in one way only
one_turn : (ys zs : List Candidate) → InTurn ys → InTurn zs → AreAsMany ys zs → ys ≡ zs
one_turn [] [] h k many = refl
one_turn [] (z ∷ zs) h k many = absurd (omega (arith, many (λ c. true), count-cons (λ c. true) z zs))
one_turn (y ∷ ys) [] h k many = absurd (omega (arith, many (λ c. true), count-cons (λ c. true) y ys))
one_turn (y ∷ ys) (z ∷ zs) h k many =
    let one : y ≡ z = same_place y z (leads y z ys zs h many) (leads z y zs ys k (λ t. sym (many t))) in
    let rest = one_turn ys zs h.1 k.1 (λ t. omega (
      arith,
      many t,
      count-cons t y ys,
      count-cons t z zs,
      ap (λ (c : Candidate). one_if (t c)) one,
    )) in
    λ i. one i ∷ rest i

-- the same candidates have one order
pub same_order : (xs ys : List Candidate) → IsPermutation xs ys → in_order xs ≡ in_order ys
same_order xs ys p = one_turn (in_order xs) (in_order ys) (in_order-turn xs) (in_order-turn ys) (λ t.
    let count : Candidate → ℕ = λ c. one_if (t c) in
    sum_by-IsPermutation count xs (in_order xs) (sorted-permutation comes_first xs)
    ∙ sym (sum_by-IsPermutation count xs ys p)
    ∙ sym (sum_by-IsPermutation count ys (in_order ys) (sorted-permutation comes_first ys)))

-- put in order, two lists are one list if and only if they have the same candidates, each as often
pub alike-permutation : (xs ys : List Candidate) → (in_order xs ≡ in_order ys) ↔ IsPermutation xs ys
alike-permutation xs ys = (
  λ e. IsPermutation-trans xs (in_order xs) ys (sorted-permutation comes_first xs)
      (subst (λ (l : List Candidate). IsPermutation l ys) (sym e)
      (IsPermutation-sym ys (in_order ys) (sorted-permutation comes_first ys))),
  same_order xs ys,
)

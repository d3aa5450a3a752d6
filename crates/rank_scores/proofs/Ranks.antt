-- The best of some candidates, by rank, are the first of them when they are put in order.
use Rattle.std.proofs.Common.{◌≡◌, ℕ, zero, suc, ◌+◌, Bool, true, false, cond, List, [], ◌∷◌, take, drop, Option, Some}
use Rattle.std.proofs.Common.{None, refl, sym, ap, ◌∙◌, subst, arith, rules}
use Rattle.std.specs.Prelude.{slice_get, ◌==◌}
use Rattle.std.specs.List.{find, filter_map, range_with_len, AllByRecursion, list_any, cons_option}
use Rattle.std.specs.List.Sorted.{IsPermutation}
use Rattle.std.proofs.lemmas.Bool.{eqb-true, eq-eqb, false_from_ne_true}
use Rattle.std.proofs.lemmas.Cmp.{nat_list_cmp_total, int_cmp_total, on_total, then_total, back_total}
use Rattle.std.specs.Cmp.{IsTotalOrder}
use Rattle.std.proofs.lemmas.List.Elements.{recursion_from_All, All-from_recursion}
use Rattle.std.proofs.lemmas.List.Sorted.{sum_by-IsPermutation, list_any-IsPermutation, All-permutation}
use Rattle.std.proofs.lemmas.List.Sorted.{IsPermutation-sym}
use Rattle.std.proofs.lemmas.List.Sums.{sum_by-cons}
use Rattle.std.proofs.lemmas.Option.{slice_get-get_or, slice_get_within, get_or_from_slice_get}
use Rattle.std.proofs.Math.Seq.{take-nil}
use Rattle.std.proofs.lemmas.List.MinMax.{ranks_by}
use Rattle.std.proofs.lemmas.Map.Keys.{any_passes_from_place}
use Rattle.ghcn_files.proofs.Ordered.{Descend}
use Rattle.rank_scores.specs.declared.candidate.Candidate.{Candidate}
use Rattle.rank_scores.specs.Meaning.Order.{precedes, rank_cmp}
use Rattle.rank_scores.specs.Order.{rank_in, of_rank, best}
use Rattle.rank_scores.proofs.Rising.{from_each}
use Rattle.std.proofs.lemmas.Int.{ints}

-- ranking is a total order
pub rank_cmp_total : IsTotalOrder rank_cmp
rank_cmp_total = search (rules, arith, then_total, on_total, back_total, int_cmp_total, nat_list_cmp_total)

-- of two candidates at most one precedes the other
pub asym : (a b : Candidate) → precedes a b ≡ true → precedes b a ≡ false
asym a b h = (ranks_by rank_cmp_total (λ (c : Candidate). c)).one_way a b h

-- each precedes all that come after it
abbrev pub Descends : List Candidate → Type 0
Descends = Descend (λ x y. precedes x y ≡ true)

-- a test, as a number that counts
abbrev one_if : Bool → ℕ
one_if b = cond b 1 0

-- the rank among one more candidate
rank-cons : (c x : Candidate) (xs : List Candidate) → rank_in (x ∷ xs) c ≡ one_if (precedes x c) + rank_in xs c
rank-cons c x xs = sum_by-cons (λ d. one_if (precedes d c)) x xs

-- what precedes all others has rank 0
first_rank : (x : Candidate) (xs : List Candidate) → AllByRecursion (λ y. precedes x y ≡ true) xs → rank_in xs x ≡ 0
first_rank x [] h = refl
first_rank x (y ∷ ys) h = grind (arith, ints, asym x y h.0, rank-cons x y ys, first_rank x ys h.1)

-- the rank is the place
rank_at : (xs : List Candidate) (r : ℕ) (c : Candidate) → Descends xs → slice_get xs r ≡ Some c → rank_in xs c ≡ r
rank_at [] r c h e = absurd cc
rank_at (x ∷ xs) zero c h e = grind (arith, ints, false_from_ne_true, asym, rank-cons x x xs, first_rank x xs h.0)
rank_at (x ∷ xs) (suc r) c h e =
    let before : precedes x c ≡ true = subst (λ (d : Candidate). precedes x d ≡ true) (get_or_from_slice_get xs r c c e)
    (All-from_recursion (λ d. precedes x d ≡ true) xs h.0 r c (slice_get_within xs r c e)) in
    omega (arith, rank-cons c x xs, ap one_if before, rank_at xs r c h.1 e)

-- the rank doesn't depend on the order in which a set is listed
rank-permuted : (all xs : List Candidate) (c : Candidate) → IsPermutation all xs → rank_in all c ≡ rank_in xs c
rank-permuted all xs c p = sym (sum_by-IsPermutation (λ d. one_if (precedes d c)) all xs p)

-- a test that only c passes finds c
finds : (p : Candidate → Bool) (c : Candidate) (ys : List Candidate)
    → AllByRecursion (λ d. p d ≡ true → d ≡ c) ys → list_any p ys ≡ true → find p ys ≡ Some c
finds p c [] h e = absurd cc
finds p c (y ∷ ys) h e = grind (arith, ints, finds p c ys h.1)

-- a test that none passes finds none
finds_none : (p : Candidate → Bool) (ys : List Candidate) → AllByRecursion (λ d. p d ≡ false) ys → find p ys ≡ None
finds_none p [] h = refl
finds_none p (y ∷ ys) h = ap (λ (b : Bool). cond b (Some y) (find p ys)) h.0 ∙ finds_none p ys h.1

-- an element has a place
abbrev Placed : List Candidate → Candidate → Type 0
Placed xs c = (i : ℕ) × (slice_get xs i ≡ Some c)

-- one more is taken
take-more : (xs : List Candidate) (a k : ℕ)
    → cons_option (slice_get xs a) (take k (drop (suc a) xs)) ≡ take (suc k) (drop a xs)
take-more [] zero k = take-nil k
take-more [] (suc a) k = take-nil k
take-more (x ∷ xs) zero k = refl
take-more (x ∷ xs) (suc a) k = take-more xs a k

module _ (all xs : List Candidate) (perm : IsPermutation all xs) (down : Descends xs) where
  -- each of the set has a place in the list
  placed_in : AllByRecursion (Placed xs) all
  placed_in = recursion_from_All (Placed xs) all (All-permutation (Placed xs) xs all (IsPermutation-sym all xs perm)
      (λ k d lt. (k, slice_get-get_or xs k d lt)))

  -- the rank within the set is the place in the list
  rank_placed : (c : Candidate) (i : ℕ) → slice_get xs i ≡ Some c → rank_in all c ≡ i
  rank_placed c i e = rank-permuted all xs c perm ∙ rank_at xs i c down e

  -- a candidate of a rank is at that place
  at_rank : (r : ℕ) (c : Candidate) → Placed xs c → (rank_in all c == r) ≡ true → slice_get xs r ≡ Some c
  at_rank r c placed h = ap (slice_get xs) (sym (eqb-true _ _ h) ∙ rank_placed c placed.0 placed.1) ∙ placed.1

  -- the candidate of a rank is the one at that place
  pub of_rank-is : (r : ℕ) → of_rank all r ≡ slice_get xs r
  of_rank-is r =
      elim (slice_get xs r) as (λ o. slice_get xs r ≡ o → of_rank all r ≡ o) [
        | None ↦ λ e. finds_none (λ c. rank_in all c == r) all
            (from_each (Placed xs) (λ c. (rank_in all c == r) ≡ false) all
            (λ c placed. false_from_ne_true _ (λ h. let here = at_rank r c placed h in absurd cc)) placed_in)
        | Some c ↦ λ e. finds (λ d. rank_in all d == r) c all
            (from_each (Placed xs) (λ d. (rank_in all d == r) ≡ true → d ≡ c) all
            (λ d placed h. let here = at_rank r d placed h in cc) placed_in)
            (list_any-IsPermutation (λ d. rank_in all d == r) all xs perm
            ∙ any_passes_from_place (λ d. rank_in all d == r) xs r c e (eq-eqb _ _ (rank_placed c r e)))
      ] refl

  -- the candidates of some ranks are those at these places
  taken_from : (k a : ℕ) → filter_map (of_rank all) (range_with_len a k) ≡ take k (drop a xs)
  taken_from zero a = refl
  taken_from (suc k) a =
      let next : a + 1 ≡ suc a = omega arith in
      ap (λ (o : Option Candidate). cons_option o (filter_map (of_rank all) (range_with_len (a + 1) k))) (of_rank-is a)
      ∙ ap (cons_option (slice_get xs a)) (taken_from k (a + 1))
      ∙ ap (λ (n : ℕ). cons_option (slice_get xs a) (take k (drop n xs))) next
      ∙ take-more xs a k

  -- the best are the first in order
  pub best-is : (k : ℕ) → best k all ≡ take k xs
  best-is k = taken_from k 0

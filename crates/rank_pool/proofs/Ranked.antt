-- Of candidates that are apart, the best by rank are the first in the order of listing.
use Rattle.std.proofs.Common.{◌≡◌, ℕ, zero, suc, ◌<◌, ◌≤◌, true, not, List, [], ◌∷◌, length, get_or, refl}
use Rattle.std.proofs.Common.{Ordering, ap, ◌∙◌, ◌+◌, arith}
use Rattle.std.specs.List.Sorted.{IsPermutation, IsSorted}
use Rattle.std.specs.Option.{option_map}
use Rattle.std.specs.Ordering.{is_lt, is_le, ordering_reverse}
use Rattle.std.proofs.lemmas.List.Elements.{All-from_recursion}
use Rattle.ghcn_files.proofs.Ordered as ordered
use Rattle.rank_scores.specs.declared.candidate.Candidate.{Candidate}
use Rattle.rank_scores.specs.Order.{full_cmp, AreApart, best, kth_score}
use Rattle.rank_scores.proofs.Ranks.{Descends, best-is, of_rank-is}
use Rattle.rank_scores.proofs.Listing.{full_cmp_total, descends}
use Rattle.rank_pool.specs.First.{comes_first, in_order, first, kth}
use Rattle.rank_pool.proofs.Orders.{InTurn, in_order-turn, first_itself}

-- one is less if the other isn't at most it
less : (o p : Ordering) → o ≡ ordering_reverse p → is_lt o ≡ not (is_le p)
less o p e = grind arith

-- a candidate is listed before x if x doesn't come first
pub listed_before : (y x : Candidate) → is_lt (full_cmp y x) ≡ not (comes_first x y)
listed_before y x = less (full_cmp y x) (full_cmp x y) (full_cmp_total.antisymm y x)

-- of candidates in order each comes before all after it
pub in_turn-far : (ys : List Candidate) (x : Candidate) (i j : ℕ) → InTurn ys → i ≤ j → j < length ys
    → comes_first (get_or ys i x) (get_or ys j x) ≡ true
in_turn-far [] x i j o le h = absurd (omega arith)
in_turn-far (y ∷ ys) x zero zero o le h = first_itself y
in_turn-far (y ∷ ys) x zero (suc j) o le h =
    All-from_recursion (λ z. comes_first y z ≡ true) ys o.0 j x (omega arith)
in_turn-far (y ∷ ys) x (suc i) zero o le h = absurd (omega arith)
in_turn-far (y ∷ ys) x (suc i) (suc j) o le h = in_turn-far ys x i j o.1 (omega arith) (omega arith)

-- the order only moves candidates
pub in_order-permutation : (xs : List Candidate) → IsPermutation xs (in_order xs)
in_order-permutation = ordered.sorted-permutation comes_first

-- what was put in order is sorted
in_order-sorted : (xs : List Candidate) → IsSorted full_cmp (in_order xs)
in_order-sorted xs = λ k d low high.
    listed_before (get_or (in_order xs) (k + 1) d) (get_or (in_order xs) k d)
    ∙ ap not (in_turn-far (in_order xs) d k (k + 1) (in_order-turn xs) (omega arith) high)

-- candidates that are apart descend once they are in order
pub in_order-descends : (xs : List Candidate) → AreApart xs → Descends (in_order xs)
in_order-descends xs apart = descends xs (in_order xs) (in_order-permutation xs) (in_order-sorted xs) apart

-- the best by rank are the first in order
pub best-first : (k : ℕ) (xs : List Candidate) → AreApart xs → best k xs ≡ first k xs
best-first k xs apart = best-is xs (in_order xs) (in_order-permutation xs) (in_order-descends xs apart) k

-- the k-th score by rank is that of the k-th place
pub kth_score-kth : (k : ℕ) (xs : List Candidate) → AreApart xs → kth_score k xs ≡ kth k xs
kth_score-kth zero xs apart = refl
kth_score-kth (suc j) xs apart = ap (option_map (λ (c : Candidate). c.score))
    (of_rank-is xs (in_order xs) (in_order-permutation xs) (in_order-descends xs apart) j)

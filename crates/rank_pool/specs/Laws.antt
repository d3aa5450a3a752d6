-- What is true of pools. Each is a statement for the contract of a public function.
use Rattle.std.specs.Prelude.{◌≡◌, ◌↔◌, ℕ, ◌<◌, ◌≤◌, true, List, [], ◌∷◌, ◌++◌, ℤ, ◌≤ℤ◌, fold}
use Rattle.std.specs.List.{AllByRecursion}
use Rattle.std.specs.List.Sorted.{IsPermutation}
use Rattle.rank_scores.specs.declared.candidate.Candidate.{Candidate}
use Rattle.rank_scores.specs.Order.{AreApart, best, kth_score, bound_is_below}
use Rattle.rank_pool.specs.First.{in_order, first, kth, above}
use Rattle.rank_pool.specs.Pools.{Pool, taken, last_score, HoldsFirst}

-- ---- pools

-- a pool that held the first of some candidates holds the first of these and one more
abbrev pub HoldsOneMore : Type 0
HoldsOneMore = (p : Pool) (xs : List Candidate) (c : Candidate) → HoldsFirst p xs
    → HoldsFirst (taken p c) (xs ++ c ∷ [])

-- a pool that held the first of some candidates holds the first of these and all that it is offered
abbrev pub HoldsAllOffered : Type 0
HoldsAllOffered = (p : Pool) (xs ys : List Candidate) → HoldsFirst p xs → HoldsFirst (fold taken p ys) (xs ++ ys)

-- a pool keeps its size, whatever it is offered
abbrev pub KeepsItsSize : Type 0
KeepsItsSize = (p : Pool) (ys : List Candidate) → (fold taken p ys).size ≡ p.size

-- a pool that is offered what another of its size holds, holds the first of all that both were offered
abbrev pub HoldsMerged : Type 0
HoldsMerged = (p o : Pool) (xs ys : List Candidate) → o.size ≡ p.size → HoldsFirst p xs → HoldsFirst o ys →
    HoldsFirst (fold taken p o.held) (xs ++ ys)

-- the score of a pool's last place is the k-th score of all that it was offered
abbrev pub LastIsKth : Type 0
LastIsKth = (p : Pool) (xs : List Candidate) → 0 < p.size → HoldsFirst p xs → last_score p ≡ kth p.size xs

-- ---- the first

-- put in order, two lists are one list if and only if they have the same candidates, each as often
abbrev pub OneOrder : Type 0
OneOrder = (xs ys : List Candidate) → (in_order xs ≡ in_order ys) ↔ IsPermutation xs ys

-- the first k of the first k of some and of others are the first k of all
abbrev pub FirstOfFirst : Type 0
FirstOfFirst = (k : ℕ) (xs ys : List Candidate) →
    (first k (first k xs ++ ys) ≡ first k (xs ++ ys)) × (first k (xs ++ first k ys) ≡ first k (xs ++ ys))

-- if k candidates score above a number, others that don't leave the first k as they are
abbrev pub LowStayOut : Type 0
LowStayOut = (k : ℕ) (b : ℤ) (xs ys : List Candidate) → k ≤ above b xs → AllByRecursion (λ y. y.score ≤ℤ b) ys →
    first k (xs ++ ys) ≡ first k xs

-- ---- scores and ranks

-- a number is strictly below the k-th score if and only if k candidates or more score above it
abbrev pub BelowKth : Type 0
BelowKth = (k : ℕ) (b : ℤ) (xs : List Candidate) → 0 < k → (bound_is_below (kth k xs) b ≡ true) ↔ (k ≤ above b xs)

-- of candidates that are apart, the best by rank are the first in order
abbrev pub BestAreFirst : Type 0
BestAreFirst = (k : ℕ) (xs : List Candidate) → AreApart xs → best k xs ≡ first k xs

-- of candidates that are apart, the k-th score by rank is that of the k-th place
abbrev pub KthByRank : Type 0
KthByRank = (k : ℕ) (xs : List Candidate) → AreApart xs → kth_score k xs ≡ kth k xs

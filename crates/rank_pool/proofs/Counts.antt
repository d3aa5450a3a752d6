-- How many candidates score above a number, and what that says of the k-th score.
use Rattle.std.proofs.Common.{◌≡◌, ℕ, zero, suc, ◌+◌, ◌<◌, ◌≤◌, Bool, true, false, cond, List, [], ◌∷◌, ◌++◌, Option}
use Rattle.std.proofs.Common.{Ordering, ℤ, ◌≤ℤ◌, refl, ap, arith, ◌↔◌}
use Rattle.std.specs.Prelude.{int_lt, slice_get}
use Rattle.std.specs.List.{count_by, AllByRecursion}
use Rattle.std.specs.Option.{option_map}
use Rattle.std.specs.Ordering.{is_le, int_cmp, ordering_then}
use Rattle.std.proofs.lemmas.Int.{ints}
use Rattle.std.proofs.lemmas.List.Sorted.{sum_by-IsPermutation}
use Rattle.std.proofs.lemmas.List.Sums.{sum_by-cons, sum_by-append}
use Rattle.ghcn_files.proofs.Ordered.{sorted-permutation}
use Rattle.ghcn_files.proofs.Among.{each-weaker}
use Rattle.rank_scores.specs.declared.candidate.Candidate.{Candidate}
use Rattle.rank_scores.specs.Order.{bound_is_below}
use Rattle.rank_pool.specs.First.{comes_first, in_order, kth, above}
use Rattle.rank_pool.proofs.Orders.{InTurn, in_order-turn}

-- a test, as a number that counts
abbrev pub one_if : Bool → ℕ
one_if b = cond b 1 0

-- one more candidate that may pass a test
pub count-cons : (t : Candidate → Bool) (x : Candidate) (xs : List Candidate)
    → count_by t (x ∷ xs) ≡ one_if (t x) + count_by t xs
count-cons t x xs = sum_by-cons (λ (c : Candidate). one_if (t c)) x xs

-- one more candidate
pub above-cons : (b : ℤ) (x : Candidate) (xs : List Candidate)
    → above b (x ∷ xs) ≡ one_if (int_lt b x.score) + above b xs
above-cons b x xs = count-cons (λ c. int_lt b c.score) x xs

-- the number that score above in two lists together is the sum of both numbers
pub above-append : (b : ℤ) (xs ys : List Candidate) → above b (xs ++ ys) ≡ above b xs + above b ys
above-append b xs ys = sum_by-append (λ (c : Candidate). one_if (int_lt b c.score)) xs ys

-- the order changes no count
pub above-in_order : (b : ℤ) (xs : List Candidate) → above b (in_order xs) ≡ above b xs
above-in_order b xs = sum_by-IsPermutation (λ (c : Candidate). one_if (int_lt b c.score)) xs (in_order xs)
    (sorted-permutation comes_first xs)

-- ---- scores fall

-- none of these scores above a number
abbrev pub NoneAbove : ℤ → List Candidate → Type 0
NoneAbove s ys = AllByRecursion (λ y. y.score ≤ℤ s) ys

-- none scores above one that comes before it
abbrev pub ScoresFall : List Candidate → Type 0
ScoresFall [] = Unit {0}
ScoresFall (y ∷ ys) = NoneAbove y.score ys × ScoresFall ys

-- what is at most another is so by the first comparison
by_score : (o p l : Ordering) → is_le (ordering_then (ordering_then o p) l) ≡ true → is_le o ≡ true
by_score o p l e = grind arith

-- what comes first scores no less
pub score_first : (a b : Candidate) → comes_first a b ≡ true → b.score ≤ℤ a.score
score_first a b e =
    let scores : is_le (int_cmp b.score a.score) ≡ true = by_score _ _ _ e in
    grind (arith, ints)

-- the scores of candidates in turn fall
pub falls : (ys : List Candidate) → InTurn ys → ScoresFall ys
falls [] h = tt
falls (y ∷ ys) h = (
  each-weaker (λ z. comes_first y z ≡ true) (λ z. z.score ≤ℤ y.score) ys (λ z e. score_first y z e) h.0,
  falls ys h.1,
)

-- so do those of candidates in their order
pub in_order-falls : (xs : List Candidate) → ScoresFall (in_order xs)
in_order-falls xs = falls (in_order xs) (in_order-turn xs)

-- if a line isn't below a number that is above all, none is above the line
pub none_above : (b s : ℤ) (ys : List Candidate) → int_lt b s ≡ false → NoneAbove s ys → above b ys ≡ 0
none_above b s [] h a = refl
none_above b s (y ∷ ys) h a =
    let e : int_lt b y.score ≡ false = grind (arith, ints, a.0, h) in
    omega (arith, above-cons b y ys, ap one_if e, none_above b s ys h a.1)

-- ---- the k-th score

-- the score at a place
abbrev pub score_at : List Candidate → ℕ → Option ℤ
score_at ys j = option_map (λ (c : Candidate). c.score) (slice_get ys j)

-- if scores fall, the one at a place is above b if and only if more than that many are
pub at_place : (b : ℤ) (ys : List Candidate) (j : ℕ) → ScoresFall ys
    → (bound_is_below (score_at ys j) b ≡ true) ↔ (j < above b ys)
at_place b [] j d = (λ h. absurd cc, λ h. absurd (omega arith))
at_place b (y ∷ ys) zero d =
    let more = above-cons b y ys in
    let none = λ (e : int_lt b y.score ≡ false). none_above b y.score ys e d.0 in
    (λ h. grind arith, λ h. grind arith)
at_place b (y ∷ ys) (suc j) d =
    let more = above-cons b y ys in
    let none = λ (e : int_lt b y.score ≡ false). none_above b y.score ys e d.0 in
    let rest = at_place b ys j d.1 in
    (λ h. let many = rest.0 h in grind arith, λ h. rest.1 (grind arith))

-- a number is strictly below the k-th score if and only if k candidates or more score above it
pub below_kth : (k : ℕ) (b : ℤ) (xs : List Candidate) → 0 < k → (bound_is_below (kth k xs) b ≡ true) ↔ (k ≤ above b xs)
below_kth zero b xs some = absurd (omega arith)
below_kth (suc j) b xs some =
    let at = at_place b (in_order xs) j (in_order-falls xs) in
    (λ h. omega (arith, above-in_order b xs, at.0 h), λ h. at.1 (omega (arith, above-in_order b xs)))

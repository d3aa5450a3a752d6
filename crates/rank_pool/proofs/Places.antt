-- Candidates that take their places one after another, and what the first k of some keep of the first k of more.
use Rattle.std.proofs.Common.{◌≡◌, ℕ, zero, suc, ◌≤◌, true, List, [], ◌∷◌, ◌++◌, take, refl, sym, ap, ◌∙◌}
use Rattle.std.proofs.Common.{append-nil, append_assoc, subst, arith}
use Rattle.std.specs.List.{fold}
use Rattle.std.proofs.lemmas.List.Sorted.{IsPermutation-append_comm, IsPermutation-to_front}
use Rattle.ghcn_fields.specs.Sorting.{placed}
use Rattle.rank_scores.specs.declared.candidate.Candidate.{Candidate}
use Rattle.rank_pool.specs.First.{comes_first, in_order, first}
use Rattle.rank_pool.specs.Pools.{Pool, taken, HoldsFirst}
use Rattle.rank_pool.proofs.Orders.{InTurn, in_order-turn, sorted-fixed, take-all}
use Rattle.rank_pool.proofs.Moves.{same_order}

-- the order doesn't depend on which of two lists comes first
pub in_order-append_comm : (xs ys : List Candidate) → in_order (xs ++ ys) ≡ in_order (ys ++ xs)
in_order-append_comm xs ys = same_order (xs ++ ys) (ys ++ xs) (IsPermutation-append_comm xs ys)

-- one candidate more at the end takes its place
pub in_order-push : (xs : List Candidate) (c : Candidate) → in_order (xs ++ c ∷ []) ≡ placed comes_first c (in_order xs)
in_order-push xs c = same_order (xs ++ c ∷ []) (c ∷ xs) (IsPermutation-to_front xs c)

-- ---- the first k

-- fewer of more
fewer : {X : Type 0} (k n : ℕ) (xs : List X) → k ≤ n → take k (take n xs) ≡ take k xs
fewer zero n xs h = refl
fewer (suc k) zero xs h = absurd (omega arith)
fewer (suc k) (suc n) [] h = refl
fewer (suc k) (suc n) (x ∷ xs) h = ap (λ l. x ∷ l) (fewer k n xs (omega arith))

-- to take a place among the first k is enough
placed_cut : (k : ℕ) (x : Candidate) (ys : List Candidate)
    → take k (placed comes_first x (take k ys)) ≡ take k (placed comes_first x ys)
placed_cut zero x ys = refl
placed_cut (suc k) x [] = refl
placed_cut (suc k) x (y ∷ ys) =
    let here = fewer k (suc k) (y ∷ ys) (omega arith) in
    let behind = placed_cut k x ys in
    grind arith

-- a pool that held the first of some candidates holds the first of these and one more
pub holds-push : (p : Pool) (xs : List Candidate) (c : Candidate) → HoldsFirst p xs
    → HoldsFirst (taken p c) (xs ++ c ∷ [])
holds-push p xs c h =
    ap (λ (l : List Candidate). take p.size (placed comes_first c l)) h
    ∙ placed_cut p.size c (in_order xs)
    ∙ sym (ap (take p.size) (in_order-push xs c))

-- so does one that became what it is with one more
pub holds_taken : (p new : Pool) (xs : List Candidate) (c : Candidate) → new ≡ taken p c → HoldsFirst p xs
    → HoldsFirst new (xs ++ c ∷ [])
holds_taken p new xs c e h = subst (λ (o : Pool). HoldsFirst o (xs ++ c ∷ [])) (sym e) (holds-push p xs c h)

-- a pool keeps its size
pub size-fold : (p : Pool) (ys : List Candidate) → (fold taken p ys).size ≡ p.size
size-fold p [] = refl
size-fold p (y ∷ ys) = size-fold (taken p y) ys

-- a pool that held the first of some candidates holds the first of these and all that it is offered
pub holds-fold : (p : Pool) (xs ys : List Candidate) → HoldsFirst p xs → HoldsFirst (fold taken p ys) (xs ++ ys)
holds-fold p xs [] h = h ∙ ap (first p.size) (sym (append-nil xs))
holds-fold p xs (y ∷ ys) h =
    holds-fold (taken p y) (xs ++ y ∷ []) ys (holds-push p xs y h)
    ∙ ap (first (fold taken (taken p y) ys).size) (append_assoc xs (y ∷ []) ys)

-- ---- the first k of the first k

-- the first of some in turn are in turn
take-turn : (k : ℕ) (ys : List Candidate) → InTurn ys → InTurn (take k ys)
take-turn zero ys h = tt
take-turn (suc k) [] h = tt
take-turn (suc k) (y ∷ ys) h = (take-all (λ z. comes_first y z ≡ true) k ys h.0, take-turn k ys h.1)

-- the first of some candidates are in order
pub first-in_order : (k : ℕ) (xs : List Candidate) → in_order (first k xs) ≡ first k xs
first-in_order k xs = sorted-fixed comes_first (first k xs) (take-turn k (in_order xs) (in_order-turn xs))

-- the first k of some and of the first k of more are those of all
pub first-first_right : (k : ℕ) (xs ys : List Candidate) → first k (xs ++ first k ys) ≡ first k (xs ++ ys)
first-first_right k [] ys = ap (take k) (first-in_order k ys) ∙ fewer k k (in_order ys) (omega arith)
first-first_right k (x ∷ xs) ys =
    sym (placed_cut k x (in_order (xs ++ first k ys)))
    ∙ ap (λ (l : List Candidate). take k (placed comes_first x l)) (first-first_right k xs ys)
    ∙ placed_cut k x (in_order (xs ++ ys))

-- and so of the first k and of more
pub first-first_left : (k : ℕ) (xs ys : List Candidate) → first k (first k xs ++ ys) ≡ first k (xs ++ ys)
first-first_left k xs ys =
    ap (take k) (in_order-append_comm (first k xs) ys) ∙ first-first_right k ys xs
    ∙ ap (take k) (in_order-append_comm ys xs)

-- a pool that is offered what another holds, holds the first of all that both were offered
pub holds-merged : (p o : Pool) (xs ys : List Candidate) → o.size ≡ p.size → HoldsFirst p xs → HoldsFirst o ys
    → HoldsFirst (fold taken p o.held) (xs ++ ys)
holds-merged p o xs ys same h g =
    let size : (fold taken p o.held).size ≡ p.size = size-fold p o.held in
    let theirs : o.held ≡ first p.size ys = g ∙ ap (λ (n : ℕ). first n ys) same in
    holds-fold p xs o.held h ∙ ap (λ (n : ℕ). first n (xs ++ o.held)) size
    ∙ ap (λ (l : List Candidate). first p.size (xs ++ l)) theirs
    ∙ first-first_right p.size xs ys ∙ ap (λ (n : ℕ). first n (xs ++ ys)) (sym size)

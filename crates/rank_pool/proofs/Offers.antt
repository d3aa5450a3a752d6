-- What an offer leaves.
use Rattle.std.proofs.Common.{◌≡◌, ℕ, zero, suc, ◌-◌, ◌<◌, true, List, [], ◌∷◌, take, length, refl, sym, ap}
use Rattle.std.proofs.Common.{◌∙◌, subst, arith, Option, Some, Result, Ok, Err, ℤ, ◌<ℤ◌}
use Rattle.std.specs.List.{AllByRecursion, fold}
use Rattle.std.proofs.lemmas.Int.{ints}
use Rattle.std.specs.Prelude.{int_lt, slice_get, if◌then◌else◌, is_ok, IsOk}
use Rattle.std.specs.Option.{option_map}
use Rattle.std.specs.Result.{OnOk, OnErr}
use Rattle.std.proofs.lemmas.List.{length-take, take_all}
use Rattle.ghcn_fields.specs.Sorting.{placed}
use Rattle.rank_scores.specs.declared.candidate.Candidate.{Candidate}
use Rattle.rank_scores.specs.Order.{bound_is_below}
use Rattle.rank_pool.specs.First.{comes_first, in_order, first, kth, above}
use Rattle.rank_pool.specs.Pools.{Pool, IsPool, HoldsFirst, taken, last_score}
use Rattle.rank_pool.proofs.Orders.{InTurn, in_order-turn}
use Rattle.rank_pool.proofs.Places.{first-in_order}
use Rattle.rank_pool.proofs.Counts.{ScoresFall, falls, at_place}
use Rattle.rank_pool.proofs.Kept.{low_past}

-- ---- a candidate that is taken

-- the first of one more are that one and the first of the others, one fewer
pub take_first : (k : ℕ) (x : Candidate) (xs : List Candidate) → 0 < k → x ∷ take (k - 1) xs ≡ take k (x ∷ xs)
take_first zero x xs some = absurd (omega arith)
take_first (suc k) x xs some =
    let one : suc k - 1 ≡ k = omega arith in
    ap (λ (n : ℕ). x ∷ take n xs) one

-- a pool stays one with one candidate more
pub still_pool : (p : Pool) (x : Candidate) (new : List Candidate) → IsPool p
    → new ≡ take p.size (placed comes_first x p.held) → IsPool (record { size = p.size; held = new })
still_pool p x new h e =
    let held : new ≡ first p.size (x ∷ p.held) =
    e ∙ ap (λ (l : List Candidate). take p.size (placed comes_first x l)) (sym h.order) in
    record {
      some = h.some;
      limit = h.limit;
      few = omega (arith, ap length held, length-take p.size (in_order (x ∷ p.held)));
      order = ap in_order held ∙ first-in_order p.size (x ∷ p.held) ∙ sym held;
    }

-- if a candidate scores below the last place, the pool stays as it is
pub falls_out : (p : Pool) (x : Candidate) (s : ℤ) → IsPool p → last_score p ≡ Some s → int_lt x.score s ≡ true
    → p ≡ taken p x
falls_out p x s pool last low =
    let below : bound_is_below (last_score p) x.score ≡ true =
    ap (λ (o : Option ℤ). bound_is_below o x.score) last ∙ low in
    let fall : ScoresFall p.held = falls p.held (subst InTurn pool.order (in_order-turn p.held)) in
    let many : p.size - 1 < above x.score p.held = (at_place x.score p.held (p.size - 1) fall).0 below in
    ap (λ (l : List Candidate). record { size = p.size; held = l })
    (sym (low_past x p.held p.size fall (omega (arith, many)) ∙ take_all p.size p.held pool.few))

-- so it does if all of some candidates score below it
pub all_fall_out : (p : Pool) (xs : List Candidate) (s : ℤ) → IsPool p → last_score p ≡ Some s
    → AllByRecursion (λ x. x.score <ℤ s) xs → p ≡ fold taken p xs
all_fall_out p [] s pool last low = refl
all_fall_out p (x ∷ xs) s pool last low =
    let under : x.score <ℤ s = low.0 in
    let below : int_lt x.score s ≡ true = grind (arith, ints) in
    all_fall_out p xs s pool last low.1
    ∙ ap (λ (q : Pool). fold taken q xs) (falls_out p x s pool last below)

-- what doesn't fail is done
pub was_ok : {T E : Type 0} (P Q : Type 0) (r : Result T E) → OnOk r P → OnErr r Q → (Q → ⊥) → P
was_ok P Q (Ok x) done failed none = done
was_ok P Q (Err e) done failed none = absurd (none failed)

-- if putting an element in doesn't fail, the element is there
pub is_put : {T E : Type 0} (new put old : List Candidate) (r : Result T E) → new ≡ (if is_ok r then put else old)
    → IsOk r → new ≡ put
is_put new put old (Ok x) e done = e
is_put new put old (Err x) e done = absurd cc

-- ---- the last place

-- one of fewer is one of more
slice_get-take : (ys : List Candidate) (k j : ℕ) → j < k → slice_get (take k ys) j ≡ slice_get ys j
slice_get-take ys zero j h = absurd (omega arith)
slice_get-take [] (suc k) j h = refl
slice_get-take (y ∷ ys) (suc k) zero h = refl
slice_get-take (y ∷ ys) (suc k) (suc j) h = slice_get-take ys k j (omega arith)

-- the last place of the first k has the k-th score
last-kth : (k : ℕ) (xs : List Candidate) → 0 < k → last_score (record { size = k; held = first k xs }) ≡ kth k xs
last-kth zero xs some = absurd (omega arith)
last-kth (suc j) xs some =
    let one : suc j - 1 ≡ j = omega arith in
    ap (option_map (λ (c : Candidate). c.score)) (ap (slice_get (take (suc j) (in_order xs))) one
    ∙ slice_get-take (in_order xs) (suc j) j (omega arith))

-- the score of a pool's last place is the k-th score of all that it was offered
pub last_is_kth : (p : Pool) (xs : List Candidate) → 0 < p.size → HoldsFirst p xs → last_score p ≡ kth p.size xs
last_is_kth p xs some h = ap (λ (l : List Candidate). last_score (record { size = p.size; held = l })) h
    ∙ last-kth p.size xs some

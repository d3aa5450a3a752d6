-- What leaves the first k as they are: candidates no better than k others, and another order of all in the list.
use Rattle.std.proofs.Common.{◌≡◌, ℕ, zero, suc, ◌≤◌, Bool, true, false, cond, List, [], ◌∷◌, ◌++◌, take, refl, sym, ap}
use Rattle.std.proofs.Common.{◌∙◌, append-nil, append_assoc, arith, ℤ, ◌≤ℤ◌}
use Rattle.std.specs.Prelude.{int_lt}
use Rattle.std.specs.List.{AllByRecursion}
use Rattle.std.proofs.lemmas.Bool.{false_from_ne_true}
use Rattle.std.proofs.lemmas.Int.{ints}
use Rattle.ghcn_fields.specs.Sorting.{placed}
use Rattle.rank_scores.specs.declared.candidate.Candidate.{Candidate}
use Rattle.rank_pool.specs.First.{comes_first, in_order, first, above}
use Rattle.rank_pool.proofs.Places.{in_order-push, in_order-append_comm}
use Rattle.rank_pool.proofs.Counts.{one_if, above-cons, above-append, above-in_order, ScoresFall, in_order-falls}
use Rattle.rank_pool.proofs.Counts.{none_above, score_first}

-- what scores less doesn't come first
high_first : (z y : Candidate) → int_lt z.score y.score ≡ true → comes_first z y ≡ false
high_first z y h = false_from_ne_true _
    (λ e. let most : y.score ≤ℤ z.score = score_first z y e in grind (arith, ints))

-- a candidate that takes its place after k that score more leaves the first k as they are
pub low_past : (z : Candidate) (ys : List Candidate) (k : ℕ) → ScoresFall ys → k ≤ above z.score ys
    → take k (placed comes_first z ys) ≡ take k ys
low_past z ys zero f h = refl
low_past z [] (suc k) f h = absurd (omega (arith, h))
low_past z (y ∷ ys) (suc k) f h =
    elim (int_lt z.score y.score) as (λ b. int_lt z.score y.score ≡ b
    → take (suc k) (placed comes_first z (y ∷ ys)) ≡ take (suc k) (y ∷ ys)) [
      | true ↦ λ e.
          ap (λ (b : Bool). take (suc k) (cond b (z ∷ y ∷ ys) (y ∷ placed comes_first z ys))) (high_first z y e)
          ∙ ap (λ (l : List Candidate). y ∷ l)
          (low_past z ys k f.1 (omega (arith, h, above-cons z.score y ys, ap one_if e)))
      | false ↦ λ e.
          absurd (omega (arith, h, above-cons z.score y ys, ap one_if e, none_above z.score y.score ys e f.0))
    ] refl

-- above a lower line are no fewer
above-lower : (a b : ℤ) (ys : List Candidate) → a ≤ℤ b → above b ys ≤ above a ys
above-lower a b [] h = omega arith
above-lower a b (y ∷ ys) h =
    let here : one_if (int_lt b y.score) ≤ one_if (int_lt a y.score) = grind (arith, ints) in
    omega (arith, above-cons a y ys, above-cons b y ys, above-lower a b ys h, here)

-- if k candidates score above d, more that don't leave the first k as they are
pub first-low : (k : ℕ) (d : ℤ) (ys zs : List Candidate) → k ≤ above d ys → AllByRecursion (λ z. z.score ≤ℤ d) zs
    → first k (ys ++ zs) ≡ first k ys
first-low k d ys [] far low = ap (first k) (append-nil ys)
first-low k d ys (z ∷ zs) far low =
    ap (first k) (sym (append_assoc ys (z ∷ []) zs))
    ∙ first-low k d (ys ++ z ∷ []) zs (omega (arith, far, above-append d ys (z ∷ []))) low.1
    ∙ ap (take k) (in_order-push ys z)
    ∙ low_past z (in_order ys) k (in_order-falls ys)
    (omega (arith, far, above-in_order z.score ys, above-lower z.score d ys low.0))

-- ---- in whatever order

-- two lists have the same candidates, each as often
abbrev pub Alike : List Candidate → List Candidate → Type 0
Alike xs ys = in_order xs ≡ in_order ys

-- more of the same in front
pub alike-right : (zs xs ys : List Candidate) → Alike xs ys → Alike (zs ++ xs) (zs ++ ys)
alike-right [] xs ys e = e
alike-right (z ∷ zs) xs ys e = ap (placed comes_first z) (alike-right zs xs ys e)

-- more of the same after both
pub alike-left : (xs ys zs : List Candidate) → Alike xs ys → Alike (xs ++ zs) (ys ++ zs)
alike-left xs ys zs e = in_order-append_comm xs zs ∙ alike-right zs xs ys e ∙ in_order-append_comm zs ys

-- they have the same first
pub alike-first : (k : ℕ) (xs ys : List Candidate) → Alike xs ys → first k xs ≡ first k ys
alike-first k xs ys e = ap (take k) e

-- a part in the middle, moved to the end
pub alike-middle : (xs ys zs : List Candidate) → Alike (xs ++ (ys ++ zs)) ((xs ++ zs) ++ ys)
alike-middle xs ys zs =
    alike-right xs (ys ++ zs) (zs ++ ys) (in_order-append_comm ys zs) ∙ ap in_order (sym (append_assoc xs zs ys))

-- What is true of every plan's task.
use Rattle.rank_sched.proofs.Cited.{rules, ◌≡◌, ℕ, zero, suc, ◌<◌, ◌≤◌, true, List, [], ◌∷◌, length, map, filter}
use Rattle.rank_sched.proofs.Cited.{Option, Some, None, refl, arith, pos, ◌≤ℤ◌, slice_get, AllByRecursion}
use Rattle.rank_sched.proofs.Cited.{option_map_or, ints, recursion_from_All, All-from_recursion, All-permutation}
use Rattle.rank_sched.proofs.Cited.{IsPermutation-trans, IsScore, Series, Data, IsContents, Query, candidates}
use Rattle.rank_sched.proofs.Cited.{has_admitted, admitted_series, morsels, all_candidates, IsAskedOf, AreApart, bound}
use Rattle.rank_sched.proofs.Cited.{computed-IsBound, bound-above, Morsel, Plan, measured, is_drawn_first, planned}
use Rattle.rank_sched.proofs.Cited.{AreDrawnInTurn, IsPlan, task_of, all_of_task, PlansAreFair, all_apart}
use Rattle.rank_sched.proofs.Cited.{morsels_asked, sorted-permutation, from_all}
use Rattle.rank_sched.proofs.PlanBest.{plan_alike, apart_alike}
use Rattle.rank_sched.proofs.PlanOrder.{sorted-in_turn}
use Rattle.rank_sched.proofs.PlanMade.{by_id, few_morsels}
use Rattle.rank_sched.proofs.ScoreRanges.{candidates_ranged}

-- a series that the query asks about, with its bound
pub record IsMeasured (q : Query) (m : Morsel) : Type 0 where
  pub bounded : m.bound ≡ bound q m.series
  pub asked : IsAskedOf q m.series

-- series that the query asks about are measured with their bounds
all_measured : (q : Query) (us : List Series) → AllByRecursion (IsAskedOf q) us
    → AllByRecursion (IsMeasured q) (map (measured q) us)
all_measured q [] h = tt
all_measured q (u ∷ us) h = (record { bounded = refl; asked = h.0 }, all_measured q us h.1)

-- the morsels of the plan are measured
pub plan_measured : (q : Query) (c : Data) → IsContents c → AllByRecursion (IsMeasured q) (planned q c).morsels
plan_measured q c right =
    let ms : List Morsel = map (measured q) (filter (has_admitted q) (admitted_series q c)) in
    recursion_from_All (IsMeasured q) (planned q c).morsels
    (All-permutation (IsMeasured q) ms (planned q c).morsels (IsPermutation-trans ms (map (measured q) (morsels q c))
    (planned q c).morsels (by_id q c) (sorted-permutation is_drawn_first (map (measured q) (morsels q c))))
    (All-from_recursion (IsMeasured q) ms (all_measured q (filter (has_admitted q) (admitted_series q c))
    (morsels_asked q c right))))

-- the morsels of a plan are measured
measured_of : (p : Plan) → IsPlan p → AllByRecursion (IsMeasured p.query) p.morsels
measured_of p is = grind (arith, plan_measured)

-- no candidate's score is above the bound of its morsel
pub plan_bounded : (p : Plan) → IsPlan p → (m : ℕ)
    → AllByRecursion (λ c. c.score ≤ℤ (task_of p).bound m) ((task_of p).candidates m)
plan_bounded p is m = by_morsel (slice_get p.morsels m) refl
  where
    by_morsel : (o : Option Morsel) → slice_get p.morsels m ≡ o
        → AllByRecursion (λ c. c.score ≤ℤ option_map_or (λ x. x.bound) o (pos 0))
        (option_map_or (λ x. candidates p.query x.series) o [])
    by_morsel None e = tt
    by_morsel (Some x) e =
        let own : IsMeasured p.query x = from_all (IsMeasured p.query) p.morsels m x (measured_of p is) e in
        rw own.bounded (grind (arith, bound-above, computed-IsBound))

-- all candidates of a plan are apart
pub plan_apart : (p : Plan) → IsPlan p → AreApart (all_of_task (task_of p))
plan_apart p is =
    let made = planned p.query is.dataset in
    let apart = apart_alike (all_of_task (task_of made)) (all_candidates p.query is.dataset)
    (plan_alike p.query is.dataset) (all_apart p.query is.dataset is.right) in
    grind arith

-- no morsel that is drawn later has a greater bound
each_lower : (x : Morsel) (ms : List Morsel) → AllByRecursion (λ n. is_drawn_first x n ≡ true) ms
    → AllByRecursion (λ n. n.bound ≤ℤ x.bound) ms
each_lower x [] h = tt
each_lower x (n ∷ ms) h = grind (arith, each_lower x ms h.1)

-- no bound of morsels in turn is above that of a smaller number
falls : (ms : List Morsel) (m n : ℕ) → AreDrawnInTurn ms → m ≤ n → n < length ms
    → option_map_or (λ x. x.bound) (slice_get ms n) (pos 0) ≤ℤ option_map_or (λ x. x.bound) (slice_get ms m) (pos 0)
falls [] m n h le lt = absurd (omega arith)
falls (x ∷ ms) zero zero h le lt = omega (arith, ints)
falls (x ∷ ms) (suc m) zero h le lt = absurd (omega arith)
falls (x ∷ ms) (suc m) (suc n) h le lt = falls ms m n h.1 (omega arith) (omega arith)
falls (x ∷ ms) zero (suc n) h le lt = at_all ms n (each_lower x ms h.0) (omega arith)
  where
    at_all : (ns : List Morsel) (i : ℕ) → AllByRecursion (λ y. y.bound ≤ℤ x.bound) ns → i < length ns
        → option_map_or (λ y. y.bound) (slice_get ns i) (pos 0) ≤ℤ x.bound
    at_all [] i a l = absurd (omega arith)
    at_all (y ∷ ns) zero a l = a.0
    at_all (y ∷ ns) (suc i) a l = at_all ns i a.1 (omega arith)

-- the bounds of a plan fall
pub plan_falls : (p : Plan) → IsPlan p → (m n : ℕ) → m ≤ n → n < (task_of p).len
    → (task_of p).bound n ≤ℤ (task_of p).bound m
plan_falls p is m n le lt = grind (arith, falls, sorted-in_turn)

-- each candidate's score can be a floor
pub plan_scores : (p : Plan) → IsPlan p → (m : ℕ)
    → AllByRecursion (λ c. IsScore c.score) ((task_of p).candidates m)
plan_scores p is m = grind (arith, ints, from_all, measured_of p is, candidates_ranged)

-- what a plan asks is fair
pub plans_fair : PlansAreFair
plans_fair p is = search (rules, few_morsels, plan_scores, plan_bounded, plan_falls, plan_apart)

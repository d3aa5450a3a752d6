-- The candidates of a plan are those of the query in another order, so they have the same best.
use Rattle.rank_sched.proofs.Cited.{flat_map-map, ◌≡◌, ℕ, zero, suc, Bool, List, [], ◌∷◌, ◌++◌, length, length-append}
use Rattle.rank_sched.proofs.Cited.{take, map, filter, Some, refl, sym, ap, ◌∙◌, append_assoc, arith, rules, IfOk}
use Rattle.rank_sched.proofs.Cited.{Result, Ok, Err, slice_get, flat_map, range_with_len, option_map, option_map_or}
use Rattle.rank_sched.proofs.Cited.{IsPermutation-sym, IsDistinct-IsPermutation, placed, sorted_by, Data, Query}
use Rattle.rank_sched.proofs.Cited.{Candidate, candidates, begin_alike, AreApart, kth_score, admitted_series}
use Rattle.rank_sched.proofs.Cited.{has_admitted, all_candidates, morsels, asked_alone, all_apart, in_order, kth}
use Rattle.rank_sched.proofs.Cited.{in_order-append_comm, in_order-permutation, best-first, kth_score-kth, Alike}
use Rattle.rank_sched.proofs.Cited.{alike-right, alike-left, Record, Answer, IsAnswer, AreBestOfQuery, best_of_plan}
use Rattle.rank_sched.proofs.Cited.{Plan, Morsel, measured, is_drawn_first, planned, task_of, all_of_task}
use Rattle.rank_sched.proofs.Cited.{PlanHasTheBest, ints}

-- ---- the same candidates in another order

-- two parts may change places
alike_swap : (xs ys zs : List Candidate) → Alike (xs ++ (ys ++ zs)) (ys ++ (xs ++ zs))
alike_swap xs ys zs = search (rules, append_assoc, alike-left, in_order-append_comm)

module _ {A : Type 0} (before : A → A → Bool) (f : A → List Candidate) where
  -- placing an element among others changes no more than the order
  alike_placed : (x : A) (ys : List A) → Alike (flat_map f (placed before x ys)) (f x ++ flat_map f ys)
  alike_placed x [] = refl
  alike_placed x (y ∷ ys) = grind (arith, alike-right, alike_swap, alike_placed x ys)

  -- sorting changes no more than the order
  alike_sorted : (xs : List A) → Alike (flat_map f (sorted_by before xs)) (flat_map f xs)
  alike_sorted [] = refl
  alike_sorted (x ∷ xs) = grind (arith, alike_placed, alike-right, alike_sorted xs)

-- an element after some others
pub get_behind : {A : Type 0} (front : List A) (x : A) (rest : List A)
    → slice_get (front ++ x ∷ rest) (length front) ≡ Some x
get_behind [] x rest = refl
get_behind (y ∷ front) x rest = get_behind front x rest

-- the elements at all places are the list
by_place : {A : Type 0} (f : A → List Candidate) (front ms : List A)
    → flat_map (λ (m : ℕ). option_map_or f (slice_get (front ++ ms) m) [])
    (range_with_len (length front) (length ms)) ≡ flat_map f ms
by_place f front [] = refl
by_place {A} f front (x ∷ ms) = grind (arith, get_behind, length-append, append_assoc, by_place f (front ++ x ∷ []) ms)

-- the candidates of a plan are the query's, in another order
pub plan_alike : (q : Query) (c : Data) → Alike (all_of_task (task_of (planned q c))) (all_candidates q c)
plan_alike q c =
    let f : Morsel → List Candidate = λ m. candidates q m.series in
    let ms : List Morsel = map (measured q) (morsels q c) in
    ap in_order (by_place f [] (sorted_by is_drawn_first ms))
    ∙ alike_sorted is_drawn_first f ms
    ∙ ap in_order (flat_map-map f (measured q) (morsels q c))
    ∙ alike_sorted _ (candidates q) (filter (has_admitted q) (admitted_series q c))
    ∙ ap in_order (asked_alone q (admitted_series q c))

-- ---- being apart

-- beginning alike is the same both ways
alike-symm : (a b : Candidate) → begin_alike a b ≡ begin_alike b a
alike-symm a b = search rules

-- being apart doesn't depend on the order
pub apart_alike : (xs ys : List Candidate) → Alike xs ys → AreApart ys → AreApart xs
apart_alike xs ys e a =
    let sorted : AreApart (in_order ys) = IsDistinct-IsPermutation begin_alike alike-symm ys (in_order ys)
    (in_order-permutation ys) a in
    IsDistinct-IsPermutation begin_alike alike-symm (in_order xs) xs
    (IsPermutation-sym xs (in_order xs) (in_order-permutation xs))
    (rw e sorted)

-- the best of a plan's candidates are the best of the query, and the k-th score is the query's
pub plan_has_best : PlanHasTheBest
plan_has_best q c asked right =
    let plan : List Candidate = all_of_task (task_of (planned q c)) in
    let all : List Candidate = all_candidates q c in
    let same : Alike plan all = plan_alike q c in
    let a : AreApart all = all_apart q c right in
    let b : AreApart plan = apart_alike plan all same a in (
      best-first q.k plan b ∙ ap (λ (l : List Candidate). take q.k l) same ∙ sym (best-first q.k all a),
      sym (kth_score-kth q.k plan b) ∙ kth_same q.k plan all same b,
    )
  where
    kth_of_order : (k : ℕ) (xs ys : List Candidate) → Alike xs ys → kth k xs ≡ kth k ys
    kth_of_order zero xs ys e = refl
    kth_of_order (suc j) xs ys e = ap (λ (l : List Candidate). option_map (λ (d : Candidate). d.score)
        (slice_get l j)) e

    kth_same : (k : ℕ) (xs ys : List Candidate) → Alike xs ys → AreApart xs → kth_score k xs ≡ kth_score k ys
    kth_same k xs ys e b = grind (arith, ints, kth_score-kth k xs b, kth_score-kth, apart_alike)

-- so the best of an answer are those of the query
pub best_of_answer : {E : Type 0} (p : Plan) (rs : List Record) (r : Result Answer E) → IfOk r (IsAnswer p rs)
    → IfOk r (λ a. AreBestOfQuery p a.best.items)
best_of_answer p rs (Ok a) is = λ q c asked right e. is.best_are ∙ ap best_of_plan e ∙ (plan_has_best q c asked right).0
best_of_answer p rs (Err e) is = tt

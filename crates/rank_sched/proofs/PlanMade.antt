-- The plan of a query is the one list of its morsels in which they are drawn.
use Rattle.rank_sched.proofs.Cited.{◌≡◌, ℕ, zero, suc, ◌≤◌, List, [], ◌∷◌, ◌++◌, length, take, map, filter}
use Rattle.rank_sched.proofs.Cited.{Option, Some, refl, ap, ◌∙◌, arith, option_to_list, rules, slice_get, filter_map}
use Rattle.rank_sched.proofs.Cited.{cons_option, IsDistinct, IsPermutation, IsSortedBy, option_map, IsPermutation-map}
use Rattle.rank_sched.proofs.Cited.{length_permutation, IsPermutation-trans, IsPermutation-sym}
use Rattle.rank_sched.proofs.Cited.{IsDistinct-IsPermutation, sorted_by, Station, Data, IsContents, Query}
use Rattle.rank_sched.proofs.Cited.{has_admitted, admitted_series, morsels, Morsel, Plan, measured, is_drawn_first}
use Rattle.rank_sched.proofs.Cited.{planned, IsPlan, measured_at, PlanIsTheOne, series_among, morsels_apart}
use Rattle.rank_sched.proofs.Cited.{distinct-map, sorted-permutation}
use Rattle.rank_sched.proofs.PlanOrder.{sorted-in_turn, strictly, sort-in_turn, of_one_station, of_one_station-symm}
use Rattle.rank_sched.proofs.PlanOrder.{one_order}

-- ---- one place more

-- an element in front of two lists is in front of the first
cons-append : {B : Type 0} (a : Option B) (xs ys : List B) → cons_option a (xs ++ ys) ≡ cons_option a xs ++ ys
cons-append a xs ys = grind arith

-- an element in front of nothing is alone
pub cons-alone : {B : Type 0} (a : Option B) → cons_option a [] ≡ option_to_list a
cons-alone a = grind arith

-- one place more of a list adds what is made of the element there, if anything is
pub kept-more : {A B : Type 0} (f : A → Option B) (xs : List A) (i : ℕ) (o : Option B)
    → option_map f (slice_get xs i) ≡ Some o → filter_map f (take (suc i) xs) ≡ filter_map f
    (take i xs) ++ option_to_list o
kept-more f [] i o e = absurd cc
kept-more f (x ∷ xs) zero o e = cc (cons-alone (f x))
kept-more f (x ∷ xs) (suc i) o e = simp (cons-append, kept-more f xs i o e)

-- ---- the morsels by station

module _ (q : Query) (c : Data) where
  -- the morsels station by station are the series that are asked about, with their bounds
  by_station : (sts : List Station) → filter_map (measured_at q c) sts ≡ map (measured q)
      (filter (has_admitted q) (series_among q c sts))
  by_station [] = refl
  by_station (st ∷ sts) = grind (arith, by_station sts)

  -- the morsels in file order, and by increasing ID
  pub by_id : IsPermutation (map (measured q) (filter (has_admitted q) (admitted_series q c)))
      (map (measured q) (morsels q c))
  by_id = IsPermutation-map (measured q) (filter (has_admitted q) (admitted_series q c)) (morsels q c)
      (grind (arith, sorted-permutation))

  -- no two morsels of a query belong to one station
  distinct_morsels : IsContents c → IsDistinct of_one_station (map (measured q) (morsels q c))
  distinct_morsels right = IsDistinct-IsPermutation of_one_station of_one_station-symm
      (map (measured q) (filter (has_admitted q) (admitted_series q c))) (map (measured q) (morsels q c)) by_id
      (distinct-map (measured q) of_one_station (filter (has_admitted q) (admitted_series q c))
      (morsels_apart q c right))

  -- what a sort by the comparison makes of the morsels by station is the plan's
  pub sort-planned : {X : Type 0} (seen : X → Morsel) (xs ys : List X) → IsContents c
      → map seen xs ≡ filter_map (measured_at q c) c.stations → IsPermutation xs ys → IsSortedBy (strictly seen) ys
      → map seen ys ≡ sorted_by is_drawn_first (map (measured q) (morsels q c))
  sort-planned seen xs ys right e p up =
      let ms : List Morsel = map (measured q) (filter (has_admitted q) (admitted_series q c)) in
      one_order (map (measured q) (morsels q c)) (map seen ys) (distinct_morsels right)
      (IsPermutation-trans (map (measured q) (morsels q c)) ms (map seen ys)
      (IsPermutation-sym ms (map (measured q) (morsels q c)) by_id)
      (rw (e ∙ by_station c.stations) at (IsPermutation-map seen xs ys p))) (sort-in_turn seen ys up)

-- plans with the same parts
same_plan : (p r : Plan) → p.query ≡ r.query → p.stations ≡ r.stations → p.morsels ≡ r.morsels → p ≡ r
same_plan p r a b d = search rules

-- the plan is the only one with its properties
pub plan_is_one : PlanIsTheOne
plan_is_one q c p right = (
  λ h. same_plan p (planned q c) h.asked h.listed
      (search (rules, one_order, distinct_morsels)),
  λ e. rw e (grind (arith, sorted-permutation, sorted-in_turn)),
)

-- ---- there are no more morsels than stations

-- no more is kept than there was
pub kept-length : {A B : Type 0} (f : A → Option B) (xs : List A) → length (filter_map f xs) ≤ length xs
kept-length f [] = omega arith
kept-length f (x ∷ xs) = grind (arith, kept-length f xs)

-- a plan has no more morsels than there may be stations
pub few_morsels : (p : Plan) → IsPlan p → length p.morsels ≤ 1_048_576
few_morsels p is =
    let q : Query = p.query in
    let sts : List Station = is.dataset.stations in
    let ms : List Morsel = map (measured q) (morsels q is.dataset) in
    let one = length_permutation (map (measured q) (filter (has_admitted q) (series_among q is.dataset sts))) ms
    (by_id q is.dataset) in
    let two = length_permutation ms (sorted_by is_drawn_first ms) (sorted-permutation is_drawn_first ms) in
    let all : length p.morsels ≡ length (sorted_by is_drawn_first ms) =
    cc in
    omega (arith, kept-length (measured_at q is.dataset) sts, ap length (by_station q is.dataset sts))

-- the morsels of a plan belong to different stations
pub plan_distinct : (p : Plan) → IsPlan p → IsDistinct of_one_station p.morsels
plan_distinct p is =
    let ms : List Morsel = map (measured p.query) (morsels p.query is.dataset) in
    let sorted : IsDistinct of_one_station (sorted_by is_drawn_first ms) =
    IsDistinct-IsPermutation of_one_station of_one_station-symm ms (sorted_by is_drawn_first ms)
    (sorted-permutation is_drawn_first ms) (distinct_morsels p.query is.dataset is.right) in
    rw is.plan sorted

-- The lines of a plan's answer are right entries, with the bounds of their series.
use Rattle.std.proofs.Common.{◌≡◌, ℕ, ◌+◌, Bool, true, false, cond, List, [], ◌∷◌, ◌++◌, length, map, Option, Some, refl, sym, ap, ◌∙◌, subst, arith, append_assoc, length-append, ℤ, pos, ◌≤ℤ◌}
use Rattle.std.specs.Prelude.{filter, slice_get}
use Rattle.std.specs.List.{enumerate_from, AllByRecursion, AllZip}
use Rattle.std.specs.List.Sorted.{IsPermutation}
use Rattle.std.specs.Option.{option_map_or}
use Rattle.std.proofs.lemmas.List.Sorted.{IsPermutation-map, IsPermutation-trans}
use Rattle.ghcn_fields.specs.Sorting.{placed, sorted_by}
use Rattle.ghcn_files.specs.declared.station.StationId.{StationId}
use Rattle.ghcn_series.specs.Meaning.Series.{Series}
use Rattle.ghcn_series.specs.Series.{Data}
use Rattle.ghcn_series.specs.Held.{IsContents}
use Rattle.rank_query.specs.Meaning.Asked.{Query, IsAsked}
use Rattle.rank_scores.specs.Candidates.{candidates}
use Rattle.rank_scores.specs.Order.{bound_is_below}
use Rattle.rank_scores.specs.Morsels.{admitted_series, has_admitted, morsels, id_comes_first, kth_of_query, IsAbove}
use Rattle.rank_scores.proofs.QueryCandidates.{morsels_apart}
use Rattle.rank_blocks.specs.Bounds.{bound}
use Rattle.rank_pool.specs.First.{kth}
use Rattle.rank_sched.specs.declared.haul.Haul.{Haul}
use Rattle.rank_sched.specs.Plan.{Morsel, Plan, IsPlan, measured, is_drawn_first, planned}
use Rattle.rank_sched.specs.Task.{task_of, all_of_task, IsFair}
use Rattle.rank_sched.specs.Hauls.{all_records, AreSound}
use Rattle.rank_sched.specs.Answers.{line_of, lines_of}
use Rattle.ghcn_files.proofs.IdOrder.{same_sort}
use Rattle.ghcn_files.proofs.Ordered.{sorted-permutation}
use Rattle.rank_sched.proofs.PlanBest.{get_behind, plan_has_best}
use Rattle.rank_sched.proofs.FairPlans.{IsMeasured, plan_measured, plans_fair}
use Rattle.rank_sched.proofs.Totals.{skips_right}
use Rattle.rank_papers.specs.Certificate.{Line, AreInRange, IsRightEntry}

-- ---- two lists that are sorted alike

module _ {A B : Type 0} (R : A → B → Type 0) (f : A → A → Bool) (g : B → B → Bool)
    (same : (a x : A) (b y : B) → R a b → R x y → f a x ≡ g b y) where
  -- one more is placed alike
  placed-zip : (a : A) (b : B) (xs : List A) (ys : List B) → R a b → AllZip R xs ys
      → AllZip R (placed f a xs) (placed g b ys)
  placed-zip a b [] [] r h = (r, tt)
  placed-zip a b [] (y ∷ ys) r h = absurd h
  placed-zip a b (x ∷ xs) [] r h = absurd h
  placed-zip a b (x ∷ xs) (y ∷ ys) r h =
      subst (λ (t : Bool). AllZip R (cond t (a ∷ x ∷ xs) (x ∷ placed f a xs)) (placed g b (y ∷ ys)))
      (sym (same a x b y r h.0))
      (elim (g b y) as (λ t. AllZip R (cond t (a ∷ x ∷ xs) (x ∷ placed f a xs))
      (cond t (b ∷ y ∷ ys) (y ∷ placed g b ys))) [
        | true ↦ (r, h)
        | false ↦ (h.0, placed-zip a b xs ys r h.1)
      ])

  -- so two lists are, element by element
  pub sorted-zip : (xs : List A) (ys : List B) → AllZip R xs ys → AllZip R (sorted_by f xs) (sorted_by g ys)
  sorted-zip [] [] h = tt
  sorted-zip [] (y ∷ ys) h = absurd h
  sorted-zip (x ∷ xs) [] h = absurd h
  sorted-zip (x ∷ xs) (y ∷ ys) h =
      placed-zip x y (sorted_by f xs) (sorted_by g ys) h.0 (sorted-zip xs ys h.1)

-- ---- the series of morsels

-- a series whose ID comes before another's, or is the same
abbrev comes_first : Series → Series → Bool
comes_first a b = id_comes_first a.id b.id

-- the series of a morsel
abbrev series_of_morsel : Morsel → Series
series_of_morsel m = m.series

-- measured series are the series
series-measured : (q : Query) (ss : List Series) → map series_of_morsel (map (measured q) ss) ≡ ss
series-measured q [] = refl
series-measured q (s ∷ ss) = ap (λ (l : List Series). s ∷ l) (series-measured q ss)

-- ---- lines and series

-- what the line of a series says: its ID and its bound, which is above its candidates, and a skip only if the bound is
-- strictly below the k-th score
pub record IsLineOf (q : Query) (kth : Option ℤ) (l : Line) (s : Series) : Type 0 where
  pub named : l.id ≡ s.id
  pub bounded : l.bound ≡ bound q s
  pub above : IsAbove q s l.bound
  pub passed_over : l.skipped ≡ true → bound_is_below kth l.bound ≡ true

-- such lines, with bounds inside 64 bits, are right entries
pub right_entries : (q : Query) (kth : Option ℤ) (ls : List Line) (ss : List Series)
    → AreInRange ls → AllZip (IsLineOf q kth) ls ss
    → AllZip (IsRightEntry q kth) ls ss
right_entries q kth [] [] f h = tt
right_entries q kth [] (s ∷ ss) f h = absurd h
right_entries q kth (l ∷ ls) [] f h = absurd h
right_entries q kth (l ∷ ls) (s ∷ ss) f h = (
  record { named = h.0.named; above = h.0.above; fits = f.0; passed_over = h.0.passed_over },
  right_entries q kth ls ss f.1 h.1,
)

-- and their bounds are those of the series
pub bounds_are : (q : Query) (kth : Option ℤ) (ls : List Line) (ss : List Series)
    → AllZip (IsLineOf q kth) ls ss → map (λ l. l.bound) ls ≡ map (bound q) ss
bounds_are q kth [] [] h = refl
bounds_are q kth [] (s ∷ ss) h = absurd h
bounds_are q kth (l ∷ ls) [] h = absurd h
bounds_are q kth (l ∷ ls) (s ∷ ss) h =
    ap (λ (z : ℤ). z ∷ map (λ x. x.bound) ls) h.0.bounded
    ∙ ap (λ (zs : List ℤ). bound q s ∷ zs) (bounds_are q kth ls ss h.1)

module _ (q : Query) (c : Data) (asked : IsAsked q) (right : IsContents c) (hs : List Haul)
    (sound : AreSound (task_of (planned q c)) hs) where
  -- the plan
  abbrev plan : Plan
  plan = planned q c

  -- it is one
  abbrev is_plan : IsPlan plan
  is_plan = record { asked = asked; dataset = c; right = right; plan = refl }

  -- the line of a morsel with its number
  abbrev line : ℕ → Morsel → Line
  line n m = line_of plan (all_records hs) (n, m)

  -- the k-th score of the plan's candidates is the query's
  kth_is : kth q.k (all_of_task (task_of plan)) ≡ kth_of_query q c
  kth_is = (plan_has_best q c asked right).1

  -- the line of one morsel is right
  one_line : (n : ℕ) (m : Morsel) → slice_get plan.morsels n ≡ Some m → IsMeasured q m
      → IsLineOf q (kth_of_query q c) (line n m) m.series
  one_line n m at is =
      let fair : IsFair (task_of plan) = plans_fair plan is_plan in
      let IsAboveAll : Option Morsel → Type 0 = λ o.
      AllByRecursion (λ x. x.score ≤ℤ option_map_or (λ y. y.bound) o (pos 0))
      (option_map_or (λ y. candidates q y.series) o []) in
      let IsLow : Option ℤ → Option Morsel → Type 0 = λ k o. bound_is_below k (option_map_or (λ y. y.bound) o (pos 0)) ≡
      true in
      record {
        named = refl;
        bounded = is.bounded;
        above = subst IsAboveAll at (fair.bounded n);
        passed_over = λ e. subst (λ (k : Option ℤ). IsLow k (Some m)) kth_is
            (subst (IsLow (kth q.k (all_of_task (task_of plan)))) at (skips_right (task_of plan) hs n fair sound e));
      }

  -- and so are those of all morsels
  each_line : (front ms : List Morsel) (n : ℕ) → plan.morsels ≡ front ++ ms → n ≡ length front
      → AllByRecursion (IsMeasured q) ms
      → AllZip (IsLineOf q (kth_of_query q c)) (map (line_of plan (all_records hs)) (enumerate_from n ms))
      (map series_of_morsel ms)
  each_line front [] n e len all = tt
  each_line front (m ∷ ms) n e len all =
      let at : slice_get plan.morsels n ≡ Some m =
      ap (λ (l : List Morsel). slice_get l n) e
      ∙ ap (λ (k : ℕ). slice_get (front ++ m ∷ ms) k) len ∙ get_behind front m ms in
      let more : plan.morsels ≡ (front ++ m ∷ []) ++ ms = e ∙ sym (append_assoc front (m ∷ []) ms) in
      let count : n + 1 ≡ length (front ++ m ∷ []) = omega (arith, length-append front (m ∷ []), len) in
      (one_line n m at all.0, each_line (front ++ m ∷ []) ms (n + 1) more count all.1)

  -- the series of a plan's morsels, by increasing ID
  series_are : morsels q c ≡ sorted_by comes_first (map series_of_morsel plan.morsels)
  series_are =
      let kept : List Series = filter (has_admitted q) (admitted_series q c) in
      let back : map series_of_morsel (map (measured q) kept) ≡ kept = series-measured q kept in
      let drawn : IsPermutation (map (measured q) kept) plan.morsels = IsPermutation-trans (map (measured q) kept)
      (map (measured q) (morsels q c)) plan.morsels
      (IsPermutation-map (measured q) kept (morsels q c) (sorted-permutation comes_first kept))
      (sorted-permutation is_drawn_first (map (measured q) (morsels q c))) in
      sym (same_sort (λ s. s.id) kept (map series_of_morsel plan.morsels) (morsels_apart q c right)
      (subst (λ (l : List Series). IsPermutation l (map series_of_morsel plan.morsels)) back
      (IsPermutation-map series_of_morsel (map (measured q) kept) plan.morsels drawn)))

  -- the lines of a plan's sound hauls are those of the query's series, one by one
  pub lines_right : AllZip (IsLineOf q (kth_of_query q c)) (lines_of plan (all_records hs)) (morsels q c)
  lines_right =
      let ls : List Line = map (line_of plan (all_records hs)) (enumerate_from 0 plan.morsels) in
      let by_id : Line → Line → Bool = λ a b. id_comes_first a.id b.id in
      subst (λ (ss : List Series). AllZip (IsLineOf q (kth_of_query q c)) (sorted_by by_id ls) ss) (sym series_are)
      (sorted-zip (IsLineOf q (kth_of_query q c)) by_id comes_first
      (λ a x b y r s. ap (λ (i : StationId). id_comes_first i x.id) r.named
      ∙ ap (λ (i : StationId). id_comes_first b.id i) s.named)
      ls (map series_of_morsel plan.morsels)
      (each_line [] plan.morsels 0 refl refl (plan_measured q c right)))

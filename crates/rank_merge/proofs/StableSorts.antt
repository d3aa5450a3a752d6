-- Stable sorts: of given elements there is one list in order in which those that tie are as they came.
use Rattle.rank_merge.proofs.Cited.{◌≡◌, Bool, true, false, List, [], ◌∷◌, refl, sym, ◌∙◌, subst, arith, filter, not}
use Rattle.rank_merge.proofs.Cited.{◌&&◌, AllByRecursion, IsSortedBy, IsStableBy, ties, IsTotalOrder, IsStrictWeakOrder}
use Rattle.rank_merge.proofs.Cited.{is_le, Ordering, false_from_ne_true, true_from_ne_false, map-id, placed, sorted_by}
use Rattle.rank_merge.proofs.Cited.{sorted-fixed, ints}
use Rattle.ghcn_files.proofs.Ordered as ordered

-- ---- what is filtered

-- what holds of each holds of the first that passes
first_passed : {X : Type 0} (P : X → Type 0) (p : X → Bool) (ws : List X) (y : X) (rest : List X)
    → AllByRecursion P ws → filter p ws ≡ y ∷ rest → P y
first_passed P p [] y rest h e = absurd cc
first_passed P p (w ∷ ws) y rest h e = let behind = first_passed P p ws y rest h.1 in grind arith

-- the first that passes is in front
passed_front : {X : Type 0} (p : X → Bool) (y : X) (ys : List X) → p y ≡ true → filter p (y ∷ ys) ≡ y ∷ filter p ys
passed_front p y ys e = grind arith

-- one less in front of what is filtered alike
filter-behind : {X : Type 0} (p : X → Bool) (y : X) (xs ys : List X) → filter p (y ∷ xs) ≡ filter p (y ∷ ys)
    → filter p xs ≡ filter p ys
filter-behind p y xs ys e = grind arith

-- if neither of two tests passes each fails
neither : (s t : Bool) → (not s && not t) ≡ true → (s ≡ false) × (t ≡ false)
neither s t e = grind arith

-- ---- a total order

module _ {X : Type 0} (cmp : X → X → Ordering) (total : IsTotalOrder cmp) where
  -- one comes first, or they tie
  abbrev pub first : X → X → Bool
  first a b = is_le (cmp a b)

  -- one is strictly before another
  abbrev pub before : X → X → Bool
  before = ordered.strictly cmp total first (λ a b. refl) (λ x. x)

  -- that is an order
  pub before_ranks : IsStrictWeakOrder before
  before_ranks = ordered.strictly_ranks cmp total first (λ a b. refl) (λ x. x)

  -- each is in turn
  abbrev pub InTurn : List X → Type 0
  InTurn = ordered.InTurn cmp total first (λ a b. refl)

  -- what is put in order is in turn
  pub sorted_turn : (xs : List X) → InTurn (sorted_by first xs)
  sorted_turn = ordered.sorted-in_turn cmp total first (λ a b. refl)

  -- an element comes before itself, or ties
  pub first_own : (x : X) → first x x ≡ true
  first_own x = true_from_ne_false _ (λ e. let own = ordered.first_either cmp total first (λ a b. refl) x x e in cc)

  -- two that each come first tie
  tie : (a b : X) → first a b ≡ true → first b a ≡ true → ties before a b ≡ true
  tie a b e f = let turned = total.antisymm a b in grind arith

  -- what ties with one thing ties with each other
  never_both : (x y a : X) → first a y ≡ false → ties before x y ≡ true → ties before x a ≡ false
  never_both x y a e f = grind (arith, ints, false_from_ne_true, before_ranks, neither _ _ f, neither)

  -- one more that is placed leaves those that tie as they came
  placed-stable : (x a : X) (ys : List X) → filter (ties before x) (placed first a ys) ≡ filter (ties before x) (a ∷ ys)
  placed-stable x a [] = refl
  placed-stable x a (y ∷ ys) = grind (arith, ints, placed-stable x a ys, never_both x y a)

  -- so does putting all in order
  sorted-stable : (x : X) (xs : List X) → filter (ties before x) (sorted_by first xs) ≡ filter (ties before x) xs
  sorted-stable x [] = refl
  sorted-stable x (a ∷ xs) = grind (arith, ints, placed-stable x a (sorted_by first xs), sorted-stable x xs)

  -- an element is before those after it that tie with it
  own_front : (y : X) (ys : List X) → filter (ties before y) (y ∷ ys) ≡ y ∷ filter (ties before y) ys
  own_front y ys = passed_front (ties before y) y ys (tie y y (first_own y) (first_own y))

  -- two lists in turn with the same elements that tie have the same first element
  same_first : (y z : X) (ys zs : List X) → InTurn (z ∷ zs)
      → filter (ties before y) (y ∷ ys) ≡ filter (ties before y) (z ∷ zs) → first z y ≡ true
  same_first y z ys zs h e =
      first_passed (λ w. first z w ≡ true) (ties before y) (z ∷ zs) y (filter (ties before y) ys) (first_own z, h.0)
      (sym e ∙ own_front y ys)

  -- so they are one list
  one_stable : (ys zs : List X) → InTurn ys → InTurn zs
      → ((x : X) → filter (ties before x) ys ≡ filter (ties before x) zs) → ys ≡ zs
  one_stable [] [] h k same = refl
  one_stable [] (z ∷ zs) h k same =
      absurd (let no : [] ≡ z ∷ filter (ties before z) zs = same z ∙ own_front z zs in cc)
  one_stable (y ∷ ys) [] h k same =
      absurd (let no : [] ≡ y ∷ filter (ties before y) ys = sym (same y) ∙ own_front y ys in cc)
  one_stable (y ∷ ys) (z ∷ zs) h k same =
      let z_y : first z y ≡ true = same_first y z ys zs k (same y) in
      let y_z : first y z ≡ true = same_first z y zs ys h (sym (same z)) in
      let fronts : y ∷ filter (ties before y) ys ≡ z ∷ filter (ties before y) zs =
      sym (own_front y ys) ∙ same y ∙ passed_front (ties before y) z zs (tie y z y_z z_y) in
      let heads : y ≡ z = cc in
      let rest = one_stable ys zs h.1 k.1 (λ x. filter-behind (ties before x) z ys zs (rw heads at (same x))) in
      λ i. heads i ∷ rest i

  -- what a stable sort returns is the list in this order
  pub stable-sorted : (xs ys : List X) → IsSortedBy before ys → IsStableBy before xs ys → ys ≡ sorted_by first xs
  stable-sorted xs ys up stable = one_stable ys (sorted_by first xs)
      (subst InTurn (map-id ys) (ordered.sort-in_turn cmp total first (λ a b. refl) (λ x. x) ys up))
      (sorted_turn xs) (λ x. stable x ∙ sym (sorted-stable x xs))

  -- putting in order twice is putting in order
  pub sorted-twice : (xs : List X) → sorted_by first (sorted_by first xs) ≡ sorted_by first xs
  sorted-twice xs = sorted-fixed first (sorted_by first xs) (sorted_turn xs)

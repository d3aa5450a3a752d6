-- Which elements a list has, and in which order: of elements of which no two tie there is one list in a total order.
use Rattle.std.proofs.Common.{◌≡◌, inl, inr, ℕ, suc, ◌+◌, Bool, true, false, cond, List, [], ◌∷◌, map}
use Rattle.std.proofs.Common.{refl, sym, ap, ◌∙◌, subst, arith}
use Rattle.std.specs.Prelude.{slice_index_or}
use Rattle.std.specs.List.{AllByRecursion, IsDistinct}
use Rattle.std.specs.List.Sorted.{IsPermutation, IsSortedBy}
use Rattle.std.specs.Cmp.{IsTotalOrder, IsStrictWeakOrder}
use Rattle.std.specs.Ordering.{is_lt, is_le, ordering_reverse}
use Rattle.std.specs.declared.cmp.Ordering.{Ordering}
use Rattle.std.specs.declared.cmp.Ordering.TheVariants.{Less, Equal, Greater}
use Rattle.std.proofs.lemmas.List.Elements.{recursion_from_All}
use Rattle.std.proofs.lemmas.List.Sorted.{ranks_by, sorted_far, IsPermutation-refl, IsPermutation-cons}
use Rattle.std.proofs.lemmas.List.Sorted.{IsPermutation-trans, IsPermutation-swap, IsPermutation-sym}
use Rattle.std.proofs.lemmas.Map.Keys.{IsDistinct-head, IsDistinct-tail, IsDistinct-IsPermutation}
use Rattle.ghcn_fields.specs.Sorting.{placed, sorted_by}
use Rattle.ghcn_files.proofs.Among.{each-weaker, In, of_one, for_each, in_permuted}

-- ---- what is made of each

module _ {X Y : Type 0} (f : X → Y) where
  -- what is true of what each gives is true of all that is given
  pub each-map : (P : Y → Type 0) (xs : List X) → AllByRecursion (λ x. P (f x)) xs → AllByRecursion P (map f xs)
  each-map P [] h = tt
  each-map P (x ∷ xs) h = (h.0, each-map P xs h.1)

  -- and back
  pub each-mapped : (P : Y → Type 0) (xs : List X) → AllByRecursion P (map f xs) → AllByRecursion (λ x. P (f x)) xs
  each-mapped P [] h = tt
  each-mapped P (x ∷ xs) h = (h.0, each-mapped P xs h.1)

  -- if no two give what is alike, no two of what is given are alike
  pub distinct-map : (alike : Y → Y → Bool) (xs : List X) → IsDistinct (λ a b. alike (f a) (f b)) xs
      → IsDistinct alike (map f xs)
  unfolding IsDistinct
  distinct-map alike [] d = tt
  distinct-map alike (x ∷ xs) d = (each-map (λ y. alike (f x) y ≡ false) xs d.0, distinct-map alike xs d.1)

  -- and back
  pub distinct-mapped : (alike : Y → Y → Bool) (xs : List X) → IsDistinct alike (map f xs)
      → IsDistinct (λ a b. alike (f a) (f b)) xs
  unfolding IsDistinct
  distinct-mapped alike [] d = tt
  distinct-mapped alike (x ∷ xs) d = (each-mapped (λ y. alike (f x) y ≡ false) xs d.0, distinct-mapped alike xs d.1)

  module _ (first : Y → Y → Bool) where
    -- one more is placed alike
    placed-map : (x : X) (ys : List X) → map f (placed (λ a b. first (f a) (f b)) x ys) ≡ placed first (f x) (map f ys)
    placed-map x [] = refl
    placed-map x (y ∷ ys) = elim (first (f x) (f y)) as (λ t. map f (cond t (x ∷ y ∷ ys)
        (y ∷ placed (λ a b. first (f a) (f b)) x ys))
        ≡ cond t (f x ∷ f y ∷ map f ys) (f y ∷ placed first (f x) (map f ys))) [
          | true ↦ refl
          | false ↦ ap (λ l. f y ∷ l) (placed-map x ys)
        ]

    -- what is made of things that are sorted by it is sorted
    pub sorted-map : (xs : List X) → map f (sorted_by (λ a b. first (f a) (f b)) xs) ≡ sorted_by first (map f xs)
    sorted-map [] = refl
    sorted-map (x ∷ xs) =
        placed-map x (sorted_by (λ a b. first (f a) (f b)) xs) ∙ ap (placed first (f x)) (sorted-map xs)

-- ---- sorting only moves elements

module _ {X : Type 0} (comes_first : X → X → Bool) where
  -- an element that is placed among others
  placed-permutation : (x : X) (ys : List X) → IsPermutation (x ∷ ys) (placed comes_first x ys)
  placed-permutation x [] = IsPermutation-refl (x ∷ [])
  placed-permutation x (y ∷ ys) =
      let swapped : IsPermutation (x ∷ y ∷ ys) (y ∷ x ∷ ys) =
      IsPermutation-swap (x ∷ y ∷ ys) (y ∷ x ∷ ys) 0 1 (omega arith) (omega arith) refl in
      let behind : IsPermutation (y ∷ x ∷ ys) (y ∷ placed comes_first x ys) =
      IsPermutation-cons y (x ∷ ys) (placed comes_first x ys) (placed-permutation x ys) in
      elim (comes_first x y) as (λ t. IsPermutation (x ∷ y ∷ ys) (cond t (x ∷ y ∷ ys) (y ∷ placed comes_first x ys))) [
        | true ↦ IsPermutation-refl (x ∷ y ∷ ys)
        | false ↦ IsPermutation-trans (x ∷ y ∷ ys) (y ∷ x ∷ ys) (y ∷ placed comes_first x ys) swapped behind
      ]

  -- a sorted list has the elements of the list
  pub sorted-permutation : (xs : List X) → IsPermutation xs (sorted_by comes_first xs)
  sorted-permutation [] = IsPermutation-refl []
  sorted-permutation (x ∷ xs) =
      let rest : List X = sorted_by comes_first xs in
      IsPermutation-trans (x ∷ xs) (x ∷ rest) (placed comes_first x rest)
      (IsPermutation-cons x xs rest (sorted-permutation xs)) (placed-permutation x rest)

-- ---- there is one list of given elements in which each comes before all after it

module _ {X : Type 0} (Before : X → X → Type 0) where
  -- each comes before all after it
  abbrev pub Descend : List X → Type 0
  Descend [] = Unit {0}
  Descend (x ∷ xs) = AllByRecursion (Before x) xs × Descend xs

  module _ (asym : (x y : X) → Before x y → Before y x → ⊥) where
    -- the first elements are the same
    heads : (y z : X) (ys zs : List X) → AllByRecursion (Before y) ys → AllByRecursion (Before z) zs → In (z ∷ zs) y
        → In (y ∷ ys) z → y ≡ z
    heads y z ys zs a b (inl e) k = sym e
    heads y z ys zs a b (inr h) (inl e) = e
    heads y z ys zs a b (inr h) (inr k) = absurd (asym y z (of_one (Before y) ys z a k) (of_one (Before z) zs y b h))

    -- what isn't the first is among the rest
    not_first : (y : X) (zs ws : List X) → AllByRecursion (Before y) ws → AllByRecursion (In (y ∷ zs)) ws
        → AllByRecursion (In zs) ws
    not_first y zs [] a h = tt
    not_first y zs (w ∷ ws) a h = (other h.0, not_first y zs ws a.1 h.1)
      where
        other : In (y ∷ zs) w → In zs w
        other (inl e) = absurd (let own : Before w w = subst (λ v. Before v w) e a.0 in asym w w own own)
        other (inr k) = k

    -- two lists of the same elements, in each of which each comes before all after it, are equal
    pub one_list : (ys zs : List X) → Descend ys → Descend zs → AllByRecursion (In zs) ys → AllByRecursion (In ys) zs
        → ys ≡ zs
    one_list [] [] d e h k = refl
    one_list [] (z ∷ zs) d e h k = absurd k.0
    one_list (y ∷ ys) [] d e h k = absurd h.0
    one_list (y ∷ ys) (z ∷ zs) d e h k =
        let same : y ≡ z = heads y z ys zs d.0 e.0 h.0 k.0 in
        let these : AllByRecursion (In zs) ys = not_first y zs ys d.0
        (subst (λ v. AllByRecursion (In (v ∷ zs)) ys) (sym same) h.1) in
        let those : AllByRecursion (In ys) zs = not_first y ys zs
        (subst (λ v. AllByRecursion (Before v) zs) (sym same) e.0) k.1 in
        ap (λ v. v ∷ ys) same ∙ ap (λ l. z ∷ l) (one_list ys zs d.1 e.1 these those)

-- ---- a test that puts one before another

module _ {X : Type 0} (lt : X → X → Bool) (ranks : IsStrictWeakOrder lt) where
  -- of two at most one is before the other
  pub one_way : (a b : X) → lt a b ≡ true → lt b a ≡ true → ⊥
  one_way a b e f = absurd (let no : lt b a ≡ false = ranks.one_way a b e in cc)

  -- what is before one is before what that one is before
  pub before_on : (a b c : X) → lt a b ≡ true → lt b c ≡ true → lt a c ≡ true
  before_on a b c e f = elim (lt a c) as (λ t. lt a c ≡ t → t ≡ true) [
    | true ↦ λ k. refl
    | false ↦ λ k. absurd (let no : lt b c ≡ false = ranks.chain b a c (ranks.one_way a b e) k in cc)
  ] refl

  -- two lists of the same elements, in each of which each is before all after it, are equal
  pub one_rising : (xs ys : List X) → Descend (λ a b. lt a b ≡ true) xs → Descend (λ a b. lt a b ≡ true) ys
      → ((x : X) → In xs x → In ys x) → ((x : X) → In ys x → In xs x) → xs ≡ ys
  one_rising xs ys d e f g =
      one_list (λ a b. lt a b ≡ true) one_way xs ys d e (for_each (In ys) xs f) (for_each (In xs) ys g)

-- what follows for two elements follows for each and all after it
pub descend-weaker : {X : Type 0} (P Q : X → X → Type 0) (xs : List X) → ((x y : X) → P x y → Q x y) → Descend P xs
    → Descend Q xs
descend-weaker P Q [] f h = tt
descend-weaker P Q (x ∷ xs) f h = (each-weaker (P x) (Q x) xs (f x) h.0, descend-weaker P Q xs f h.1)

-- and what is made of them is in the same order
pub descend-map : {X Y : Type 0} (f : X → Y) (P : Y → Y → Type 0) (xs : List X) → Descend (λ a b. P (f a) (f b)) xs
    → Descend P (map f xs)
descend-map f P [] h = tt
descend-map f P (x ∷ xs) h = (each-map f (P (f x)) xs h.0, descend-map f P xs h.1)

-- ---- results of a comparison

-- a result that says before is Less
pub less : (o : Ordering) → is_lt o ≡ true → o ≡ Less
less Less e = refl
less Equal e = absurd cc
less Greater e = absurd cc

-- what isn't at most the other is above it
turned : (o p : Ordering) → o ≡ ordering_reverse p → is_le p ≡ false → is_le o ≡ true
turned o Less e h = absurd cc
turned o Equal e h = absurd cc
turned o Greater e h = ap is_le e

-- what isn't less is at least the other
not_behind : (o p : Ordering) → o ≡ ordering_reverse p → is_lt o ≡ false → is_le p ≡ true
not_behind o Less e h = refl
not_behind o Equal e h = refl
not_behind o Greater e h = absurd (let yes : is_lt o ≡ true = ap is_lt e in cc)

-- ---- a total order, and a test that says which of two comes first in it

module _ {X : Type 0} (cmp : X → X → Ordering) (total : IsTotalOrder cmp) (first : X → X → Bool)
    (first-is : (a b : X) → first a b ≡ is_le (cmp a b)) where
  -- each comes before all after it, or ties with it
  abbrev pub InTurn : List X → Type 0
  InTurn xs = Descend (λ a b. first a b ≡ true) xs

  -- of two one comes first
  pub first_either : (a b : X) → first a b ≡ false → first b a ≡ true
  first_either a b e = first-is b a ∙ turned (cmp b a) (cmp a b) (total.antisymm b a) (sym (first-is a b) ∙ e)

  -- what isn't strictly after comes first
  first_unless : (a b : X) → is_lt (cmp b a) ≡ false → first a b ≡ true
  first_unless a b e = first-is a b ∙ not_behind (cmp b a) (cmp a b) (total.antisymm b a) e

  -- what is at most one is at most what that one is at most
  le_chain : (a b c : X) (o p : Ordering) → cmp a b ≡ o → cmp b c ≡ p → is_le o ≡ true → is_le p ≡ true
      → is_le (cmp a c) ≡ true
  le_chain a b c Less Less e f h k = ap is_le (total.trans a b c e f)
  le_chain a b c Less Equal e f h k =
      let back : cmp c b ≡ Equal = total.antisymm c b ∙ ap ordering_reverse f in
      let other : cmp b a ≡ Greater = total.antisymm b a ∙ ap ordering_reverse e in
      ap is_le (total.antisymm a c ∙ ap ordering_reverse (total.congr c b a back ∙ other))
  le_chain a b c Equal p e f h k = ap is_le (total.congr a b c e ∙ f) ∙ k
  le_chain a b c Less Greater e f h k = absurd cc
  le_chain a b c Greater p e f h k = absurd cc

  -- what comes before one comes before what that one comes before
  pub first_trans : (a b c : X) → first a b ≡ true → first b c ≡ true → first a c ≡ true
  first_trans a b c e f = first-is a c ∙ le_chain a b c (cmp a b) (cmp b c) refl refl (sym (first-is a b) ∙ e)
      (sym (first-is b c) ∙ f)

  -- and before all of them
  first_more : (x y : X) (ys : List X) → first x y ≡ true → AllByRecursion (λ z. first y z ≡ true) ys
      → AllByRecursion (λ z. first x z ≡ true) ys
  first_more x y ys e a = each-weaker (λ z. first y z ≡ true) (λ z. first x z ≡ true) ys
      (λ z f. first_trans x y z e f) a

  -- what comes before each of some comes before each once one more is placed
  placed-first : (w x : X) (ys : List X) → first w x ≡ true → AllByRecursion (λ z. first w z ≡ true) ys
      → AllByRecursion (λ z. first w z ≡ true) (placed first x ys)
  placed-first w x [] e a = (e, tt)
  placed-first w x (y ∷ ys) e a =
      elim (first x y) as (λ t. AllByRecursion (λ z. first w z ≡ true) (cond t (x ∷ y ∷ ys) (y ∷ placed first x ys))) [
        | true ↦ (e, a)
        | false ↦ (a.0, placed-first w x ys e a.1)
      ]

  -- an element that is placed among some in turn
  placed-in_turn : (x : X) (ys : List X) → InTurn ys → InTurn (placed first x ys)
  placed-in_turn x [] h = (tt, tt)
  placed-in_turn x (y ∷ ys) h =
      elim (first x y) as (λ t. first x y ≡ t → InTurn (cond t (x ∷ y ∷ ys) (y ∷ placed first x ys))) [
        | true ↦ λ e. ((e, first_more x y ys e h.0), h)
        | false ↦ λ e. (placed-first y x ys (first_either x y e) h.0, placed-in_turn x ys h.1)
      ] refl

  -- what is sorted is in turn
  pub sorted-in_turn : (xs : List X) → InTurn (sorted_by first xs)
  sorted-in_turn [] = tt
  sorted-in_turn (x ∷ xs) = placed-in_turn x (sorted_by first xs) (sorted-in_turn xs)

  -- ---- what a sort by the comparison returns is in turn

  module _ {Y : Type 0} (seen : Y → X) where
    -- one is strictly before another
    abbrev pub strictly : Y → Y → Bool
    strictly a b = is_lt (cmp (seen a) (seen b))

    -- it is an order by which a list can be sorted
    pub strictly_ranks : IsStrictWeakOrder strictly
    strictly_ranks = ranks_by total seen

    -- no element after the first of a sorted list is strictly before it
    none_before : (y : Y) (ys : List Y) → IsSortedBy strictly (y ∷ ys) → AllByRecursion (λ z. strictly z y ≡ false) ys
    none_before y ys up =
        recursion_from_All (λ z. strictly z y ≡ false) ys
        (λ k d lt. sorted_far strictly strictly_ranks (y ∷ ys) up 0 (suc k) d (omega arith) (omega arith))

    -- after its first element a sorted list is sorted
    sorted-tail : (y : Y) (ys : List Y) → IsSortedBy strictly (y ∷ ys) → IsSortedBy strictly ys
    sorted-tail y ys up = λ k d low lt.
        let next : suc (k + 1) ≡ suc k + 1 = omega arith in
        ap (λ (n : ℕ). strictly (slice_index_or (y ∷ ys) n d) (slice_index_or ys k d)) next
        ∙ up (suc k) d (omega arith) (omega arith)

    -- then the first comes before all after it
    first_all : (y : Y) (ys : List Y) → AllByRecursion (λ z. strictly z y ≡ false) ys
        → AllByRecursion (λ n. first (seen y) n ≡ true) (map seen ys)
    first_all y [] h = tt
    first_all y (z ∷ zs) h = (first_unless (seen y) (seen z) h.0, first_all y zs h.1)

    -- a sorted list is in turn
    pub sort-in_turn : (ys : List Y) → IsSortedBy strictly ys → InTurn (map seen ys)
    sort-in_turn [] up = tt
    sort-in_turn (y ∷ ys) up = (first_all y ys (none_before y ys up), sort-in_turn ys (sorted-tail y ys up))

  -- ---- if no two elements tie

  module _ (alike : X → X → Bool) (alike-symm : (a b : X) → alike a b ≡ alike b a)
      (alike-tied : (a b : X) → cmp a b ≡ Equal → alike a b ≡ true) where
    -- one that comes first of another, and isn't alike, is less
    is_less : (a b : X) → first a b ≡ true → alike a b ≡ false → is_lt (cmp a b) ≡ true
    is_less a b h other = by (cmp a b) refl (sym (first-is a b) ∙ h)
      where
        by : (o : Ordering) → cmp a b ≡ o → is_le o ≡ true → is_lt (cmp a b) ≡ true
        by Less e le = ap is_lt e
        by Equal e le = absurd (let same : alike a b ≡ true = alike-tied a b e in cc)
        by Greater e le = absurd cc

    -- an element that comes before each of some, and is like none
    less_than_all : (x : X) (ys : List X) → AllByRecursion (λ y. first x y ≡ true) ys
        → AllByRecursion (λ y. alike x y ≡ false) ys → AllByRecursion (λ y. is_lt (cmp x y) ≡ true) ys
    less_than_all x [] a b = tt
    less_than_all x (y ∷ ys) a b = (is_less x y a.0 b.0, less_than_all x ys a.1 b.1)

    -- in a list in turn of which no two are alike each is less than all after it
    rises : (xs : List X) → InTurn xs → IsDistinct alike xs → Descend (λ a b. is_lt (cmp a b) ≡ true) xs
    rises [] h d = tt
    rises (x ∷ xs) h d = (
      less_than_all x xs h.0 (IsDistinct-head alike x xs d),
      rises xs h.1 (IsDistinct-tail alike x xs d),
    )

    -- so it is with elements that are sorted
    pub sorted-rise : (xs : List X) → IsDistinct alike xs → Descend (λ a b. is_lt (cmp a b) ≡ true) (sorted_by first xs)
    sorted-rise xs d = rises (sorted_by first xs) (sorted-in_turn xs)
        (IsDistinct-IsPermutation alike alike-symm xs (sorted_by first xs) (sorted-permutation first xs) d)

    -- of elements that don't tie there is one list in turn
    pub one_order : (xs ys : List X) → IsDistinct alike xs → IsPermutation xs ys → InTurn ys → ys ≡ sorted_by first xs
    one_order xs ys d p h =
        let zs : List X = sorted_by first xs in
        let q : IsPermutation xs zs = sorted-permutation first xs in
        let there = in_permuted ys zs (IsPermutation-trans ys xs zs (IsPermutation-sym xs ys p) q) in
        let back = in_permuted zs ys (IsPermutation-trans zs xs ys (IsPermutation-sym xs zs q) p) in
        one_rising (λ a b. is_lt (cmp a b)) (ranks_by total (λ x. x)) ys zs
        (rises ys h (IsDistinct-IsPermutation alike alike-symm xs ys p d)) (sorted-rise xs d)
        (λ x k. of_one (In zs) ys x there k) (λ x k. of_one (In ys) zs x back k)

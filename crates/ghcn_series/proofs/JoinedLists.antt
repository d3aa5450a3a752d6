-- Lists that are cut into parts, if of each thing at most one part holds any.
use Rattle.ghcn_series.proofs.Cited.{◌≡◌, Bool, true, false, cond, List, [], ◌∷◌, ◌++◌, map, filter, refl, sym, ap, ◌∙◌}
use Rattle.ghcn_series.proofs.Cited.{inl, inr, ap₂, subst, append_assoc, flat_map, AllByRecursion, IsDistinct}
use Rattle.ghcn_series.proofs.Cited.{IsPermutation, IsTotalOrder, is_le, Ordering, Equal, fun_ext, cases_Bool}
use Rattle.ghcn_series.proofs.Cited.{false≢true, flat_map-append, filter-append, flat_map-map, IsPermutation-sym}
use Rattle.ghcn_series.proofs.Cited.{sorted_by}
use Rattle.std.proofs.lemmas.List.Sorted.{IsPermutation-refl, IsPermutation-trans, IsPermutation-append}
use Rattle.std.proofs.lemmas.List.Sorted.{IsPermutation-append_left, IsPermutation-append_right}
use Rattle.std.proofs.lemmas.List.Sorted.{IsPermutation-append_comm}
use Rattle.std.proofs.lemmas.Map.Keys.{IsDistinct-head, IsDistinct-tail, IsDistinct-IsPermutation}
use Rattle.ghcn_files.proofs.Ordered as ordered

-- ---- lists that are made of pieces

-- the pieces of pieces
pub flat_map-flat_map : {X Y Z : Type 0} (h : Y → List Z) (g : X → List Y) (xs : List X)
    → flat_map h (flat_map g xs) ≡ flat_map (λ x. flat_map h (g x)) xs
flat_map-flat_map h g [] = refl
flat_map-flat_map h g (x ∷ xs) = rw (flat_map-append h (g x) (flat_map g xs), flat_map-flat_map h g xs) refl

-- of four lists the two in the middle change places
exchanged : {Z : Type 0} (a b c d : List Z) → IsPermutation ((a ++ b) ++ (c ++ d)) ((a ++ c) ++ (b ++ d))
exchanged a b c d =
    let inner : IsPermutation (a ++ ((b ++ c) ++ d)) (a ++ ((c ++ b) ++ d)) =
    IsPermutation-append_right a _ _ (IsPermutation-append_left d _ _ (IsPermutation-append_comm b c)) in
    simp append_assoc (simp append_assoc at inner)

module _ {X Z : Type 0} where
  -- pieces that are the same make the same list
  pub flat_map-same : (g h : X → List Z) (xs : List X) → ((x : X) → g x ≡ h x) → flat_map g xs ≡ flat_map h xs
  flat_map-same g h xs same = ap (λ (k : X → List Z). flat_map k xs) (fun_ext same)

  -- pieces in another order make the list in another order
  pub flat_map-permuted : (g h : X → List Z) (xs : List X) → ((x : X) → IsPermutation (g x) (h x))
      → IsPermutation (flat_map g xs) (flat_map h xs)
  flat_map-permuted g h [] moved = IsPermutation-refl []
  flat_map-permuted g h (x ∷ xs) moved =
      IsPermutation-append (g x) (h x) (flat_map g xs) (flat_map h xs) (moved x) (flat_map-permuted g h xs moved)

  -- if each piece has two parts, all first parts may come before all second ones
  two_parts : (g h : X → List Z) (xs : List X)
      → IsPermutation (flat_map (λ x. g x ++ h x) xs) (flat_map g xs ++ flat_map h xs)
  two_parts g h [] = IsPermutation-refl []
  two_parts g h (x ∷ xs) = IsPermutation-trans _ _ _ (IsPermutation-append_right (g x ++ h x) _ _ (two_parts g h xs))
      (exchanged (g x) (h x) (flat_map g xs) (flat_map h xs))

-- no pieces of anything make nothing
no_pieces : {F X Z : Type 0} (k : F → X → List Z) (fs : List F) → flat_map (λ f. flat_map (k f) []) fs ≡ []
no_pieces k [] = refl
no_pieces k (f ∷ fs) = no_pieces k fs

-- pieces by one thing and then by another make the list in another order than the other way round
pub turned_about : {F X Z : Type 0} (k : F → X → List Z) (fs : List F) (xs : List X)
    → IsPermutation (flat_map (λ f. flat_map (k f) xs) fs) (flat_map (λ x. flat_map (λ f. k f x) fs) xs)
turned_about k fs [] = rw (no_pieces k fs) (IsPermutation-refl [])
turned_about k fs (x ∷ xs) = IsPermutation-trans _ _ _ (two_parts (λ f. k f x) (λ f. flat_map (k f) xs) fs)
    (IsPermutation-append_right (flat_map (λ f. k f x) fs) _ _ (turned_about k fs xs))

-- what passes a test in all pieces
pub filter-flat_map : {X V : Type 0} (has : V → Bool) (g : X → List V) (xs : List X)
    → filter has (flat_map g xs) ≡ flat_map (λ x. filter has (g x)) xs
filter-flat_map has g [] = refl
filter-flat_map has g (x ∷ xs) = rw (filter-append has (g x) (flat_map g xs), filter-flat_map has g xs) refl

-- what passes a test, thing by thing
pub filter-pieces : {V : Type 0} (has : V → Bool) (xs : List V) → filter has xs ≡ flat_map (λ x. filter has (x ∷ [])) xs
filter-pieces has [] = refl
filter-pieces has (x ∷ xs) = rw (← filter-pieces has xs) (filter-append has (x ∷ []) xs)

-- what passes a test of what things become, thing by thing
pub kept-pieces : {X V : Type 0} (has : V → Bool) (w : X → V) (xs : List X)
    → filter has (map w xs) ≡ flat_map (λ x. filter has (w x ∷ [])) xs
kept-pieces has w xs = filter-pieces has (map w xs) ∙ flat_map-map (λ y. filter has (y ∷ [])) w xs

-- ---- distinct elements

module _ {V : Type 0} (alike : V → V → Bool) (turned : (a b : V) → alike a b ≡ alike b a) where
  -- the second of two lists has distinct elements if both together have
  distinct_right : (xs ys : List V) → IsDistinct alike (xs ++ ys) → IsDistinct alike ys
  distinct_right [] ys d = d
  distinct_right (x ∷ xs) ys d = distinct_right xs ys (IsDistinct-tail alike x (xs ++ ys) d)

  -- pieces that have distinct elements together may be changed if those with distinct elements may
  distinct_pieces : {X : Type 0} (g h : X → List V) (xs : List X) → ((x : X) → IsDistinct alike (g x) → g x ≡ h x)
      → IsDistinct alike (flat_map g xs) → flat_map g xs ≡ flat_map h xs
  distinct_pieces g h [] same d = refl
  distinct_pieces g h (x ∷ xs) same d =
      let own = distinct_right (flat_map g xs) (g x)
      (IsDistinct-IsPermutation alike turned _ _ (IsPermutation-append_comm (g x) (flat_map g xs)) d) in
      ap₂ (λ (a b : List V). a ++ b) (same x own) (distinct_pieces g h xs same (distinct_right (g x) (flat_map g xs) d))

-- ---- one thing

-- what lists give of things joins if the lists do: no list gives none, two lists give what the one does if the other
-- gives none, and whatever is given of one thing is alike
pub record Joins {T X V : Type 0} (u : List T → X → V) (has : V → Bool) (alike : V → V → Bool) : Type 0 where
  pub turned : (a b : V) → alike a b ≡ alike b a
  pub none : (x : X) → has (u [] x) ≡ false
  pub left : (x : X) (f g : List T) → has (u f x) ≡ false → u (f ++ g) x ≡ u g x
  pub right : (x : X) (f g : List T) → has (u g x) ≡ false → u (f ++ g) x ≡ u f x
  pub same : (x : X) (f g : List T) → alike (u f x) (u g x) ≡ true

module _ {T X V : Type 0} (u : List T → X → V) (has : V → Bool) (alike : V → V → Bool) (joins : Joins u has alike)
    (x : X) where
  -- what a list gives of the thing
  abbrev v : List T → V
  v f = u f x

  -- if no part holds any, the whole doesn't
  none_held : (fs : List (List T)) → AllByRecursion (λ f. has (v f) ≡ false) fs → has (v (flat_map (λ f. f) fs)) ≡ false
  none_held [] h = joins.none x
  none_held (f ∷ fs) h = ap has (joins.left x f (flat_map (λ g. g) fs) h.0) ∙ none_held fs h.1

  -- what is kept of all parts
  abbrev kept_of : List (List T) → List V
  kept_of fs = flat_map (λ f. filter has (v f ∷ [])) fs

  -- if no part holds any, none is kept
  none_kept : (fs : List (List T)) → AllByRecursion (λ f. has (v f) ≡ false) fs → kept_of fs ≡ []
  none_kept [] h = refl
  none_kept (f ∷ fs) h = rw h.0 (none_kept fs h.1)

  -- if nothing like one part's is kept of others, they hold none
  others_none : (f : List T) (fs : List (List T)) → AllByRecursion (λ y. alike (v f) y ≡ false) (kept_of fs)
      → AllByRecursion (λ g. has (v g) ≡ false) fs
  others_none f [] h = tt
  others_none f (g ∷ fs) h = elim (cases_Bool (has (v g))) [
    | inl holds ↦ let k = rw holds at h in absurd (false≢true (sym k.0 ∙ joins.same x f g))
    | inr fails ↦ (fails, others_none f fs (rw fails at h))
  ]

  -- if at most one part holds any, what is kept of all parts is what is kept of the whole
  one_held : (fs : List (List T)) → IsDistinct alike (kept_of fs)
      → kept_of fs ≡ filter has (v (flat_map (λ f. f) fs) ∷ [])
  one_held [] d = sym (ap (λ (b : Bool). cond b (v [] ∷ []) []) (joins.none x))
  one_held (f ∷ fs) d = elim (cases_Bool (has (v f))) [
    | inl holds ↦
        let others = others_none f fs (IsDistinct-head alike (v f) (kept_of fs) (rw holds at d)) in
        rw (joins.right x f (flat_map (λ g. g) fs) (none_held fs others), holds, none_kept fs others) refl
    | inr fails ↦ rw (joins.left x f (flat_map (λ g. g) fs) fails, fails) (one_held fs (rw fails at d))
  ]

-- ---- all things

module _ {T X V : Type 0} (u : List T → X → V) (has : V → Bool) (alike : V → V → Bool) (joins : Joins u has alike)
    (fs : List (List T)) (xs : List X) where
  -- what a part holds of all things
  abbrev pub held_in : List T → List V
  held_in f = filter has (map (u f) xs)

  -- the whole
  abbrev pub whole : List T
  whole = flat_map (λ f. f) fs

  -- what a part holds of one thing
  abbrev one_in : List T → X → List V
  one_in f x = filter has (u f x ∷ [])

  -- what all parts hold of it
  abbrev of_one : X → List V
  of_one x = flat_map (λ f. one_in f x) fs

  -- what all parts hold, thing by thing
  by_thing : IsPermutation (flat_map held_in fs) (flat_map of_one xs)
  by_thing = rw (flat_map-same held_in (λ f. flat_map (one_in f) xs) fs (λ f. kept-pieces has (u f) xs))
      (turned_about one_in fs xs)

  module _ (distinct : IsDistinct alike (flat_map held_in fs)) where
    -- if no two are alike, all parts hold of each thing what the whole does
    all_held : flat_map of_one xs ≡ held_in whole
    all_held = distinct_pieces alike joins.turned of_one (one_in whole) xs (λ x. one_held u has alike joins x fs)
        (IsDistinct-IsPermutation alike joins.turned _ _ by_thing distinct) ∙ sym (kept-pieces has (u whole) xs)

    -- all parts hold what the whole does, in some order
    pub held_whole : IsPermutation (flat_map held_in fs) (held_in whole)
    held_whole = subst (IsPermutation (flat_map held_in fs)) all_held by_thing

    -- what is made of all that the parts hold is what is made of all that the whole does, in some order
    pub made_whole : {Z : Type 0} (h : V → List Z)
        → IsPermutation (flat_map (λ f. flat_map h (held_in f)) fs) (flat_map h (held_in whole))
    made_whole h =
        let parts = flat_map-same (λ f. flat_map h (held_in f)) (λ f. flat_map (λ x. flat_map h (one_in f x)) xs) fs
        (λ f. ap (flat_map h) (kept-pieces has (u f) xs) ∙ flat_map-flat_map h (one_in f) xs) in
        let things = flat_map-same (λ x. flat_map h (of_one x)) (λ x. flat_map (λ f. flat_map h (one_in f x)) fs) xs
        (λ x. flat_map-flat_map h (λ f. one_in f x) fs) in
        let all = sym things ∙ sym (flat_map-flat_map h of_one xs) ∙ ap (flat_map h) all_held in
        rw (parts, ← all) (turned_about (λ f x. flat_map h (one_in f x)) fs xs)

-- ---- lists in an order

module _ {F V : Type 0} (cmp : V → V → Ordering) (total : IsTotalOrder cmp) (first : V → V → Bool)
    (first-is : (a b : V) → first a b ≡ is_le (cmp a b)) (alike : V → V → Bool)
    (alike-turned : (a b : V) → alike a b ≡ alike b a) (alike-tied : (a b : V) → cmp a b ≡ Equal → alike a b ≡ true)
    (g : F → List V) (fs : List F) (whole : List V) where
  -- if no two are alike, and all parts have what the whole has, the whole in order is the parts' in order
  pub sorted_together : IsDistinct alike (flat_map g fs) → IsPermutation (flat_map g fs) whole
      → sorted_by first whole ≡ sorted_by first (flat_map (λ f. sorted_by first (g f)) fs)
  sorted_together distinct moved =
      let parts : List V = flat_map (λ f. sorted_by first (g f)) fs in
      let in_parts : IsPermutation (flat_map g fs) parts =
      flat_map-permuted g (λ f. sorted_by first (g f)) fs (λ f. ordered.sorted-permutation first (g f)) in
      ordered.one_order cmp total first first-is alike alike-turned alike-tied parts (sorted_by first whole)
      (IsDistinct-IsPermutation alike alike-turned _ _ in_parts distinct)
      (IsPermutation-trans _ _ _ (IsPermutation-sym _ _ in_parts)
      (IsPermutation-trans _ _ _ moved (ordered.sorted-permutation first whole)))
      (ordered.sorted-in_turn cmp total first first-is whole)

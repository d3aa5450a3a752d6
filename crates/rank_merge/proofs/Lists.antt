-- Lists: what holds of each, and of two element by element.
use Rattle.rank_merge.proofs.Cited.{◌≡◌, ℕ, zero, suc, Bool, List, [], ◌∷◌, ◌++◌, take, map, refl, flat_map}
use Rattle.rank_merge.proofs.Cited.{AllByRecursion, AllZip, All-permutation, IsPermutation-sym, sorted_by, Descend}
use Rattle.rank_merge.proofs.Cited.{sorted-permutation, take-all, each-append}
use Rattle.std.proofs.lemmas.List.Elements.{recursion_from_All, All-from_recursion}

-- ---- each of a list

-- what holds of each in an order holds of each
pub each-unsorted : {X : Type 0} (P : X → Type 0) (f : X → X → Bool) (xs : List X)
    → AllByRecursion P (sorted_by f xs) → AllByRecursion P xs
each-unsorted P f xs h =
    recursion_from_All P xs (All-permutation P (sorted_by f xs) xs
    (IsPermutation-sym xs (sorted_by f xs) (sorted-permutation f xs)) (All-from_recursion P (sorted_by f xs) h))

-- what holds of all that each gives holds of all of it together
pub each-flat : {X Y : Type 0} (P : Y → Type 0) (f : X → List Y) (xs : List X)
    → AllByRecursion (λ x. AllByRecursion P (f x)) xs → AllByRecursion P (flat_map f xs)
each-flat P f [] h = tt
each-flat P f (x ∷ xs) h = each-append P (f x) (flat_map f xs) h.0 (each-flat P f xs h.1)

-- of a list in which each comes before all after it, the first do so too
pub descend-take : {X : Type 0} (Before : X → X → Type 0) (k : ℕ) (xs : List X) → Descend Before xs
    → Descend Before (take k xs)
descend-take Before zero xs h = tt
descend-take Before (suc k) [] h = tt
descend-take Before (suc k) (x ∷ xs) h = (take-all (Before x) k xs h.0, descend-take Before k xs h.1)

-- ---- two lists, element by element

module _ {X Y : Type 0} (R : X → Y → Type 0) where
  -- two lists that go together, and two after them
  pub zip-append : (xs vs : List X) (ys ws : List Y) → AllZip R xs ys → AllZip R vs ws
      → AllZip R (xs ++ vs) (ys ++ ws)
  zip-append [] vs [] ws h k = k
  zip-append [] vs (y ∷ ys) ws h k = absurd h
  zip-append (x ∷ xs) vs [] ws h k = absurd h
  zip-append (x ∷ xs) vs (y ∷ ys) ws h k = (h.0, zip-append xs vs ys ws h.1 k)

  -- what is the same of two elements is so of the lists
  pub zip-same : {Z : Type 0} (f : X → Z) (g : Y → Z) → ((x : X) (y : Y) → R x y → f x ≡ g y) → (xs : List X)
      (ys : List Y) → AllZip R xs ys → map f xs ≡ map g ys
  zip-same f g same [] [] h = refl
  zip-same f g same [] (y ∷ ys) h = absurd h
  zip-same f g same (x ∷ xs) [] h = absurd h
  zip-same f g same (x ∷ xs) (y ∷ ys) h = λ i. same x y h.0 i ∷ zip-same f g same xs ys h.1 i

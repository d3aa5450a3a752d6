-- Facts of all elements of a list.
use Rattle.ghcn_series.proofs.Cited.{◌≡◌, ℕ, zero, suc, ◌<◌, List, [], ◌∷◌, ◌++◌, length, Option, None, Some, subst}
use Rattle.ghcn_series.proofs.Cited.{Bool, true, false, filter, map, refl, ap, get_or, AllByRecursion, AllZip}
use Rattle.ghcn_series.proofs.Cited.{option_map, option_or, slice_get, IsDistinct, set, cond_both, slice_get_within}
use Rattle.ghcn_series.proofs.Cited.{get_or_from_slice_get}
use Rattle.std.proofs.lemmas.List.Elements.{All-from_recursion, All-get_or}
pub use Rattle.ghcn_files.proofs.Among.{each-weaker}

module _ {X : Type 0} where
  -- what is true of two lists is true of both together
  pub each-append : (P : X → Type 0) (xs ys : List X) → AllByRecursion P xs → AllByRecursion P ys
      → AllByRecursion P (xs ++ ys)
  each-append P [] ys p q = q
  each-append P (x ∷ xs) ys p q = (p.0, each-append P xs ys p.1 q)

  -- two lists of distinct elements, of which none is in both, are distinct together
  pub both_distinct : (eq : X → X → Bool) (xs ys : List X) → IsDistinct eq xs → IsDistinct eq ys
      → AllByRecursion (λ x. AllByRecursion (λ y. eq x y ≡ false) ys) xs → IsDistinct eq (xs ++ ys)
  unfolding IsDistinct
  both_distinct eq [] ys p q all = q
  both_distinct eq (x ∷ xs) ys p q all =
      (each-append (λ y. eq x y ≡ false) xs ys p.0 all.0, both_distinct eq xs ys p.1 q all.1)

  -- what follows for those that pass a test is true of all of them
  pub passed : (P Q : X → Type 0) (p : X → Bool) (xs : List X) → ((x : X) → P x → p x ≡ true → Q x)
      → AllByRecursion P xs → AllByRecursion Q (filter p xs)
  passed P Q p [] follows all = tt
  passed P Q p (x ∷ xs) follows all = cond_both (p x) (x ∷ filter p xs) (filter p xs) (AllByRecursion Q)
      (λ is. (follows x all.0 is, passed P Q p xs follows all.1)) (λ is. passed P Q p xs follows all.1)

  -- what is true of all is true of those that pass a test
  pub all-filter : (P : X → Type 0) (p : X → Bool) (xs : List X) → AllByRecursion P xs → AllByRecursion P (filter p xs)
  all-filter P p xs all = passed P P p xs (λ x holds is. holds) all

  -- distinct elements stay distinct
  pub distinct_filter : (eq : X → X → Bool) (p : X → Bool) (xs : List X) → IsDistinct eq xs
      → IsDistinct eq (filter p xs)
  unfolding IsDistinct
  distinct_filter eq p [] apart = tt
  distinct_filter eq p (x ∷ xs) apart = cond_both (p x) (x ∷ filter p xs) (filter p xs) (IsDistinct eq)
      (λ is. (all-filter (λ y. eq x y ≡ false) p xs apart.0, distinct_filter eq p xs apart.1))
      (λ is. distinct_filter eq p xs apart.1)

-- the first of two things, each taken to another one
pub map_or : {A B : Type 0} (f : A → B) (one other : Option A)
    → option_map f (option_or one other) ≡ option_or (option_map f one) (option_map f other)
map_or f None other = refl
map_or f (Some x) other = refl

-- what is true of all is true at each place
pub all-at : {X : Type 0} (P : X → Type 0) (xs : List X) (i : ℕ) (d : X) → AllByRecursion P xs → i < length xs
    → P (get_or xs i d)
all-at P xs i d all lt = All-get_or P xs i d lt (All-from_recursion P xs all)

-- what is true of all is true of what is found at a place
pub from_all : {X : Type 0} (P : X → Type 0) (xs : List X) (k : ℕ) (x : X) → AllByRecursion P xs
    → slice_get xs k ≡ Some x → P x
from_all P xs k x all at =
    subst P (get_or_from_slice_get xs k x x at) (all-at P xs k x all (slice_get_within xs k x at))

-- an item takes the place of one that fitted, in the first of two lists that fit place by place
pub set_first : {A B : Type 0} (R : A → B → Type 0) (xs : List A) (ys : List B) (k : ℕ) (x new : A) → AllZip R xs ys
    → x ≡ get_or xs k x → ((y : B) → R x y → R new y) → AllZip R (set xs k new) ys
set_first R [] ys k x new all here fits = all
set_first R (w ∷ ws) [] k x new all here fits = absurd all
set_first R (w ∷ ws) (y ∷ ys) zero x new all here fits = (fits y (rw here all.0), all.1)
set_first R (w ∷ ws) (y ∷ ys) (suc k) x new all here fits = (all.0, set_first R ws ys k x new all.1 here fits)

-- what follows for two items follows for all that fit place by place
pub zip-weaker : {A B : Type 0} (R S : A → B → Type 0) (xs : List A) (ys : List B) → ((x : A) (y : B) → R x y → S x y)
    → AllZip R xs ys → AllZip S xs ys
zip-weaker R S [] [] fits all = tt
zip-weaker R S (x ∷ xs) (y ∷ ys) fits all = (fits x y all.0, zip-weaker R S xs ys fits all.1)
zip-weaker R S _ _ fits all = absurd all

-- a list whose images are those before one, this one, and those after it is split alike
pub map_split : {A B : Type 0} (f : A → B) (xs : List A) (before : List B) (b : B) (after : List B)
    → map f xs ≡ before ++ b ∷ after
    → (front : List A) × (x : A) × (rest : List A) × (xs ≡ front ++ x ∷ rest) × (map f front ≡ before) × (f x ≡ b)
map_split f [] [] b after e = absurd cc
map_split f [] (y ∷ ys) b after e = absurd cc
map_split f (x ∷ xs) [] b after e = ([], x, xs, refl, refl, cc)
map_split f (x ∷ xs) (y ∷ ys) b after e =
    let more = map_split f xs ys b after (cc) in
    let split = ap (λ (l : List _). x ∷ l) {y = more.0 ++ more.1 ∷ more.2} more.3 in
    let same : f x ≡ y = cc in (x ∷ more.0, more.1, more.2, split, rw (same, more.4) refl, more.5)

-- Elements of lists that are filtered and measured.
use Rattle.rank_blocks.proofs.Cited.{◌≡◌, ◌<◌, Bool, true, cond, List, [], ◌∷◌, map, filter, ◌⊎◌, refl, pos, ◌+ℤ◌}
use Rattle.rank_blocks.proofs.Cited.{arith, ℤ, ◌≤ℤ◌, Contains, fold, unwrap_or, ◌&&◌, AllByRecursion, list_any, int_max}
use Rattle.rank_blocks.proofs.Cited.{ints, fold-int_max_bounds, fold-int_max_reached, Contains-append_right}
use Rattle.rank_blocks.proofs.Cited.{All-contains, greatest, total, IsGreatest}
use Rattle.ghcn_series.proofs.Members.{contains-in, in-contains, in_any, kept_in, in_map, map_in, of_one, for_each as each_there, any_in as any_there, in_kept as kept_there}
pub use Rattle.ghcn_series.proofs.Members.{of_each, itself}

-- nothing is in an empty list
pub contains-nothing : {X : Type 0} (x : X) → Contains [] x → ⊥
contains-nothing x h = let lt : h.0 < 0 = h.1 in omega arith

-- an element of a list is its first one, or comes after it
pub contains-cases : {X : Type 0} (x y : X) (xs : List X) → Contains (x ∷ xs) y → (x ≡ y) ⊎ Contains xs y
contains-cases x y xs h = grind (arith, ints, contains-nothing)

-- the first element is in the list
pub contains-first : {X : Type 0} (x y : X) (xs : List X) → x ≡ y → Contains (x ∷ xs) y
contains-first x y xs is = grind (arith, ints)

-- what comes after the first element is in the list
pub contains-behind : {X : Type 0} (x y : X) (xs : List X) → Contains xs y → Contains (x ∷ xs) y
contains-behind x y xs h = Contains-append_right (x ∷ []) xs y h

-- what is true of each element is true of all
pub for_each : {X : Type 0} (P : X → Type 0) (xs : List X) → ((x : X) → Contains xs x → P x) → AllByRecursion P xs
for_each P xs each = each_there P xs (λ x h. each x (in-contains xs x h))

-- an element of what a measure makes is made of an element, of which all is true that is true of each
pub pick : {X Y : Type 0} (f : X → Y) (Q : X → Type 0) (xs : List X) (y : Y) → AllByRecursion Q xs
    → Contains (map f xs) y → (x : X) × Q x × (f x ≡ y)
pick f Q xs y all h =
    let made = map_in f xs y (contains-in (map f xs) y h) in (made.0, of_one Q xs made.0 all made.1, made.2)

-- if an element passes a test, one that does is in the list
pub any_in : {X : Type 0} (p : X → Bool) (xs : List X) → list_any p xs ≡ true → (x : X) × Contains xs x × (p x ≡ true)
any_in p xs e = let any = any_there p xs e in (any.0, in-contains xs any.0 any.1, any.2)

-- and the other way round
pub any_of : {X : Type 0} (p : X → Bool) (xs : List X) (x : X) → Contains xs x → p x ≡ true → list_any p xs ≡ true
any_of p xs x has e = in_any p xs x (contains-in xs x has) e

-- an element that is kept is in the list, and passes the test
pub of_kept : {X : Type 0} (t : X → Bool) (xs : List X) (x : X) → Contains (filter t xs) x
    → Contains xs x × (t x ≡ true)
of_kept t xs x h =
    let kept = kept_in t xs x (contains-in (filter t xs) x h) in (in-contains xs x kept.0, kept.1)

-- what is made of an element that passes is in what is made of those that are kept
pub in_kept : {X Y : Type 0} (f : X → Y) (t : X → Bool) (xs : List X) (x : X) → Contains xs x → t x ≡ true
    → Contains (map f (filter t xs)) (f x)
in_kept f t xs x has e =
    in-contains (map f (filter t xs)) (f x) (in_map f (filter t xs) x (kept_there t xs x (contains-in xs x has) e))

-- and it is made of an element that passes
pub from_kept : {X Y : Type 0} (f : X → Y) (t : X → Bool) (xs : List X) (y : Y) → Contains (map f (filter t xs)) y
    → (x : X) × (Contains xs x × (t x ≡ true)) × (f x ≡ y)
from_kept f t xs y h =
    let made = map_in f (filter t xs) y (contains-in (map f (filter t xs)) y h) in
    let kept = kept_in t xs made.0 made.1 in (made.0, (in-contains xs made.0 kept.0, kept.1), made.2)

-- one element more adds to a total what it is, if it passes
pub total-cons : {X : Type 0} (f : X → ℤ) (p : X → Bool) (x : X) (xs : List X)
    → total (map f (filter p (x ∷ xs))) ≡ cond (p x) (f x) (pos 0) +ℤ total (map f (filter p xs))
total-cons f p x xs = grind (arith, ints)

-- no total is below zero if no number is
pub total-least : {X : Type 0} (f : X → ℤ) (p : X → Bool) (xs : List X) → AllByRecursion (λ x. pos 0 ≤ℤ f x) xs
    → pos 0 ≤ℤ total (map f (filter p xs))
total-least f p [] falls = omega (arith, ints)
total-least f p (x ∷ xs) falls = grind (arith, ints, total-least f p xs falls.1)

-- if each that passes one test passes another, the first have at most the total of the others
pub total-wider : {X : Type 0} (f : X → ℤ) (p w : X → Bool) (xs : List X) → AllByRecursion (λ x. pos 0 ≤ℤ f x) xs
    → ((x : X) → Contains xs x → p x ≡ true → w x ≡ true) → total (map f (filter p xs)) ≤ℤ total (map f (filter w xs))
total-wider f p w [] falls wider = omega (arith, ints)
total-wider f p w (x ∷ xs) falls wider =
    let rest = total-wider f p w xs falls.1 (λ y has. wider y (contains-behind x y xs has)) in
    grind (arith, ints, rest, falls.0, wider x (contains-first x x xs refl))

-- those that pass one test of those that pass another pass both
pub filter-both : {X : Type 0} (p u : X → Bool) (xs : List X) → filter p (filter u xs) ≡ filter (λ x. u x && p x) xs
filter-both p u [] = refl
filter-both p u (x ∷ xs) = grind (arith, ints, filter-both p u xs)

-- if there is a number the greatest is one of them, and none is greater
pub greatest-some : (zs : List ℤ) (y : ℤ) → Contains zs y → IsGreatest (Contains zs) (unwrap_or (greatest zs) (pos 0))
greatest-some [] y h = absurd (contains-nothing y h)
greatest-some (x ∷ xs) y h =
    let bounds = fold-int_max_bounds x xs (fold int_max x xs) refl in
    let reached = fold-int_max_reached x xs (fold int_max x xs) refl in
    grind (arith, ints, contains-first, contains-behind, contains-cases, All-contains)

-- there is but one greatest number
pub greatest-unique : (P : ℤ → Type 0) (y z : ℤ) → IsGreatest P y → IsGreatest P z → y ≡ z
greatest-unique P y z of_y of_z = grind (arith, ints)

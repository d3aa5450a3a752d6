-- Which elements a list has: of what was found, kept, put in order, or made of others.
use Rattle.ghcn_series.proofs.Cited.{◌≡◌, inl, inr, zero, suc, Bool, true, cond, List, [], ◌∷◌, ◌++◌, map, filter}
use Rattle.ghcn_series.proofs.Cited.{Option, Some, None, refl, sym, ap, ◌∙◌, subst, arith, Contains, list_any, flat_map}
use Rattle.ghcn_series.proofs.Cited.{filter_map, cons_option, AllByRecursion, or_cases, or_left, or_right}
use Rattle.std.proofs.lemmas.List.Elements.{All-contains, Contains-append_cases, Contains-append_left}
use Rattle.std.proofs.lemmas.List.Elements.{Contains-append_right, filter_passes}
use Rattle.ghcn_series.proofs.ListFacts.{all-filter}
pub use Rattle.ghcn_files.proofs.Among.{In, of_one, for_each, in_permuted, found_in}

-- what is in a list by its place is in it by recursion
pub contains-in : {X : Type 0} (xs : List X) (x : X) → Contains xs x → In xs x
contains-in [] x (k, lt, at) = absurd (omega (arith, lt))
contains-in (y ∷ ys) x (zero, lt, at) = inl at
contains-in (y ∷ ys) x (suc k, lt, at) = inr (contains-in ys x (k, omega (arith, lt), at))

-- and the other way round
pub in-contains : {X : Type 0} (xs : List X) (x : X) → In xs x → Contains xs x
in-contains [] x h = absurd h
in-contains (y ∷ ys) x (inl at) = (0, omega arith, at)
in-contains (y ∷ ys) x (inr h) = let there = in-contains ys x h in (suc there.0, omega (arith, there.1), there.2)

-- what is true of each is true of one that is there
pub of_each : {X : Type 0} (P : X → Type 0) (xs : List X) → AllByRecursion P xs → (x : X) → Contains xs x → P x
of_each P xs all x has = of_one P xs x all (contains-in xs x has)

-- each is there
pub itself : {X : Type 0} (xs : List X) → AllByRecursion (Contains xs) xs
itself xs = for_each (Contains xs) xs (in-contains xs)

-- ---- what is found

-- one that passes is there if a test of any passes
pub any_in : {X : Type 0} (test : X → Bool) (xs : List X) → list_any test xs ≡ true
    → (x : X) × In xs x × (test x ≡ true)
any_in test [] e = absurd cc
any_in test (y ∷ ys) e = elim (or_cases (test y) (list_any test ys) e) [
  | inl t ↦ (y, inl refl, t)
  | inr f ↦ let rest = any_in test ys f in (rest.0, inr rest.1, rest.2)
]

-- and back
pub in_any : {X : Type 0} (test : X → Bool) (xs : List X) (x : X) → In xs x → test x ≡ true → list_any test xs ≡ true
in_any test [] x h t = absurd h
in_any test (y ∷ ys) x (inl e) t = or_left (test y) (list_any test ys) (ap test e ∙ t)
in_any test (y ∷ ys) x (inr h) t = or_right (test y) (list_any test ys) (in_any test ys x h t)

-- ---- what is kept, and what is made

-- what is kept is there, and passes
pub kept_in : {X : Type 0} (test : X → Bool) (xs : List X) (x : X) → In (filter test xs) x → In xs x × (test x ≡ true)
kept_in test xs x h = (
  of_one (In xs) (filter test xs) x (all-filter (In xs) test xs (for_each (In xs) xs (λ y k. k))) h,
  All-contains (λ y. test y ≡ true) (filter test xs) x (filter_passes test xs) (in-contains (filter test xs) x h),
)

-- and back
pub in_kept : {X : Type 0} (test : X → Bool) (xs : List X) (x : X) → In xs x → test x ≡ true → In (filter test xs) x
in_kept test [] x h t = absurd h
in_kept test (y ∷ ys) x (inl e) t =
    subst (λ (b : Bool). In (cond b (y ∷ filter test ys) (filter test ys)) x) (sym (ap test e ∙ t)) (inl e)
in_kept test (y ∷ ys) x (inr h) t = grind (arith, in_kept test ys x h t)

-- what is made of what is there
pub in_map : {X Y : Type 0} (f : X → Y) (xs : List X) (x : X) → In xs x → In (map f xs) (f x)
in_map f [] x h = absurd h
in_map f (y ∷ ys) x (inl e) = inl (ap f e)
in_map f (y ∷ ys) x (inr h) = inr (in_map f ys x h)

-- and back
pub map_in : {X Y : Type 0} (f : X → Y) (xs : List X) (y : Y) → In (map f xs) y → (x : X) × In xs x × (f x ≡ y)
map_in f [] y h = absurd h
map_in f (x ∷ xs) y (inl e) = (x, inl refl, e)
map_in f (x ∷ xs) y (inr h) = let rest = map_in f xs y h in (rest.0, inr rest.1, rest.2)

-- what is made of some of those that are there
pub made_in : {X Y : Type 0} (f : X → Option Y) (xs : List X) (y : Y) → In (filter_map f xs) y
    → (x : X) × In xs x × (f x ≡ Some y)
made_in f [] y h = absurd h
made_in {X = X} f (x ∷ xs) y h =
    elim (f x) as (λ o. f x ≡ o → In (cons_option o (filter_map f xs)) y → (z : X) × In (x ∷ xs) z × (f z ≡ Some y)) [
      | None ↦ λ e k. let rest = made_in f xs y k in (rest.0, inr rest.1, rest.2)
      | Some u ↦ λ e k. elim k [
        | inl s ↦ (x, inl refl, e ∙ ap (λ w. Some w) s)
        | inr l ↦ let rest = made_in f xs y l in (rest.0, inr rest.1, rest.2)
      ]
    ] refl h

-- and back
pub in_made : {X Y : Type 0} (f : X → Option Y) (xs : List X) (x : X) (y : Y) → In xs x → f x ≡ Some y
    → In (filter_map f xs) y
in_made f [] x y h e = absurd h
in_made {Y = Y} f (z ∷ zs) x y (inl s) e =
    subst (λ (o : Option Y). In (cons_option o (filter_map f zs)) y) (sym (ap f s ∙ e)) (inl refl)
in_made f (z ∷ zs) x y (inr h) e = grind (arith, in_made f zs x y h e)

-- what is in the list of one of those that are there
pub in_all : {X Y : Type 0} (f : X → List Y) (xs : List X) (x : X) (y : Y) → In xs x → In (f x) y → In (flat_map f xs) y
in_all f [] x y h k = absurd h
in_all f (z ∷ zs) x y (inl e) k = contains-in (f z ++ flat_map f zs) y
    (Contains-append_left (f z) (flat_map f zs) y (in-contains (f z) y (subst (λ w. In (f w) y) (sym e) k)))
in_all f (z ∷ zs) x y (inr h) k = contains-in (f z ++ flat_map f zs) y
    (Contains-append_right (f z) (flat_map f zs) y (in-contains (flat_map f zs) y (in_all f zs x y h k)))

-- and back
pub all_in : {X Y : Type 0} (f : X → List Y) (xs : List X) (y : Y) → In (flat_map f xs) y → (x : X) × In xs x × In (f x)
    y
all_in f [] y h = absurd h
all_in f (x ∷ xs) y h = elim (Contains-append_cases (f x) (flat_map f xs) y (in-contains (f x ++ flat_map f xs) y h)) [
  | inl k ↦ (x, inl refl, contains-in (f x) y k)
  | inr k ↦ let rest = all_in f xs y (contains-in (flat_map f xs) y k) in (rest.0, inr rest.1, rest.2)
]

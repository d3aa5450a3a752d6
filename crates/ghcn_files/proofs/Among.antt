-- Which elements a list has.
use Rattle.std.proofs.Common.{◌≡◌, ◌⊎◌, inl, inr, Bool, true, false, cond, List, [], ◌∷◌, Some}
use Rattle.std.proofs.Common.{refl, sym, ap, ◌∙◌, subst}
use Rattle.std.specs.List.{AllByRecursion, find}
use Rattle.std.specs.List.Sorted.{IsPermutation}
use Rattle.std.proofs.lemmas.List.Elements.{recursion_from_All, All-from_recursion}
use Rattle.std.proofs.lemmas.List.Sorted.{All-permutation, IsPermutation-sym}

-- what follows for each element is true of each
pub each-weaker : {X : Type 0} (P Q : X → Type 0) (xs : List X) → ((x : X) → P x → Q x) → AllByRecursion P xs
    → AllByRecursion Q xs
each-weaker P Q [] f h = tt
each-weaker P Q (x ∷ xs) f h = (f x h.0, each-weaker P Q xs f h.1)

-- ---- which elements a list has

-- the element is in the list
abbrev pub In : {X : Type 0} → List X → X → Type 0
In [] x = ⊥
In (y ∷ ys) x = (y ≡ x) ⊎ In ys x

-- what holds of each holds of one that is there
pub of_one : {X : Type 0} (P : X → Type 0) (xs : List X) (x : X) → AllByRecursion P xs → In xs x → P x
of_one P [] x h k = absurd k
of_one P (y ∷ ys) x h (inl e) = subst P e h.0
of_one P (y ∷ ys) x h (inr k) = of_one P ys x h.1 k

-- what holds of one that is there, for each of them
pub for_each : {X : Type 0} (P : X → Type 0) (xs : List X) → ((x : X) → In xs x → P x) → AllByRecursion P xs
for_each P [] f = tt
for_each P (x ∷ xs) f = (f x (inl refl), for_each P xs (λ y k. f y (inr k)))

-- the elements of a list are in each permutation
pub in_permuted : {X : Type 0} (xs ys : List X) → IsPermutation xs ys → AllByRecursion (In ys) xs
in_permuted xs ys p =
    let all = All-from_recursion (In ys) ys (for_each (In ys) ys (λ x h. h)) in
    recursion_from_All (In ys) xs (All-permutation (In ys) ys xs (IsPermutation-sym xs ys p) all)

-- what is found is there, and passes
pub found_in : {X : Type 0} (test : X → Bool) (xs : List X) (x : X) → find test xs ≡ Some x
    → In xs x × (test x ≡ true)
found_in test [] x e = absurd cc
found_in test (y ∷ ys) x e =
    elim (test y) as (λ b. test y ≡ b → cond b (Some y) (find test ys) ≡ Some x → In (y ∷ ys) x × (test x ≡ true)) [
      | true ↦ λ t f. let same : y ≡ x = cc in (inl same, ap test (sym same) ∙ t)
      | false ↦ λ t f. let rest = found_in test ys x f in (inr rest.0, rest.1)
    ] refl e

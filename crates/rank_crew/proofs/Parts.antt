-- Parts of lists: one place more, and two parts one after the other.
use Rattle.std.proofs.Common.{◌≡◌, ℕ, zero, suc, ◌+◌, ◌-◌, ◌≤◌, List, [], ◌∷◌, ◌++◌, map, take, drop, Option, Some, None}
use Rattle.std.proofs.Common.{Result, Ok, Err, IfOk, IsOkAnd, option_to_list, refl, sym, ap, ◌∙◌, arith}
use Rattle.std.specs.Prelude.{slice_get}
use Rattle.std.proofs.lemmas.List.{map-append}
use Rattle.std.proofs.lemmas.List.Elements.{filter_map-append}
use Rattle.rank_sched.specs.Plan.{Morsel, found_among}
use Rattle.rank_crew.specs.Places.{elements_between}

-- the first n and the next one are the first n + 1
take_push : {A : Type 0} (xs : List A) (n : ℕ) (x : A) → slice_get xs n ≡ Some x → take (suc n) xs ≡ take n xs ++ x ∷ []
take_push [] n x e = absurd cc
take_push (y ∷ ys) zero x e = let same : y ≡ x = cc in ap (λ z. z ∷ []) same
take_push (y ∷ ys) (suc n) x e = ap (λ l. y ∷ l) (take_push ys n x e)

-- a place after those left out
get_drop : {A : Type 0} (xs : List A) (f n m : ℕ) → m ≡ f + n → slice_get (drop f xs) n ≡ slice_get xs m
get_drop xs zero n m e = let same : n ≡ m = omega (arith, e) in ap (slice_get xs) same
get_drop [] (suc f) n m e = refl
get_drop (x ∷ xs) (suc f) n zero e = absurd (omega arith)
get_drop (x ∷ xs) (suc f) n (suc m) e = get_drop xs f n m (omega (arith, e))

-- one place more
pub part-push : {A : Type 0} (xs : List A) (from place next : ℕ) (x : A) (before after : List A) → next ≡ place + 1
    → from ≤ place → slice_get xs place ≡ Some x → before ≡ elements_between from place xs → after ≡ before ++ x ∷ []
    → after ≡ elements_between from next xs
part-push xs from place next x before after one low e b a =
    let n : ℕ = place - from in
    let more : suc n ≡ next - from = omega (arith, one) in
    a ∙ ap (λ l. l ++ x ∷ []) b
    ∙ sym (take_push (drop from xs) n x (get_drop xs from n place (omega arith) ∙ e))
    ∙ ap (λ k. take k (drop from xs)) more

-- the first a, and the next b after them
take_both : {A : Type 0} (xs : List A) (a b c : ℕ) → c ≡ a + b → take a xs ++ take b (drop a xs) ≡ take c xs
take_both xs zero b c e = let same : b ≡ c = omega (arith, e) in ap (λ k. take k xs) same
take_both [] (suc a) b zero e = absurd (omega arith)
take_both [] (suc a) zero (suc c) e = refl
take_both [] (suc a) (suc b) (suc c) e = refl
take_both (x ∷ xs) (suc a) b zero e = absurd (omega arith)
take_both (x ∷ xs) (suc a) b (suc c) e = ap (λ l. x ∷ l) (take_both xs a b c (omega (arith, e)))

-- the first f left out, and then the next a
drop_both : {A : Type 0} (xs : List A) (f a g : ℕ) → g ≡ f + a → drop g xs ≡ drop a (drop f xs)
drop_both xs zero a g e = let same : g ≡ a = omega (arith, e) in ap (λ k. drop k xs) same
drop_both [] (suc f) zero zero e = refl
drop_both [] (suc f) zero (suc g) e = refl
drop_both [] (suc f) (suc a) zero e = refl
drop_both [] (suc f) (suc a) (suc g) e = refl
drop_both (x ∷ xs) (suc f) a zero e = absurd (omega arith)
drop_both (x ∷ xs) (suc f) a (suc g) e = drop_both xs f a g (omega (arith, e))

-- two parts, one after the other
pub part-both : {A : Type 0} (xs : List A) (from middle to : ℕ) → from ≤ middle → middle ≤ to
    → elements_between from middle xs ++ elements_between middle to xs ≡ elements_between from to xs
part-both xs from middle to low high =
    ap (λ l. elements_between from middle xs ++ take (to - middle) l)
    (drop_both xs from (middle - from) middle (omega arith))
    ∙ take_both (drop from xs) (middle - from) (to - middle) (to - from) (omega arith)

-- what was found in two parts is what was found in both
found-both : (xs ys : List (Option Morsel)) → found_among (xs ++ ys) ≡ found_among xs ++ found_among ys
found-both xs ys = filter_map-append (λ found. found) xs ys

-- the same if memory may have run out in each
pub both_parts : {F V E : Type 0} (seen : F → Morsel) (items : V → List F) (xs : List (Option Morsel))
    (from middle to : ℕ) (first second all : Result V E) → from ≤ middle → middle ≤ to
    → IfOk all (λ v. IsOkAnd first (λ a. IsOkAnd second (λ b. items v ≡ items a ++ items b)))
    → IfOk first (λ v. map seen (items v) ≡ found_among (elements_between from middle xs))
    → IfOk second (λ v. map seen (items v) ≡ found_among (elements_between middle to xs))
    → IfOk all (λ v. map seen (items v) ≡ found_among (elements_between from to xs))
both_parts seen items xs from middle to first second (Err x) low high e p q = tt
both_parts seen items xs from middle to (Err x) second (Ok v) low high e p q = absurd e
both_parts seen items xs from middle to (Ok u) (Err x) (Ok v) low high e p q = absurd e
both_parts seen items xs from middle to (Ok u) (Ok s) (Ok v) low high e p q =
    ap (map seen) e ∙ map-append seen (items u) (items s)
    ∙ ap (λ (l : List Morsel). l ++ map seen (items s)) p
    ∙ ap (λ (l : List Morsel). found_among (elements_between from middle xs) ++ l) q
    ∙ sym (found-both (elements_between from middle xs) (elements_between middle to xs))
    ∙ ap found_among (part-both xs from middle to low high)

-- one place more may add a morsel
pub found-more : (xs : List (Option Morsel)) (from place next : ℕ) (o : Option Morsel) (before : List Morsel)
    → next ≡ place + 1 → from ≤ place → slice_get xs place ≡ Some o
    → before ≡ found_among (elements_between from place xs)
    → before ++ option_to_list o ≡ found_among (elements_between from next xs)
found-more xs from place next o before one low at is =
    ap (λ (l : List Morsel). l ++ option_to_list o) is
    ∙ ap (λ (l : List Morsel). found_among (elements_between from place xs) ++ l) (sym (alone o))
    ∙ sym (found-both (elements_between from place xs) (o ∷ []))
    ∙ ap found_among (part-push xs from place next o (elements_between from place xs)
    (elements_between from place xs ++ o ∷ []) one low at refl refl)
  where
    alone : (o : Option Morsel) → found_among (o ∷ []) ≡ option_to_list o
    alone None = refl
    alone (Some m) = refl

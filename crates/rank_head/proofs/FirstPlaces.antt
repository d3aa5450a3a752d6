-- The first of some that fails a test.
use Rattle.std.proofs.Common.{◌≡◌, ℕ, zero, suc, ◌+◌, ◌<◌, Bool, true, false, cond, List, [], ◌∷◌, length}
use Rattle.std.proofs.Common.{map, take, ◌-◌, Option, Some, None, refl, ap, ◌∙◌, arith}
use Rattle.std.specs.Prelude.{MatchOption, drop}
use Rattle.std.specs.List.{zip, AllByRecursion, AllWithin, HoldsAt}
use Rattle.std.proofs.lemmas.List.{take_all}
use Rattle.ghcn_fields.specs.Faults.{first_failing}
use Rattle.rank_papers.specs.Papers.{neighbours}
use Rattle.rank_head.specs.declared.fault.HeadFault.{HeadFault}
use Rattle.rank_head.specs.HeadTests.{HeadTest, on_lines}
use Rattle.rank_head.specs.FirstPlaces.{IsFirstPlace}

-- ---- places

module _ {A : Type 0} (passes : A → Bool) (why : ℕ → HeadFault) where
  -- the first that passes leaves it to the others
  front_passes : (n : ℕ) (x : A) (xs : List A) → passes x ≡ true
      → first_failing (on_lines passes why n (x ∷ xs)) ≡ first_failing (on_lines passes why (suc n) xs)
  front_passes n x xs e =
      ap (λ b. cond b (first_failing (on_lines passes why (suc n) xs)) (Some (why n))) e

  -- if all pass none is refused
  none_fails : (n : ℕ) (xs : List A) → AllWithin (λ x. passes x ≡ true) xs 0 (length xs)
      → first_failing (on_lines passes why n xs) ≡ None
  none_fails n [] h = refl
  none_fails n (x ∷ xs) h =
      front_passes n x xs (h 0 x (omega arith) (omega arith))
      ∙ none_fails (suc n) xs (λ k d low high. h (suc k) d (omega arith) (omega arith))

  -- if one fails after others that pass, its line is refused
  one_fails : (n : ℕ) (xs : List A) (i : ℕ) → i < length xs → HoldsAt (λ x. passes x ≡ false) xs i
      → AllWithin (λ x. passes x ≡ true) xs 0 i → first_failing (on_lines passes why n xs) ≡ Some (why (n + i))
  one_fails n [] i below here before = absurd (omega arith)
  one_fails n (x ∷ xs) zero below here before =
      let same : n ≡ n + 0 = omega arith in
      ap (λ b. cond b (first_failing (on_lines passes why (suc n) xs)) (Some (why n))) (here x)
      ∙ ap (λ (m : ℕ). Some (why m)) same
  one_fails n (x ∷ xs) (suc i) below here before =
      let same : suc n + i ≡ n + suc i = omega arith in
      front_passes n x xs (before 0 x (omega arith) (omega arith))
      ∙ one_fails (suc n) xs i (omega arith) (λ d. here d)
      (λ k d low high. before (suc k) d (omega arith) (omega arith))
      ∙ ap (λ (m : ℕ). Some (why m)) same

-- so a place that is found is the first
pub first_place : {A : Type 0} (passes : A → Bool) (xs : List A) (r : Option ℕ)
    → MatchOption r (AllWithin (λ x. passes x ≡ true) xs 0 (length xs))
    (λ i. (i < length xs) × HoldsAt (λ x. passes x ≡ false) xs i × AllWithin (λ x. passes x ≡ true) xs 0 i)
    → IsFirstPlace passes xs r
first_place passes xs None h = λ why n. none_fails passes why n xs h
first_place passes xs (Some i) h = λ why n. one_fails passes why n xs i h.0 h.1 h.2

-- tests of what is made are tests of that of which it is made
on_lines-map : {A B : Type 0} (f : A → B) (passes : B → Bool) (why : ℕ → HeadFault) (n : ℕ) (xs : List A)
    → on_lines passes why n (map f xs) ≡ on_lines (λ x. passes (f x)) why n xs
on_lines-map f passes why n [] = refl
on_lines-map f passes why n (x ∷ xs) =
    ap (λ (ts : List HeadTest). (passes (f x), why n) ∷ ts) (on_lines-map f passes why (suc n) xs)

-- so its first place is the same
pub first_place-map : {A B : Type 0} (f : A → B) (passes : B → Bool) (xs : List A) (r : Option ℕ)
    → IsFirstPlace (λ x. passes (f x)) xs r → IsFirstPlace passes (map f xs) r
first_place-map f passes xs r h = λ why n. ap first_failing (on_lines-map f passes why n xs) ∙ h why n

-- ---- neighbours

-- neighbours are side by side
pub neighbours-zip : {A : Type 0} (xs : List A) → neighbours xs ≡ zip xs (drop 1 xs)
neighbours-zip [] = refl
neighbours-zip (x ∷ []) = refl
neighbours-zip (x ∷ y ∷ xs) = ap (λ l. (x, y) ∷ l) (neighbours-zip (y ∷ xs))

-- all that come after the first
pub behind_first : {A : Type 0} (xs : List A) → take (length xs - 1) (drop 1 xs) ≡ drop 1 xs
behind_first [] = refl
behind_first (x ∷ xs) =
    let same : length (x ∷ xs) - 1 ≡ length xs = omega arith in
    ap (λ n. take n xs) same ∙ take_all (length xs) xs (omega arith)

-- neighbours of what is made
pub neighbours-map : {A B : Type 0} (f : A → B) (xs : List A)
    → neighbours (map f xs) ≡ map (λ two. (f two.0, f two.1)) (neighbours xs)
neighbours-map f [] = refl
neighbours-map f (x ∷ []) = refl
neighbours-map f (x ∷ y ∷ xs) = ap (λ l. (f x, f y) ∷ l) (neighbours-map f (y ∷ xs))

-- ---- all tests

-- if none is refused each passes
pub all_pass : {A : Type 0} (passes : A → Bool) (why : ℕ → HeadFault) (n : ℕ) (xs : List A)
    → first_failing (on_lines passes why n xs) ≡ None → AllByRecursion (λ x. passes x ≡ true) xs
all_pass passes why n [] e = tt
all_pass passes why n (x ∷ xs) e = by (passes x) refl e (all_pass passes why (suc n) xs)
  where
    by : (b : Bool) → passes x ≡ b → cond b (first_failing (on_lines passes why (suc n) xs)) (Some (why n)) ≡ None
        → (first_failing (on_lines passes why (suc n) xs) ≡ None → AllByRecursion (λ y. passes y ≡ true) xs)
        → AllByRecursion (λ y. passes y ≡ true) (x ∷ xs)
    by true t f behind = (t, behind f)
    by false t f behind = absurd cc

-- and if each passes none is refused
pub none_refused : {A : Type 0} (passes : A → Bool) (why : ℕ → HeadFault) (n : ℕ) (xs : List A)
    → AllByRecursion (λ x. passes x ≡ true) xs → first_failing (on_lines passes why n xs) ≡ None
none_refused passes why n [] h = refl
none_refused passes why n (x ∷ xs) h =
    front_passes passes why n x xs h.0 ∙ none_refused passes why (suc n) xs h.1

-- Lines of one kind and an end line with their number are read as the values whose lines they are.
use Rattle.std.proofs.Common.{◌≡◌, ℕ, suc, ◌+◌, ◌<◌, Bool, true, false, List, [], ◌∷◌, ◌++◌, length, Option, Some, None, Result, Ok, Err, refl, sym, ap, ◌∙◌, subst, arith}
use Rattle.std.specs.List.{AllByRecursion}
use Rattle.std.specs.Cmp.Lexicographic.{bytes_decides}
use Rattle.ghcn_fields.specs.Meaning.Bytes.{same_bytes}
use Rattle.rank_papers.specs.Lines.{and_then, nothing_behind, ends_by, value_or_end, up_to_end}

-- a value and others were read
onto-some : {A : Type 0} (x : A) (r : Result (List A) ℕ) (xs : List A) → and_then x r ≡ Ok xs
    → (ys : List A) × (r ≡ Ok ys) × (xs ≡ x ∷ ys)
onto-some x (Ok ys) xs h = (ys, refl, cc)
onto-some x (Err n) xs h = absurd cc

-- nothing was found after the end line
nothing-some : {A : Type 0} (n : ℕ) (ls : List (List ℕ)) (xs : List A) → nothing_behind n ls ≡ Ok xs
    → (ls ≡ []) × (xs ≡ [])
nothing-some n [] xs h = (refl, cc)
nothing-some n (l ∷ ls) xs h = absurd cc

module _ {A : Type 0} (line : ℕ → A → List ℕ) where
  -- the lines of values, after that many others
  abbrev pub lines_by : ℕ → List A → List (List ℕ)
  lines_by n [] = []
  lines_by n (x ∷ xs) = line n x ∷ lines_by (suc n) xs

module _ {A : Type 0} (first : ℕ) (value_in : ℕ → List ℕ → Option A) (end : ℕ → List ℕ) (line : ℕ → A → List ℕ)
    (CanBe : A → Type 0) where
  -- if an end line isn't of the kind and a line is read as its value, values are read of their lines
  pub values-read : (m : ℕ) → ((n : ℕ) → value_in n (end m) ≡ None)
      → ((n : ℕ) (x : A) → CanBe x → n < m → value_in n (line n x) ≡ Some x) → (xs : List A) (n : ℕ)
      → AllByRecursion CanBe xs → m ≡ n + length xs
      → up_to_end first value_in end n (lines_by line n xs ++ end m ∷ []) ≡ Ok xs
  values-read m other is [] n each count =
      let same : m ≡ n = omega (arith, count) in
      ap (λ (o : Option A). value_or_end (n + first) o (same_bytes (end m) (end n)) []
      (up_to_end first value_in end (suc n) [])) (other n)
      ∙ ap (λ (b : Bool). ends_by (n + first) b []) ((bytes_decides (end m) (end n)).1 (ap end same))
  values-read m other is (x ∷ xs) n each count =
      let rest : List (List ℕ) = lines_by line (suc n) xs ++ end m ∷ [] in
      ap (λ (o : Option A). value_or_end (n + first) o (same_bytes (line n x) (end n)) rest
      (up_to_end first value_in end (suc n) rest)) (is n x each.0 (omega (arith, count)))
      ∙ ap (and_then x) (values-read m other is xs (suc n) each.1 (omega (arith, count)))

  module _ (May : ℕ → Type 0) where
    -- lines are those of values that can be, after that many others, and of an end line: not more than there may be
    pub record AreValues (n : ℕ) (ls : List (List ℕ)) (xs : List A) : Type 0 where
      pub lines : ls ≡ lines_by line n xs ++ end (n + length xs) ∷ []
      pub may : May (n + length xs)
      pub each : AllByRecursion CanBe xs

    module _ (value-is : (n : ℕ) (l : List ℕ) (x : A) → value_in n l ≡ Some x
        → May (suc n) × CanBe x × (l ≡ line n x)) where
      -- what is read of lines are values whose lines they are
      pub values-are : (ls : List (List ℕ)) (n : ℕ) (xs : List A) → May n → up_to_end first value_in end n ls ≡ Ok xs
          → AreValues n ls xs
      values-are [] n xs may h = absurd cc
      values-are (l ∷ ls) n xs may h =
          by (values-are ls (suc n)) (value_in n l) (same_bytes l (end n)) refl refl h
        where
          by : ((ys : List A) → May (suc n) → up_to_end first value_in end (suc n) ls ≡ Ok ys → AreValues (suc n) ls ys)
              → (o : Option A) (b : Bool) → value_in n l ≡ o → same_bytes l (end n) ≡ b
              → value_or_end (n + first) o b ls (up_to_end first value_in end (suc n) ls) ≡ Ok xs
              → AreValues n (l ∷ ls) xs
          by again (Some x) b s t f =
              let more = onto-some x (up_to_end first value_in end (suc n) ls) xs f in
              let it = value-is n l x s in
              let rest = again more.0 it.0 more.1 in
              let count : suc n + length more.0 ≡ n + length (x ∷ more.0) = omega arith in
              let all : AreValues n (l ∷ ls) (x ∷ more.0) = record {
                lines = ap (λ (k : List (List ℕ)). l ∷ k) rest.lines
                    ∙ ap (λ (k : List ℕ). k ∷ (lines_by line (suc n) more.0 ++ end (suc n + length more.0) ∷ [])) it.2
                    ∙ ap (λ (m : ℕ). line n x ∷ (lines_by line (suc n) more.0 ++ end m ∷ [])) count;
                may = subst May count rest.may;
                each = (it.1, rest.each);
              } in
              subst (AreValues n (l ∷ ls)) (sym more.2) all
          by again None true s t f =
              let done = nothing-some (n + first) ls xs f in
              let count : n ≡ n + 0 = omega arith in
              let all : AreValues n (l ∷ []) [] = record {
                lines = ap (λ (k : List ℕ). k ∷ []) ((bytes_decides l (end n)).0 t ∙ ap end count);
                may = subst May count may;
                each = tt;
              } in
              subst (λ (k : List (List ℕ)). AreValues n (l ∷ k) xs) (sym done.0)
              (subst (AreValues n (l ∷ [])) (sym done.1) all)
          by again None false s t f = absurd cc

-- Reading lines of one kind: one after the other.
use Rattle.std.proofs.Common.{◌≡◌, ℕ, suc, ◌+◌, ◌<◌, Bool, true, false, cond, List, [], ◌∷◌, ◌++◌, length, Option, Some, None, Result, Ok, Err, refl, sym, ap, ◌∙◌, append_assoc, append-nil, length-append, arith}
use Rattle.std.specs.Prelude.{◌==◌}
use Rattle.std.specs.Cmp.Lexicographic.{bytes_decides}
use Rattle.ghcn_fields.specs.Meaning.Bytes.{same_bytes}
use Rattle.rank_papers.specs.Lines.{paper_lines, onto_first, IsFirstLineCut, and_then, nothing_behind, ends_by, value_or_end, up_to_end}

-- ---- after an end line

module _ {A : Type 0} (n : ℕ) where
  -- a byte and more lines aren't nothing
  onto_some : (b : ℕ) (ls : List (List ℕ)) → nothing_behind {A = A} n (onto_first b ls) ≡ Err (n + 1)
  onto_some b [] = refl
  onto_some b (l ∷ ls) = refl

  -- if bytes come after the end line, lines do
  some_lines : (behind : List ℕ) → 0 < length behind → nothing_behind {A = A} n (paper_lines behind) ≡ Err (n + 1)
  some_lines [] some = absurd (omega arith)
  some_lines (b ∷ bytes) some = elim (b == 10) as (λ t. nothing_behind {A = A} n (cond t ((b ∷ []) ∷ paper_lines bytes)
      (onto_first b (paper_lines bytes))) ≡ Err (n + 1)) [
        | true ↦ refl
        | false ↦ onto_some b (paper_lines bytes)
      ]

  -- what comes after the end line is bad
  pub ends_by-more : (m : ℕ) (line end behind : List ℕ) → line ≡ end → 0 < length behind → n + 1 ≡ m
      → ends_by {A = A} n (same_bytes line end) (paper_lines behind) ≡ Err m
  ends_by-more m line end behind e some next =
      ap (λ (t : Bool). ends_by n t (paper_lines behind)) ((bytes_decides line end).1 e)
      ∙ some_lines behind some ∙ ap Err next

-- ---- values

-- some values before those that are read
abbrev pub and_values : {A : Type 0} → List A → Result (List A) ℕ → Result (List A) ℕ
and_values xs (Ok ys) = Ok (xs ++ ys)
and_values xs (Err n) = Err n

-- one value more among those before
and_values-more : {A : Type 0} (xs : List A) (x : A) (r : Result (List A) ℕ)
    → and_values (xs ++ x ∷ []) r ≡ and_values xs (and_then x r)
and_values-more xs x (Ok ys) = ap Ok (append_assoc xs (x ∷ []) ys)
and_values-more xs x (Err n) = refl

module _ {A : Type 0} (first : ℕ) (value_in : ℕ → List ℕ → Option A) (end : ℕ → List ℕ) (text : List ℕ) where
  -- the values of a text after that many others
  abbrev read : ℕ → List ℕ → Result (List A) ℕ
  read n rest = up_to_end first value_in end n (paper_lines rest)

  -- how far the values of a text have been read: those found, and those of the rest, are those of all
  abbrev pub HasRead : List A → List ℕ → Type 0
  HasRead found rest = and_values found (read (length found) rest) ≡ read 0 text

  module _ (found : List A) (n : ℕ) (rest line behind : List ℕ) (h : HasRead found rest)
      (cut : IsFirstLineCut rest (Some (line, behind))) (count : n ≡ length found) where
    -- the line that is cut off is a value with others after it, or the end line
    pub HasRead-line : (o : Option A) → o ≡ value_in n line
        → read 0 text ≡ and_values found (value_or_end (n + first) o (same_bytes line (end n)) (paper_lines behind)
        (read (suc n) behind))
    HasRead-line o is =
        sym h ∙ ap (λ (m : ℕ). and_values found (read m rest)) (sym count)
        ∙ ap (λ (ls : List (List ℕ)). and_values found (up_to_end first value_in end n ls)) cut.0
        ∙ ap (λ (x : Option A). and_values found (value_or_end (n + first) x (same_bytes line (end n))
        (paper_lines behind) (read (suc n) behind))) (sym is)

    -- one value more has been read
    pub HasRead-more : (more : List A) (x : A) → Some x ≡ value_in n line → more ≡ found ++ x ∷ []
        → HasRead more behind
    HasRead-more more x is push =
        let len : length more ≡ suc n = ap length push ∙ omega (arith, count, length-append found (x ∷ [])) in
        ap (λ (m : ℕ). and_values more (read m behind)) len
        ∙ ap (λ (xs : List A). and_values xs (read (suc n) behind)) push
        ∙ and_values-more found x (read (suc n) behind) ∙ sym (HasRead-line (Some x) is)

    -- if there is no value and the line is the end line, those found are all
    pub HasRead-all : None ≡ value_in n line
        → ends_by {A = A} (n + first) (same_bytes line (end n)) (paper_lines behind) ≡ Ok [] → read 0 text ≡ Ok found
    HasRead-all is ends = HasRead-line None is ∙ ap (and_values found) ends ∙ ap Ok (append-nil found)

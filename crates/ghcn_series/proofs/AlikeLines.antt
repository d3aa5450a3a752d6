-- Lines that are alike have the same columns, and have the same on them.
use Rattle.ghcn_series.proofs.Cited.{◌≡◌, ℕ, ◌-◌, ◌≤◌, inl, inr, min, Bool, cond, List, length, take, drop, refl, sym}
use Rattle.ghcn_series.proofs.Cited.{ap, ap₂, ◌∙◌, length-take, arith, ◌==◌, ◌&&◌, is_some, cases_lt, take-append-drop}
use Rattle.ghcn_series.proofs.Cited.{length-take-le, take_all, list_all-append, is_blank, columns, element_of, Blank}
use Rattle.ghcn_series.proofs.Cited.{OfElement, Other, Odd, is_code, line_kind, AreAlike}
use Rattle.ghcn_files.proofs.ColumnSlices.{columns-front}

-- what is like a line that is like another one is like that one
pub alike-alike : (a b c : List ℕ) → AreAlike a b → AreAlike b c → AreAlike a c
alike-alike a b c one other = record { columns = one.columns ∙ other.columns; behind = one.behind ∙ other.behind }

-- lines that are alike are the same, or both have all columns: so what is the same of two lines with all columns is the
-- same of two that are alike
pub by_columns : {T : Type 0} (f : List ℕ → T) (a b : List ℕ) → take 269 a ≡ take 269 b
    → (269 ≤ length a → 269 ≤ length b → f a ≡ f b) → f a ≡ f b
by_columns f a b same whole =
    let count : min 269 (length a) ≡ min 269 (length b) = omega (arith, ap length same, length-take {A = ℕ}) in
    elim (cases_lt (length a) 269) [
      | inl short ↦ ap f (sym (take_all 269 a (omega arith)) ∙ same ∙ take_all 269 b (omega arith))
      | inr long ↦ whole long (omega arith)
    ]

-- columns of a line are those of its first 269
front_columns : (from to : ℕ) (line : List ℕ) → (1 ≤ from) × (from ≤ to) × (to ≤ 269) → 269 ≤ length line
    → columns from to line ≡ columns from to (take 269 line)
front_columns from to line within long = ap (columns from to) (sym (take-append-drop 269 line))
    ∙ columns-front from to (from - 1) to (take 269 line) (drop 269 line) (omega (arith, within.0)) refl
    (omega (arith, within.1)) (omega (arith, within.2, length-take-le 269 line long))

-- lines that are alike have the same columns
pub same_columns : (from to : ℕ) (a b : List ℕ) → (1 ≤ from) × (from ≤ to) × (to ≤ 269) → take 269 a ≡ take 269 b
    → columns from to a ≡ columns from to b
same_columns from to a b within same = by_columns (columns from to) a b same (λ long_a long_b.
    front_columns from to a within long_a ∙ ap (columns from to) same ∙ sym (front_columns from to b within long_b))

-- the same code among them
pub same_code : (a b : List ℕ) → AreAlike a b → columns 18 21 a ≡ columns 18 21 b
same_code a b is = same_columns 18 21 a b (omega arith) is.columns

-- a line is blank if its columns are and what follows them
blank_by : (line : List ℕ) → is_blank line ≡ (is_blank (take 269 line) && is_blank (drop 269 line))
blank_by line =
    ap is_blank (sym (take-append-drop 269 line)) ∙ list_all-append (λ b. b == 32) (take 269 line) (drop 269 line)

-- both are blank or neither is
pub same_blank : (a b : List ℕ) → AreAlike a b → is_blank a ≡ is_blank b
same_blank a b is =
    blank_by a ∙ ap₂ (λ (l : List ℕ) (t : Bool). is_blank l && t) is.columns is.behind ∙ sym (blank_by b)

-- both have one of the five elements, or the form of lines of daily files, or neither has: so the same is on both
pub same_kind : (a b : List ℕ) → AreAlike a b → line_kind a ≡ line_kind b
same_kind a b is = let code = same_code a b is in λ i. cond (same_blank a b is i) Blank
    (cond (is_some (element_of (code i))) OfElement (cond (is_code (code i) && is.behind i) Other Odd))

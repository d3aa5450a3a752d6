-- Columns of a line, and slices of it.
use Rattle.std.proofs.Common.{◌≡◌, ℕ, zero, suc, ◌+◌, ◌-◌, ◌<◌, ◌≤◌, min, List, [], ◌∷◌, ◌++◌, length, take, drop}
use Rattle.std.proofs.Common.{get_or, refl, sym, ap, ◌∙◌, arith, length-drop, length-append}
use Rattle.std.specs.Prelude.{replicate}
use Rattle.std.proofs.lemmas.List.{take-append-le, drop-append-le, drop-replicate, take-replicate}
use Rattle.ghcn_fields.specs.Meaning.Lines.{columns}

-- columns that the line has are a slice of it
pub columns-slice : (from to i j : ℕ) (line : List ℕ) → from ≡ i + 1 → to ≡ j → i ≤ j → j ≤ length line
    → columns from to line ≡ take (j - i) (drop i line)
columns-slice from to i j line first last order within =
    let blanks : List ℕ = replicate to 32 in
    let count : suc to - from ≡ j - i = omega arith in
    let begin : from - 1 ≡ i = omega arith in
    ap (λ (n : ℕ). take n (drop (from - 1) (line ++ blanks))) count
    ∙ ap (λ (n : ℕ). take (j - i) (drop n (line ++ blanks))) begin
    ∙ ap (take (j - i)) (drop-append-le i line blanks (omega arith))
    ∙ take-append-le (j - i) (drop i line) blanks (omega (arith, length-drop i line))

-- the first of some blanks
first_blank : (n : ℕ) → 0 < n → take {A = ℕ} 1 (replicate n 32) ≡ 32 ∷ []
first_blank zero h = absurd (omega arith)
first_blank (suc n) h = refl

-- one column after a line that blanks follow
one_of : (i k : ℕ) (line : List ℕ) → i < k → take 1 (drop i (line ++ replicate k 32)) ≡ get_or line i 32 ∷ []
one_of i k [] h = ap (take 1) (drop-replicate i k 32) ∙ first_blank (k - i) (omega arith)
one_of zero k (b ∷ bs) h = refl
one_of (suc i) k (b ∷ bs) h = one_of i k bs (omega arith)

-- one column is the byte there, or a blank past the end
pub one_column : (at i : ℕ) (line : List ℕ) → at ≡ i + 1 → columns at at line ≡ get_or line i 32 ∷ []
one_column at i line e =
    let count : suc at - at ≡ 1 = omega arith in
    let begin : at - 1 ≡ i = omega arith in
    ap (λ (n : ℕ). take n (drop (at - 1) (line ++ replicate at 32))) count
    ∙ ap (λ (n : ℕ). take 1 (drop n (line ++ replicate at 32))) begin
    ∙ one_of i at line (omega arith)

-- nothing is left of nothing
drop_nothing : (n : ℕ) → drop {A = ℕ} n [] ≡ []
drop_nothing zero = refl
drop_nothing (suc n) = refl

-- what a place on a line has after it, if blanks follow the line: the rest of the line, and enough blanks
behind : (i n k start : ℕ) (line : List ℕ) → i + n ≤ k → start ≡ min i (length line)
    → (m : ℕ) × (n ≤ m) × (drop i (line ++ replicate k 32) ≡ drop start line ++ replicate m 32)
behind i n k start [] le e = (
  k - i,
  omega arith,
  drop-replicate i k 32
      ∙ ap (λ (r : List ℕ). r ++ replicate (k - i) 32) (sym (drop_nothing start)),
)
behind zero n k zero (b ∷ bs) le e = (k, omega arith, refl)
behind zero n k (suc start) (b ∷ bs) le e = absurd (omega arith)
behind (suc i) n k zero (b ∷ bs) le e = absurd (omega arith)
behind (suc i) n k (suc start) (b ∷ bs) le e = behind i n k start bs (omega arith) (omega arith)

-- the first n of a rest and blanks: what the rest has of them, and blanks for the others
filled : (n m count : ℕ) (rest : List ℕ) → n ≤ m → count ≡ min n (length rest)
    → take n (rest ++ replicate m 32) ≡ take count rest ++ drop count (replicate n 32)
filled n m zero [] le e = take-replicate n m 32 le
filled n m (suc count) [] le e = absurd (omega arith)
filled zero m zero (b ∷ bs) le e = refl
filled zero m (suc count) (b ∷ bs) le e = absurd (omega arith)
filled (suc n) m zero (b ∷ bs) le e = absurd (omega arith)
filled (suc n) m (suc count) (b ∷ bs) le e =
    ap (λ (xs : List ℕ). b ∷ xs) (filled n m count bs (omega arith) (omega arith))

-- columns are what the line has of them, and blanks for the others
pub columns-filled : (from n start count : ℕ) (line : List ℕ) → 1 ≤ from → start ≡ min (from - 1) (length line)
    → count ≡ min n (length (drop start line))
    → columns from (from + n - 1) line ≡ take count (drop start line) ++ drop count (replicate n 32)
columns-filled from n start count line low s e =
    let to = from + n - 1 in
    let parts = behind (from - 1) n to start line (omega arith) s in
    ap (λ (k : ℕ). take k (drop (from - 1) (line ++ replicate to 32))) (omega arith)
    ∙ ap (take n) parts.2
    ∙ filled n parts.0 count (drop start line) parts.1 e

-- columns of the front of a line
pub columns-front : (from to i j : ℕ) (front behind : List ℕ) → from ≡ i + 1 → to ≡ j → i ≤ j → j ≤ length front
    → columns from to (front ++ behind) ≡ columns from to front
columns-front from to i j front behind first last order within =
    columns-slice from to i j (front ++ behind) first last order (omega (arith, length-append front behind))
    ∙ ap (take (j - i)) (drop-append-le i front behind (omega arith))
    ∙ take-append-le (j - i) (drop i front) behind (omega (arith, length-drop i front))
    ∙ sym (columns-slice from to i j front first last order within)

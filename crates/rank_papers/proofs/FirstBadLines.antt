-- There is at most one first bad line of a text.
use Rattle.std.proofs.Common.{◌≡◌, inl, inr, ℕ, ◌+◌, ◌<◌, Bool, true, false, List, [], ◌∷◌, ◌++◌, length, refl, sym, ap, ◌∙◌, append_assoc, append-nil, length-append, subst, arith}
use Rattle.std.specs.Prelude.{nat_lt}
use Rattle.std.proofs.lemmas.Bool.Decides.{nat_tests}
use Rattle.rank_papers.specs.Lines.{paper_lines}
use Rattle.rank_papers.specs.Places.{Begin, IsFirstBadLine}

-- lines of which some are the first
abbrev Lines : Type 0
Lines = List (List ℕ)

-- a longer beginning of the same lines has the line after a shorter one
longer : (front : Lines) (x : List ℕ) (rest other more : Lines) → front ++ x ∷ rest ≡ other ++ more
    → length front < length other → (zs : Lines) × (other ≡ (front ++ x ∷ []) ++ zs)
longer [] x rest [] more e lt = absurd (omega arith)
longer [] x rest (y ∷ ys) more e lt = let same : x ≡ y = cc in (ys, ap (λ (z : List ℕ). z ∷ ys) (sym same))
longer (f ∷ front) x rest [] more e lt = absurd (omega arith)
longer (f ∷ front) x rest (y ∷ ys) more e lt =
    let same : f ≡ y = cc in
    let tail : front ++ x ∷ rest ≡ ys ++ more = cc in
    let found = longer front x rest ys more tail (omega (arith, lt)) in
    (found.0, ap (λ (z : List ℕ). z ∷ ys) (sym same) ∙ ap (λ (l : Lines). f ∷ l) found.1)

module _ (IsText : List ℕ → Type 0) where
  -- the first of lines that begin a report or a certificate begin one
  pub begin-first : (ls zs : Lines) → Begin IsText (ls ++ zs) → Begin IsText ls
  begin-first ls zs b = record {
    text = b.text;
    has_form = b.has_form;
    more = zs ++ b.more;
    lines = b.lines ∙ append_assoc ls zs b.more;
  }

  -- the lines of a text that has the form begin a report or a certificate, wherever they are cut
  pub begin-whole : (bytes : List ℕ) (ls zs : Lines) → IsText bytes → paper_lines bytes ≡ ls ++ zs → Begin IsText ls
  begin-whole bytes ls zs is e = record { text = bytes; has_form = is; more = zs; lines = e }

  -- the lines before a first bad line are no fewer than those before another
  not_before : (bytes : List ℕ) (n m : ℕ) (f : IsFirstBadLine IsText bytes n) (g : IsFirstBadLine IsText bytes m)
      → length f.before < length g.before → ⊥
  not_before bytes n m f g lt = elim f.wrong [
    | inl w ↦ elim g.wrong [
      | inl v ↦
          let found = longer f.before w.line w.behind g.before (v.line ∷ v.behind) (sym w.lines ∙ v.lines) lt in
          w.ended (begin-first (f.before ++ w.line ∷ []) found.0
          (subst (λ (l : Lines). Begin IsText l) found.1 g.begun))
      | inr v ↦
          let found = longer f.before w.line w.behind g.before []
          (sym w.lines ∙ v.lines ∙ sym (append-nil g.before)) lt in
          w.ended (begin-first (f.before ++ w.line ∷ []) found.0
          (subst (λ (l : Lines). Begin IsText l) found.1 g.begun))
    ]
    | inr w ↦ elim g.wrong [
      | inl v ↦
          let all : length f.before ≡ length (g.before ++ v.line ∷ v.behind) =
          ap (λ (l : Lines). length l) (sym w.lines ∙ v.lines) in
          omega (arith, all, length-append g.before (v.line ∷ v.behind), lt)
      | inr v ↦
          let all : length f.before ≡ length g.before = ap (λ (l : Lines). length l) (sym w.lines ∙ v.lines) in
          omega (arith, all, lt)
    ]
  ]

  -- so there is one number at most
  pub one_first : (bytes : List ℕ) (n m : ℕ) → IsFirstBadLine IsText bytes n → IsFirstBadLine IsText bytes m → n ≡ m
  one_first bytes n m f g = by (nat_lt (length f.before) (length g.before)) (nat_lt (length g.before) (length f.before))
      refl refl
    where
      by : (a b : Bool) → nat_lt (length f.before) (length g.before) ≡ a
          → nat_lt (length g.before) (length f.before) ≡ b → n ≡ m
      by true b d e =
          let lt : length f.before < length g.before = grind (arith, nat_tests) in absurd (not_before bytes n m f g lt)
      by false true d e =
          let lt : length g.before < length f.before = grind (arith, nat_tests) in absurd (not_before bytes m n g f lt)
      by false false d e =
          let one : n ≡ length f.before + 1 = f.number in
          let other : m ≡ length g.before + 1 = g.number in
          grind (arith, nat_tests)

-- The lines of a text that is cut after a line feed.
use Rattle.std.proofs.Common.{◌≡◌, ℕ, ◌+◌, ◌<◌, Bool, true, false, List, [], ◌∷◌, ◌++◌, length, refl, sym, ap, ◌∙◌}
use Rattle.std.proofs.Common.{append_assoc, inl, inr, arith}
use Rattle.std.specs.Prelude.{map, ◌==◌}
use Rattle.std.specs.List.{slice_split, enumerate_from, onto_first}
use Rattle.std.specs.Str.Lines.{strip_carriage_return}
use Rattle.std.proofs.lemmas.List.{append-nil, map-append, length-map}
use Rattle.std.proofs.lemmas.List.Splits.{slice_split-cons_yes, slice_split-cons_no, length-slice_split}
use Rattle.ghcn_fields.specs.Meaning.Lines.{lines, without_empty_last}
use Rattle.ghcn_fields.specs.Lines.{HasNoLineFeed, EndsLine}
use Rattle.ghcn_fields.proofs.FirstLine.{last_stays}

-- a line feed
abbrev is_line_feed : ℕ → Bool
is_line_feed b = b == 10

-- what is between the line feeds of a text
abbrev parts : List ℕ → List (List ℕ)
parts text = slice_split is_line_feed text

-- a byte goes to the first of all parts
onto_first-append : (x : ℕ) (ps qs : List (List ℕ)) → 0 < length ps → onto_first x (ps ++ qs) ≡ onto_first x ps ++ qs
onto_first-append x [] qs h = absurd (omega arith)
onto_first-append x (p ∷ ps) qs h = refl

-- a line feed splits
parts-append : (front rest : List ℕ) → parts (front ++ 10 ∷ rest) ≡ parts front ++ parts rest
parts-append [] rest = slice_split-cons_yes is_line_feed 10 rest refl
parts-append (x ∷ xs) rest =
    elim (is_line_feed x) as (λ b. is_line_feed x ≡ b → parts (x ∷ xs ++ 10 ∷ rest) ≡ parts (x ∷ xs) ++ parts rest) [
      | true ↦ λ yes.
          slice_split-cons_yes is_line_feed x (xs ++ 10 ∷ rest) yes
          ∙ ap (λ (ps : List (List ℕ)). [] ∷ ps) (parts-append xs rest)
          ∙ ap (λ (ps : List (List ℕ)). ps ++ parts rest) (sym (slice_split-cons_yes is_line_feed x xs yes))
      | false ↦ λ no.
          slice_split-cons_no is_line_feed x (xs ++ 10 ∷ rest) no
          ∙ ap (onto_first x) (parts-append xs rest)
          ∙ onto_first-append x (parts xs) (parts rest) (omega (arith, length-slice_split is_line_feed xs))
          ∙ ap (λ (ps : List (List ℕ)). ps ++ parts rest) (sym (slice_split-cons_no is_line_feed x xs no))
    ] refl

-- a text without a line feed is one part
parts-one : (text : List ℕ) → HasNoLineFeed text → parts text ≡ text ∷ []
parts-one [] none = refl
parts-one (x ∷ xs) none = slice_split-cons_no is_line_feed x xs none.0 ∙ ap (onto_first x) (parts-one xs none.1)

-- only the last of all parts is taken off
without_empty_last-append : (ps qs : List (List ℕ)) → 0 < length qs
    → without_empty_last (ps ++ qs) ≡ ps ++ without_empty_last qs
without_empty_last-append [] qs h = refl
without_empty_last-append (p ∷ []) [] h = absurd (omega arith)
without_empty_last-append (p ∷ []) (q ∷ qs) h = refl
without_empty_last-append (p ∷ r ∷ ps) qs h =
    ap (λ (xs : List (List ℕ)). p ∷ xs) (without_empty_last-append (r ∷ ps) qs h)

-- the lines of a text before a line feed and after it
lines-split : (front rest : List ℕ)
    → lines (front ++ 10 ∷ rest) ≡ map strip_carriage_return (parts front) ++ lines rest
lines-split front rest =
    ap (λ (ps : List (List ℕ)). map strip_carriage_return (without_empty_last ps)) (parts-append front rest)
    ∙ ap (map strip_carriage_return)
    (without_empty_last-append (parts front) (parts rest) (omega (arith, length-slice_split is_line_feed rest)))
    ∙ map-append strip_carriage_return (parts front) (without_empty_last (parts rest))

-- the lines of a text that ends a line
lines-ended : (front : List ℕ) → lines (front ++ 10 ∷ []) ≡ map strip_carriage_return (parts front)
lines-ended front = lines-split front [] ∙ append-nil (map strip_carriage_return (parts front))

-- the lines of a text that ends a line, and then others
pub lines-append : (whole rest : List ℕ) → EndsLine whole → lines (whole ++ rest) ≡ lines whole ++ lines rest
lines-append whole rest (inl none) = rw none refl
lines-append whole rest (inr ends) =
    ap (λ (w : List ℕ). lines (w ++ rest)) ends.1
    ∙ ap lines (append_assoc ends.0 (10 ∷ []) rest)
    ∙ lines-split ends.0 rest
    ∙ ap (λ (ls : List (List ℕ)). ls ++ lines rest) (sym (lines-ended ends.0) ∙ ap lines (sym ends.1))

-- a line and its line feed
pub lines-one : (line : List ℕ) → HasNoLineFeed line → lines (line ++ 10 ∷ []) ≡ strip_carriage_return line ∷ []
lines-one line none = lines-ended line ∙ ap (map strip_carriage_return) (parts-one line none)

-- a last line without one
pub lines-unended : (b : ℕ) (line : List ℕ) → HasNoLineFeed (b ∷ line)
    → lines (b ∷ line) ≡ strip_carriage_return (b ∷ line) ∷ []
lines-unended b line none =
    ap (λ (ps : List (List ℕ)). map strip_carriage_return (without_empty_last ps)) (parts-one (b ∷ line) none)
    ∙ ap (map strip_carriage_return) (last_stays (b ∷ line) (omega arith))

-- a text that ends a line has one, unless it is empty
pub lines-some : (whole : List ℕ) → EndsLine whole → length (lines whole) ≡ 0 → whole ≡ []
lines-some whole (inl none) nothing = none
lines-some whole (inr ends) nothing =
    let count : length (lines whole) ≡ length (map strip_carriage_return (parts ends.0)) =
    ap (λ (w : List ℕ). length (lines w)) ends.1 ∙ ap length (lines-ended ends.0) in
    absurd (omega (
      arith,
      count,
      nothing,
      length-map (parts ends.0) strip_carriage_return,
      length-slice_split is_line_feed ends.0,
    ))

-- of two lists, one after the other, the second is numbered on
pub enumerate_from-append : {X : Type 0} (n : ℕ) (xs ys : List X)
    → enumerate_from n (xs ++ ys) ≡ enumerate_from n xs ++ enumerate_from (n + length xs) ys
enumerate_from-append n [] ys = ap (λ k. enumerate_from k ys) (omega arith)
enumerate_from-append n (x ∷ xs) ys =
    ap (λ l. (n, x) ∷ l) (enumerate_from-append (n + 1) xs ys
    ∙ ap (λ k. enumerate_from (n + 1) xs ++ enumerate_from k ys) (omega arith))

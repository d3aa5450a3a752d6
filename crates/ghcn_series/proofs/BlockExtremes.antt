-- The least and the greatest value of a block, step by step, and those of blocks one after another.
use Rattle.ghcn_series.proofs.Cited.{◌≡◌, ℕ, ◌+◌, ◌-◌, ◌<◌, ◌^◌, ◌⊎◌, inl, inr, List, [], ◌∷◌, ◌++◌, length, get_or, set}
use Rattle.ghcn_series.proofs.Cited.{ap, below_more, sym, subst, ◌∙◌, arith, rules, ints, ℤ, pos, bit_at, get_or-set_other, bit_at-lt}
use Rattle.ghcn_series.proofs.Cited.{bit_at_ones, cases_lt, get_or_append_left, get_or_push, length_push, AreColumns}
use Rattle.ghcn_series.proofs.Cited.{IsGreatest, HasZeros, IsScoreAmong, IsUsableScore, StandsFor, HasUsableAlone}
use Rattle.ghcn_series.proofs.Cited.{Extremes, AreExtremes, AreExtremesOf, HaveDays, Bor, IfSome, None, Option, Some}
use Rattle.ghcn_series.proofs.Cited.{is_some, ltb-true, nat_lt, option_copied}
use Rattle.std.specs.Int.{int_max, int_min}
use Rattle.std.proofs.lemmas.Grind.{get_or-set_at}
use Rattle.ghcn_series.proofs.PartsAdded.{packed-at}

-- what is true of two numbers is true of the greater
pub max-one : (P : ℤ → Type 0) (a b r : ℤ) → r ≡ int_max a b → P a → P b → P r
max-one P a b r is of_a of_b = grind (arith, ints)

-- and of the less
pub min-one : (P : ℤ → Type 0) (a b r : ℤ) → r ≡ int_min a b → P a → P b → P r
min-one P a b r is of_a of_b = grind (arith, ints)

-- if what is made of 0 isn't the greatest of all numbers, or each day is usable, it is that of the usable days
pub greatest-shown : (f : ℤ → ℤ) (word : ℕ) (values : List ℤ) (z : ℤ) → HasZeros word values
    → ((z ≡ f (pos 0) → ⊥) ⊎ (word ≡ 2 ^ 32 - 1)) → IsGreatest (IsScoreAmong f values) z
    → IsGreatest (IsUsableScore f word values) z
greatest-shown f word values z zeros (inl other) of_z = grind (arith, ints, get_or, bit_at-lt, set)
greatest-shown f word values z zeros (inr whole) of_z =
    grind (arith, ints, λ (j : ℕ) (lt : j < 32). ap (λ (w : ℕ). bit_at w j) whole ∙ bit_at_ones 32 j lt)

-- the greatest of a row that has the values of the usable days alone
pub greatest-alone : (f : ℤ → ℤ) (word : ℕ) (values row : List ℤ) (z : ℤ) → HasUsableAlone word values row
    → IsGreatest (IsScoreAmong f row) z → IsGreatest (IsUsableScore f word values) z
greatest-alone f word values row z alone of_z = search (rules, arith)

-- a row that is filled up to a place, with that place
pub row-more : (word : ℕ) (values row : List ℤ) (p : ℕ) (z : ℤ) → p < length row → StandsFor word values p z
    → ((j : ℕ) → j < p → StandsFor word values j (get_or row j (pos 0)))
    → (j : ℕ) → j < p + 1 → StandsFor word values j (get_or (set row p z) j (pos 0))
row-more word values row p z lt here filled = search (rules, arith, below_more, get_or-set_other, get_or-set_at)

-- ---- of blocks one after another

-- with those of the next block
pub extremes-more : (ws : List ℕ) (vs : List (List ℤ)) (es : List Extremes) (e : Extremes) → AreExtremesOf ws vs es
    → AreExtremes (get_or ws (length es) 0) (get_or vs (length es) []) e → AreExtremesOf ws vs (es ++ e ∷ [])
extremes-more ws vs es e all is = record {
  each = λ i d lt. elim (cases_lt i (length es)) [
    | inl before ↦ subst (AreExtremes (get_or ws i 0) (get_or vs i []))
        (sym (get_or_append_left es (e ∷ []) d i before)) (all.each i d before)
    | inr behind ↦
        let last : length es ≡ i = omega (arith, lt, behind, length_push es e) in
        rw (get_or_push es e d i last, ← last) is
  ];
}

-- what a list has at a place are the extremes of the block there
pub extremes-got : (ws : List ℕ) (vs : List (List ℤ)) (es : List Extremes) (i : ℕ) (o : Option (Bor Extremes))
    → is_some o ≡ nat_lt i (length es) → IfSome o (λ x. x.now ≡ get_or es i x.now) → AreExtremesOf ws vs es
    → IfSome (option_copied o) (AreExtremes (get_or ws i 0) (get_or vs i []))
extremes-got ws vs es i None some is all = tt
extremes-got ws vs es i (Some x) some is all =
    subst (AreExtremes (get_or ws i 0) (get_or vs i [])) (sym is) (all.each i x.now (ltb-true i (length es) (sym some)))

-- the blocks of columns have a day each
pub columns-days : (ns : List ℤ) (ws : List ℕ) (vs : List (List ℤ)) → AreColumns ns ws vs → HaveDays ws vs
columns-days ns ws vs cols = record {
  enough_values = cols.blocks.enough_values ∙ sym cols.blocks.enough_words;
  present = λ i lt. (packed-at ns ws vs cols.blocks i (omega (arith, lt, cols.blocks.enough_words))).present;
  zeros = λ i lt. (packed-at ns ws vs cols.blocks i (omega (arith, lt, cols.blocks.enough_words))).zeros;
}

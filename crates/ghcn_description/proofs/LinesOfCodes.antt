-- Lines and more lines by their codes.
use Rattle.std.proofs.Common.{◌≡◌, ℕ, ◌+◌, true, false, Bool, cond, List, [], ◌∷◌, ◌++◌, refl, sym, ap, arith, inl}
use Rattle.std.specs.Prelude.{◌&&◌}
use Rattle.std.specs.List.{count_by}
use Rattle.std.proofs.lemmas.List.Sums.{sum_by-append, sum_by-cons}
use Rattle.ghcn_fields.specs.Meaning.Bytes.{same_bytes}
use Rattle.ghcn_series.specs.DailyFaults.{FileLine}
use Rattle.ghcn_series.specs.LinesRead.{line_texts}
use Rattle.ghcn_description.specs.declared.counts.CodeCount.{CodeCount}
use Rattle.ghcn_description.specs.Lines.{is_other, code_on, lines_with, other_lines}
use Rattle.ghcn_description.specs.Described.{AreOthers, CountSmallest}
use Rattle.ghcn_description.proofs.OtherCodes.{same-counts}

-- no line has another code
pub nothing-counted : AreOthers [] [] 0
nothing-counted = record {
  few = omega arith;
  codes = record {
    rising = λ i j d lt below. absurd (omega arith);
    some = λ i d lt. absurd (omega arith);
    each = λ k. inl refl;
    total = refl;
  };
}

-- the lines of a code among lines and more lines
abbrev of_both : List FileLine → List FileLine → List ℕ → ℕ
of_both ls more k = lines_with ls k + lines_with more k

-- what is counted of lines and of more lines is counted of both together
pub others-both : (ls more : List FileLine) (cs : List CodeCount) (n : ℕ)
    → CountSmallest (of_both ls more) (other_lines ls + other_lines more) cs n → AreOthers (ls ++ more) cs n
others-both ls more cs n is =
    same-counts (of_both ls more) (lines_with (ls ++ more)) (other_lines ls + other_lines more)
    (other_lines (ls ++ more)) cs n
    (λ k. sym (sum_by-append (λ l. cond (is_other l && same_bytes (code_on l) k) 1 0) ls more))
    (sym (sum_by-append (λ l. cond (is_other l) 1 0) ls more)) is

-- a line of another code is one line more of that
pub others-more : (ls : List FileLine) (l : FileLine) (cs : List CodeCount) (n : ℕ) → is_other l ≡ true
    → CountSmallest (λ k. lines_with ls k + cond (same_bytes (code_on l) k) 1 0) (other_lines ls + 1) cs n
    → AreOthers (ls ++ l ∷ []) cs n
others-more ls l cs n other is =
    others-both ls (l ∷ []) cs n
    (same-counts (λ k. lines_with ls k + cond (same_bytes (code_on l) k) 1 0) (of_both ls (l ∷ [])) (other_lines ls + 1)
    (other_lines ls + other_lines (l ∷ [])) cs n (λ k. rw other (omega arith)) (rw other (omega arith)) is)

-- a line of an element changes no count of other codes
pub no-other : (ls : List FileLine) (l : FileLine) (cs : List CodeCount) (n : ℕ) → is_other l ≡ false
    → AreOthers ls cs n → AreOthers (ls ++ l ∷ []) cs n
no-other ls l cs n none is =
    others-both ls (l ∷ []) cs n
    (same-counts (lines_with ls) (of_both ls (l ∷ [])) (other_lines ls) (other_lines ls + other_lines (l ∷ [])) cs n
    (λ k. rw none (omega arith)) (rw none (omega arith)) is)

-- as many lines pass a test of their texts, whatever their numbers are
count-texts : (p : List ℕ → Bool) (ls others : List FileLine) → line_texts ls ≡ line_texts others
    → count_by (λ l. p l.bytes) ls ≡ count_by (λ l. p l.bytes) others
count-texts p [] [] same = refl
count-texts p [] (y ∷ ys) same = absurd cc
count-texts p (x ∷ xs) [] same = absurd cc
count-texts p (x ∷ xs) (y ∷ ys) same =
    let here : x.bytes ≡ y.bytes = cc in
    let rest : line_texts xs ≡ line_texts ys = cc in
    omega (
      arith,
      ap (λ b. cond {A = ℕ} (p b) 1 0) here,
      count-texts p xs ys rest,
      sum_by-cons (λ l. cond (p l.bytes) 1 0) x xs,
      sum_by-cons (λ l. cond (p l.bytes) 1 0) y ys,
    )

-- a line of this text, whatever its number is
abbrev of_text : List ℕ → FileLine
of_text bytes = record { file = 0; line = 0; bytes = bytes }

-- what is counted of lines and of more lines is counted of both together, whatever the numbers of those are
pub others-texts : (ls more numbered : List FileLine) (cs : List CodeCount) (n : ℕ)
    → line_texts numbered ≡ line_texts more → CountSmallest (of_both ls more) (other_lines ls + other_lines more) cs n
    → AreOthers (ls ++ numbered) cs n
others-texts ls more numbered cs n same is =
    others-both ls numbered cs n
    (same-counts (of_both ls more) (of_both ls numbered) (other_lines ls + other_lines more)
    (other_lines ls + other_lines numbered) cs n
    (λ k. ap (λ m. lines_with ls k + m)
    (sym (count-texts (λ b. is_other (of_text b) && same_bytes (code_on (of_text b)) k) numbered more same)))
    (ap (λ m. other_lines ls + m) (sym (count-texts (λ b. is_other (of_text b)) numbered more same))) is)

-- The lines of a report or a certificate: where the first line ends.
use Rattle.std.proofs.Common.{◌≡◌, ℕ, zero, suc, ◌+◌, ◌<◌, Bool, true, false, cond, List, [], ◌∷◌, length, take, drop, get_or, Some, None, sym, ap, ◌∙◌, arith, length-drop}
use Rattle.std.specs.Prelude.{◌==◌}
use Rattle.std.proofs.lemmas.Bool.{false_from_ne_true}
use Rattle.memchr.specs.Find.{IsFirstByte, is_byte}
use Rattle.rank_papers.specs.Lines.{paper_lines, before_lines, onto_first, IsFirstLineCut}

-- a byte that isn't a line feed goes on with the first line
other_byte : (b : ℕ) (ls : List (List ℕ)) → (b == 10) ≡ false → before_lines b ls ≡ onto_first b ls
other_byte b ls e = ap (λ (t : Bool). cond t ((b ∷ []) ∷ ls) (onto_first b ls)) e

-- a line feed is a line
feed_byte : (b : ℕ) (ls : List (List ℕ)) → (b == 10) ≡ true → before_lines b ls ≡ (b ∷ []) ∷ ls
feed_byte b ls e = ap (λ (t : Bool). cond t ((b ∷ []) ∷ ls) (onto_first b ls)) e

-- the first line ends at the first line feed
pub lines-at : (bytes : List ℕ) (end : ℕ) → ((k : ℕ) → k < end → (get_or bytes k 0 == 10) ≡ false)
    → end < length bytes → (get_or bytes end 0 == 10) ≡ true
    → paper_lines bytes ≡ take (suc end) bytes ∷ paper_lines (drop (suc end) bytes)
lines-at [] end before inside at = absurd (omega arith)
lines-at (b ∷ bytes) zero before inside at = feed_byte b (paper_lines bytes) at
lines-at (b ∷ bytes) (suc end) before inside at =
    ap (before_lines b) (lines-at bytes end (λ k lt. before (suc k) (omega arith)) (omega arith) at)
    ∙ other_byte b (take (suc end) bytes ∷ paper_lines (drop (suc end) bytes)) (before 0 (omega arith))

-- without a line feed the text is one line
pub lines-one : (bytes : List ℕ) → 0 < length bytes → ((k : ℕ) → k < length bytes
    → (get_or bytes k 0 == 10) ≡ false) → paper_lines bytes ≡ bytes ∷ []
lines-one [] some none = absurd (omega arith)
lines-one (b ∷ []) some none = other_byte b [] (none 0 (omega arith))
lines-one (b ∷ c ∷ bytes) some none =
    ap (before_lines b) (lines-one (c ∷ bytes) (omega arith) (λ k lt. none (suc k) (omega arith)))
    ∙ other_byte b ((c ∷ bytes) ∷ []) (none 0 (omega arith))

-- a line is cut off at the first line feed
pub cut-at : (text rest : List ℕ) (end : ℕ) → IsFirstByte (is_byte 10) text (Some end)
    → rest ≡ drop (end + 1) text → IsFirstLineCut text (Some (take (end + 1) text, rest))
cut-at text rest end first e =
    let high : end < length text = first.0.high in
    let next : end + 1 ≡ suc end = omega arith in
    let less : length rest < length text = omega (arith, ap length e, length-drop (end + 1) text) in (
      lines-at text end (λ k lt. false_from_ne_true _ (first.0.before k (omega arith) lt)) high first.1
          ∙ ap (λ (n : ℕ). take n text ∷ paper_lines (drop n text)) (sym next)
          ∙ ap (λ (r : List ℕ). take (end + 1) text ∷ paper_lines r) (sym e),
      less,
    )

-- and the whole text if there is none
pub cut-whole : (text rest : List ℕ) → 0 < length text → IsFirstByte (is_byte 10) text None → rest ≡ []
    → IsFirstLineCut text (Some (text, rest))
cut-whole text rest some nowhere e = (
  lines-one text some (λ k lt. false_from_ne_true _ (nowhere k (omega arith) lt))
      ∙ ap (λ (r : List ℕ). text ∷ paper_lines r) (sym e),
  omega (arith, ap length e, some),
)

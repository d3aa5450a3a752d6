-- The first line of a text, and the lines after it.
use Rattle.std.proofs.Common.{◌≡◌, ℕ, ◌+◌, ◌<◌, Bool, false, List, [], ◌∷◌, length, take, drop, All, Some, None}
use Rattle.std.proofs.Common.{ap, ◌∙◌, arith}
use Rattle.std.specs.Prelude.{map, ◌==◌}
use Rattle.std.specs.List.{position_or_len, enumerate_from}
use Rattle.std.specs.Str.Lines.{strip_carriage_return}
use Rattle.std.proofs.lemmas.List.Splits.{slice_split_none, slice_split_first, length-slice_split}
use Rattle.std.proofs.lemmas.Bool.{false_from_ne_true}
use Rattle.std.proofs.lemmas.Bool.Decides.{nat_tests}
use Rattle.std.proofs.lemmas.List.Sums.{position_or_len_is, fails_before_first}
use Rattle.memchr.specs.Find.{IsFirstByte, is_byte}
use Rattle.ghcn_fields.specs.Meaning.Lines.{lines, without_empty_last}

-- a line feed
abbrev is_line_feed : ℕ → Bool
is_line_feed b = b == 10

-- a last part that isn't empty stays
pub last_stays : (x : List ℕ) → 0 < length x → without_empty_last (x ∷ []) ≡ x ∷ []
last_stays x h = grind (arith, nat_tests)

-- where the first line feed is, the first line ends
pub lines-first : (bytes : List ℕ) (end : ℕ) → IsFirstByte (is_byte 10) bytes (Some end)
    → lines bytes ≡ strip_carriage_return (take end bytes) ∷ lines (drop (end + 1) bytes)
lines-first bytes end first = grind (arith, nat_tests, slice_split_first, length-slice_split, position_or_len_is)

-- if there is none, the text is one line
pub lines-last : (bytes : List ℕ) → 0 < length bytes → IsFirstByte (is_byte 10) bytes None
    → lines bytes ≡ strip_carriage_return bytes ∷ []
lines-last bytes some nowhere =
    let at : position_or_len is_line_feed bytes ≡ length bytes =
    position_or_len_is is_line_feed bytes (length bytes) 0 (omega arith)
    (λ k lt. false_from_ne_true _ (nowhere k (omega arith) lt)) (λ lt. absurd (omega arith)) in
    let none : All (λ b. is_line_feed b ≡ false) bytes =
    λ k d lt. fails_before_first is_line_feed bytes k d (omega (arith, at)) in
    ap (λ (ps : List (List ℕ)). map strip_carriage_return (without_empty_last ps))
    (slice_split_none is_line_feed bytes none)
    ∙ ap (map strip_carriage_return) (last_stays bytes some)

-- the numbered lines of a text are its first line, and those of what is left
pub lines_left : (given : ℕ) (all : List (ℕ × List ℕ)) (text line rest shown left : List ℕ)
    → enumerate_from (given + 1) (lines text) ≡ all → lines text ≡ line ∷ lines rest → line ≡ shown → rest ≡ left
    → all ≡ (given + 1, shown) ∷ enumerate_from (given + 1 + 1) (lines left)
lines_left given all text line rest shown left view first same over = grind arith

-- a list that is one item and then others is longer than those
pub longer : {A : Type 0} (all : List A) (x : A) (others : List A) → all ≡ x ∷ others → length others < length all
longer all x others e = omega (arith, ap length e)

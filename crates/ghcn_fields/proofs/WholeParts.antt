-- The digits before a point, as a loop finds them.
use Rattle.std.proofs.Common.{◌≡◌, ℕ, zero, suc, ◌+◌, ◌-◌, ◌*◌, ◌^◌, ◌<◌, ◌≤◌, true, false, List, [], ◌∷◌, length, take}
use Rattle.std.proofs.Common.{drop, get_or, drop-drop, Option, Some, None, inl, inr, refl, sym, ap, ◌∙◌, arith}
use Rattle.std.specs.Prelude.{not}
use Rattle.std.specs.List.{list_all, list_any, before_first, after_first, position_or_len}
use Rattle.std.specs.Option.{option_map}
use Rattle.std.specs.Char.{is_ascii_digit}
use Rattle.std.specs.Str.Parse.{digits_value}
use Rattle.std.proofs.Math.Bool.{or-false}
use Rattle.std.proofs.lemmas.Bool.{cases_lt}
use Rattle.std.proofs.lemmas.Bool.Decides.{nat_tests}
use Rattle.std.proofs.lemmas.List.{get_or-take, take-take, take_all, length-take-le, length-drop}
use Rattle.std.proofs.lemmas.List.Folds.{list_all_at, list_all_more, list_any_none, list_any_at}
use Rattle.std.proofs.lemmas.List.Sums.{fails_before_first, passes_at_first, position_or_len_is, prefix_len-le-length}
use Rattle.ghcn_fields.specs.Numbers.{natural, up_to, joined, decimal_number}
use Rattle.ghcn_fields.proofs.Decimals.{is_point, decimal_number-by, up_to-some, joined-whole_over, units_over}
use Rattle.ghcn_fields.proofs.Digits.{natural-from, too_great}

-- that many digits come first in a text
abbrev pub BeginsWithDigits : List ℕ → ℕ → Type 0
BeginsWithDigits text i = list_all is_ascii_digit (take i text) ≡ true

-- a byte of some digits is one
digit_at : (ds : List ℕ) (k : ℕ) → list_all is_ascii_digit ds ≡ true → k < length ds
    → is_ascii_digit (get_or ds k 0) ≡ true
digit_at ds k digits lt = elim (is_ascii_digit (get_or ds k 0))
    as (λ b. is_ascii_digit (get_or ds k 0) ≡ b → b ≡ true) [
      | true ↦ λ is. refl
      | false ↦ λ is. absurd (let none = list_all_at is_ascii_digit ds k 0 lt is in cc)
    ] refl

-- none of the first digits is a point
no_point : (text : List ℕ) (i k : ℕ) → BeginsWithDigits text i → i ≤ length text → k < i
    → is_point (get_or text k 0) ≡ false
no_point text i k digits le lt =
    let at : is_ascii_digit (get_or text k 0) ≡ true =
    ap is_ascii_digit (sym (get_or-take i text k 0 lt))
    ∙ digit_at (take i text) k digits (omega (arith, lt, length-take-le i text le)) in
    grind (arith, nat_tests)

-- the first point comes after the first digits
digits_before : (text : List ℕ) (i : ℕ) → BeginsWithDigits text i → i ≤ length text
    → i ≤ position_or_len is_point text
digits_before text i digits le = elim (cases_lt (position_or_len is_point text) i) [
  | inl lt ↦ absurd (
      let there = passes_at_first is_point text 0 (omega (arith, lt, le)) in
      let none = no_point text i (position_or_len is_point text) digits le lt in
      cc)
  | inr le ↦ le
]

-- digits up to a point, or to the end, are all that come before it
pub whole_digits : (text : List ℕ) (i : ℕ) → BeginsWithDigits text i → i ≤ length text
    → (i < length text → get_or text i 0 ≡ 46) → position_or_len is_point text ≡ i
whole_digits text i digits le point =
    position_or_len_is is_point text i 0 le (λ k lt. no_point text i k digits le lt)
    (λ lt. ap is_point (point lt))

-- their number is found
pub whole_number : (text : List ℕ) (i v : ℕ) → BeginsWithDigits text i → i ≤ length text → 1 ≤ i
    → (i < length text → get_or text i 0 ≡ 46) → v ≡ digits_value 10 (take i text) → v ≤ 2 ^ 31
    → up_to (2 ^ 31) (natural (before_first is_point text)) ≡ Some v
whole_number text i v digits le some point value small =
    ap (λ (n : ℕ). up_to (2 ^ 31) (natural (take n text))) (whole_digits text i digits le point)
    ∙ ap (up_to (2 ^ 31)) (natural-from (take i text) (omega (arith, some, length-take-le i text le)) digits)
    ∙ ap (λ (n : ℕ). up_to (2 ^ 31) (Some n)) (sym value)
    ∙ grind (arith, nat_tests)

-- after the first digits another byte than a digit or a point leaves no number
pub no_whole : (text : List ℕ) (i : ℕ) → BeginsWithDigits text i → i < length text
    → is_ascii_digit (get_or text i 0) ≡ false → is_point (get_or text i 0) ≡ false
    → natural (before_first is_point text) ≡ None
no_whole text i digits lt bad other =
    let n : ℕ = position_or_len is_point text in
    let behind : i ≤ n = digits_before text i digits (omega arith) in
    let within : n ≤ length text = prefix_len-le-length (λ b. not (is_point b)) text in
    let inside : i < n = elim (cases_lt i n) [
      | inl lt ↦ lt
      | inr le ↦ absurd (
          let at : n ≡ i = omega (arith, le, behind) in
          let there = passes_at_first is_point text 0 (omega (arith, lt, at)) in
          let here = sym other ∙ ap (λ (k : ℕ). is_point (get_or text k 0)) (sym at) ∙ there in
          cc)
    ] in
    let long : length (take n text) ≡ n = length-take-le n text within in
    let failing = list_all_at is_ascii_digit (take n text) i 0 (omega (arith, inside, long))
    (ap is_ascii_digit (get_or-take n text i 0 inside) ∙ bad) in
    grind arith

-- the first digits alone may write too great a number
pub whole_too_great : (text : List ℕ) (i v : ℕ) → BeginsWithDigits text i → i ≤ length text
    → v ≡ digits_value 10 (take i text) → 2 ^ 31 < v → up_to (2 ^ 31) (natural (before_first is_point text)) ≡ None
whole_too_great text i v digits le value great =
    let n : ℕ = position_or_len is_point text in
    let behind : i ≤ n = digits_before text i digits le in
    too_great i v (2 ^ 31) (take n text)
    (value ∙ ap (digits_value 10) (sym (take-take i n text behind))) great

-- one digit more
pub digits_more : (text : List ℕ) (i : ℕ) → BeginsWithDigits text i → i < length text
    → is_ascii_digit (get_or text i 0) ≡ true → BeginsWithDigits text (i + 1)
digits_more text i digits lt digit = list_all_more is_ascii_digit text i 0 lt ∙ rw (digits, digit)

-- the first byte of a text is there, and is a digit
pub first_digit : (text : List ℕ) → list_any is_ascii_digit (take 1 text) ≡ true
    → (1 ≤ length text) × (is_ascii_digit (get_or text 0 0) ≡ true)
first_digit [] is = absurd cc
first_digit (b ∷ bytes) is = (omega arith, sym (or-false (is_ascii_digit b)) ∙ is)

-- a text that doesn't begin with a digit has no whole part
pub no_first_digit : (text : List ℕ) → list_any is_ascii_digit (take 1 text) ≡ false
    → natural (before_first is_point text) ≡ None
no_first_digit [] other = refl
no_first_digit (b ∷ bytes) other = elim (is_point b) as (λ p. is_point b ≡ p
    → natural (before_first is_point (b ∷ bytes)) ≡ None) [
      | true ↦ λ point. rw point refl
      | false ↦ λ plain. no_whole (b ∷ bytes) 0 refl (omega arith) (sym (or-false (is_ascii_digit b)) ∙ other) plain
    ] refl

-- a point comes after a first digit
pub some_digits : (text : List ℕ) (i : ℕ) → is_ascii_digit (get_or text 0 0) ≡ true → get_or text i 0 ≡ 46 → 1 ≤ i
some_digits text zero digit point = absurd (let bad = sym digit ∙ ap is_ascii_digit point in cc)
some_digits text (suc i) digit point = omega arith

-- ---- the number of both parts

-- without a point the digits are whole units
no_point_number : (places : ℕ) (text : List ℕ) → length text ≤ position_or_len is_point text
    → decimal_number places text ≡ option_map (λ n. n * 10 ^ places) (natural text)
no_point_number places text nowhere = decimal_number-by places text (list_any_none is_point text
    (λ k d lt. fails_before_first is_point text k d (omega (arith, lt, nowhere))))

-- the first point is between the whole part and the part after it
point_number : (places : ℕ) (text : List ℕ) → position_or_len is_point text < length text
    → decimal_number places text ≡ joined places (natural (before_first is_point text))
    (natural (after_first is_point text)) (length (after_first is_point text))
point_number places text there = decimal_number-by places text
    (list_any_at is_point text (position_or_len is_point text) 0 there (passes_at_first is_point text 0 there))

-- without a number before the point there is none
pub no_number : (places limit : ℕ) (text : List ℕ) → up_to limit (natural (before_first is_point text)) ≡ None
    → up_to limit (decimal_number places text) ≡ None
no_number places limit text none = elim (cases_lt (position_or_len is_point text) (length text)) [
  | inl lt ↦
      ap (up_to limit) (point_number places text lt)
      ∙ joined-whole_over limit places (length (after_first is_point text)) (natural (before_first is_point text))
      (natural (after_first is_point text)) none
  | inr le ↦
      let all : take (position_or_len is_point text) text ≡ text = take_all (position_or_len is_point text) text le in
      ap (up_to limit) (no_point_number places text le)
      ∙ units_over limit places (natural text) (ap (λ (t : List ℕ). up_to limit (natural t)) (sym all) ∙ none)
]

-- if nothing follows the whole part it is all
pub number_whole : (places limit whole : ℕ) (text rest : List ℕ)
    → Some whole ≡ up_to limit (natural (before_first is_point text)) → rest ≡ drop (position_or_len is_point text) text
    → length rest < 1 → decimal_number places text ≡ Some (whole * 10 ^ places)
number_whole places limit whole text rest is behind nothing =
    let le : length text ≤ position_or_len is_point text =
    omega (arith, nothing, ap (λ (t : List ℕ). length t) behind, length-drop (position_or_len is_point text) text) in
    let all : take (position_or_len is_point text) text ≡ text = take_all (position_or_len is_point text) text le in
    let number = up_to-some limit whole (natural (before_first is_point text)) (sym is) in
    no_point_number places text le
    ∙ ap (option_map (λ (n : ℕ). n * 10 ^ places)) (ap natural (sym all) ∙ number.0)

-- all but the first byte
abbrev behind_first : List ℕ → List ℕ
behind_first rest = take (length rest - 1) (drop 1 rest)

-- otherwise it is joined with what comes after the point
pub number_joined : (places limit whole : ℕ) (text rest : List ℕ)
    → Some whole ≡ up_to limit (natural (before_first is_point text)) → rest ≡ drop (position_or_len is_point text) text
    → 1 ≤ length rest
    → decimal_number places text ≡ joined places (Some whole) (natural (behind_first rest)) (length (behind_first rest))
number_joined places limit whole text rest is behind some =
    let n : ℕ = position_or_len is_point text in
    let lt : n < length text =
    omega (arith, some, ap (λ (t : List ℕ). length t) behind, length-drop n text) in
    let number = up_to-some limit whole (natural (before_first is_point text)) (sym is) in
    let part : after_first is_point text ≡ behind_first rest =
    sym (take_all (length rest - 1) (drop 1 rest) (omega (arith, length-drop 1 rest))
    ∙ ap (drop 1) behind ∙ drop-drop 1 n text) in
    point_number places text lt
    ∙ ap (λ (o : Option ℕ). joined places o (natural (after_first is_point text)) (length (after_first is_point text)))
    number.0
    ∙ ap (λ (t : List ℕ). joined places (Some whole) (natural t) (length t)) part

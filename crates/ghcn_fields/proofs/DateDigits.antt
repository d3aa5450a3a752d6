-- Digits in the places of a date: one for each place, and what they write.
use Rattle.std.proofs.Common.{◌≡◌, ℕ, zero, suc, ◌+◌, ◌/◌, ◌%◌, ◌<◌, ◌≤◌, true, List, [], ◌∷◌, length, Some, None}
use Rattle.std.proofs.Common.{refl, arith}
use Rattle.std.specs.Prelude.{◌^◌, ◌&&◌}
use Rattle.std.specs.Char.{is_ascii_digit}
use Rattle.std.specs.List.{list_all}
use Rattle.std.specs.Str.Parse.{digits_value, AllDigits}
use Rattle.std.proofs.Math.Nat.{pow-le-pow_right}
use Rattle.std.proofs.lemmas.Int.Digits.{digits_value-lt}
use Rattle.std.proofs.lemmas.Bool.{and_parts}
use Rattle.std.proofs.lemmas.List.Folds.{list_all-append}
use Rattle.std.proofs.lemmas.Bool.Decides.{nat_tests}
use Rattle.ghcn_fields.specs.Numbers.{natural, up_to}
use Rattle.ghcn_fields.specs.Meaning.NumberTexts.{last_digits}
use Rattle.ghcn_fields.proofs.Digits.{digit_is, natural-some}
use Rattle.ghcn_fields.proofs.Decimals.{up_to-fits}

-- two digits write each number below a hundred
pub value_of_two : (n : ℕ) → n < 100 → digits_value 10 (last_digits 2 n) ≡ n
value_of_two n lt = grind (arith, nat_tests)

-- four digits write each number below ten thousand
pub value_of_four : (n : ℕ) → n < 10000 → digits_value 10 (last_digits 4 n) ≡ n
value_of_four n lt = grind (arith, nat_tests)

-- a digit is a byte from 48 to 57
digit-range : (c : ℕ) → is_ascii_digit c ≡ true → (48 ≤ c) × (c ≤ 57)
digit-range c is = grind (arith, nat_tests)

-- two digits are those of the number that they write
pub two_again : (a b : ℕ) → list_all is_ascii_digit (a ∷ b ∷ []) ≡ true
    → last_digits 2 (digits_value 10 (a ∷ b ∷ [])) ≡ a ∷ b ∷ []
two_again a b digits = grind (arith, nat_tests)

-- and so are four
pub four_again : (a b c d : ℕ) → list_all is_ascii_digit (a ∷ b ∷ c ∷ d ∷ []) ≡ true
    → last_digits 4 (digits_value 10 (a ∷ b ∷ c ∷ d ∷ [])) ≡ a ∷ b ∷ c ∷ d ∷ []
four_again a b c d digits = grind (arith, nat_tests)

-- the last digits of a number are digits
pub digits-last_digits : (k n : ℕ) → list_all is_ascii_digit (last_digits k n) ≡ true
digits-last_digits zero n = refl
digits-last_digits (suc k) n = rw (
  list_all-append is_ascii_digit (last_digits k (n / 10)) ((48 + n % 10) ∷ []),
  digits-last_digits k (n / 10),
) (digit_byte n) where
  -- one digit's byte passes the test of digits
  digit_byte : (n : ℕ) → (true && (is_ascii_digit (48 + n % 10) && true)) ≡ true
  digit_byte n = grind (arith, nat_tests)

-- digits by the test are digits by std's word
all_digits : (ds : List ℕ) → list_all is_ascii_digit ds ≡ true → AllDigits 10 ds
all_digits [] e = tt
all_digits (d ∷ ds) e =
    let parts = and_parts (is_ascii_digit d) (list_all is_ascii_digit ds) e in
    (omega (arith, digit_is d parts.0, digit-range d parts.0), all_digits ds parts.1)

-- two digits at most write less than a hundred
pub natural-lt : (ds : List ℕ) (n k : ℕ) → natural ds ≡ Some n → length ds ≤ k → n < 10 ^ k
natural-lt ds n k e short = grind (arith, nat_tests, all_digits, pow-le-pow_right, digits_value-lt, natural-some)

-- four digits at most are never too great
pub short_natural : (ds : List ℕ) → length ds ≤ 4 → up_to (2 ^ 31) (natural ds) ≡ natural ds
short_natural ds short = elim (natural ds) as (λ o. natural ds ≡ o → up_to (2 ^ 31) o ≡ o) [
  | None ↦ λ _. refl
  | Some n ↦ λ e. up_to-fits (2 ^ 31) n (omega (arith, natural-lt ds n 4 e short))
] refl

-- so do the last four digits of a number, and the last two
pub four_are_some : (n : ℕ) → natural (last_digits 4 n) ≡ None → ⊥
four_are_some n = grind (arith, nat_tests)

-- the last two digits of a number write one
pub two_are_some : (n : ℕ) → natural (last_digits 2 n) ≡ None → ⊥
two_are_some n = grind arith

-- Which number a field has, and when it is blank.
use Rattle.std.proofs.Common.{◌≡◌, ◌↔◌, ℕ, zero, suc, ◌≤◌, Bool, true, false, List, [], ◌∷◌, ◌++◌, length, All, Option}
use Rattle.std.proofs.Common.{Some, None, refl, ap, inl, inr, arith, ℤ, FitsSigned, w32}
use Rattle.std.specs.Prelude.{◌==◌, if◌then◌else◌, replicate}
use Rattle.std.specs.Char.{is_ascii_digit}
use Rattle.std.specs.List.{AllByRecursion, list_all}
use Rattle.std.proofs.lemmas.Bool.{cases_eq}
use Rattle.std.proofs.lemmas.Bool.Decides.{nat_tests}
use Rattle.std.proofs.lemmas.List.Elements.{All-from_recursion, recursion_from_All}
use Rattle.std.proofs.lemmas.Grind.{common_steps}
use Rattle.ghcn_fields.specs.declared.field.Field.{Field}
use Rattle.ghcn_fields.specs.declared.field.Field.TheVariants.{Blank, Number}
use Rattle.ghcn_fields.specs.Numbers.{decimal_number, signed_by, field_of, field_by, after_blanks, int_field}
use Rattle.ghcn_fields.specs.Numbers.{scaled_field}
use Rattle.ghcn_fields.specs.Meaning.Fields.{part_text, sign_text, Spells, HasNumber}
use Rattle.ghcn_fields.proofs.DecimalTexts.{spells-from_signed, signed-from_spells, signed_by-zero}

-- the field is blanks, then its text
after_blanks-parts : (field : List ℕ) → (n : ℕ) × (field ≡ replicate n 32 ++ after_blanks field)
after_blanks-parts [] = (0, refl)
after_blanks-parts (b ∷ bytes) = elim (cases_eq b 32) [
  | inl blank ↦ let p = after_blanks-parts bytes in (suc p.0, rw blank (ap (λ (xs : List ℕ). 32 ∷ xs) p.1))
  | inr other ↦ (0, grind (arith, nat_tests))
]

-- a field has no text if each byte is a blank, byte by byte
blanks_by_recursion : (field : List ℕ) → (after_blanks field ≡ []) ↔ AllByRecursion (λ b. b ≡ 32) field
blanks_by_recursion [] = (λ _. tt, λ _. refl)
blanks_by_recursion (b ∷ bytes) = let rest = blanks_by_recursion bytes in grind (arith, nat_tests)

-- a field has no text if it is blanks alone
blanks_alone : (field : List ℕ) → (after_blanks field ≡ []) ↔ All (λ b. b ≡ 32) field
blanks_alone field = grind (arith, nat_tests, blanks_by_recursion, All-from_recursion, recursion_from_All)

-- a text with a first byte isn't empty
pub not_empty : (b : ℕ) (bytes : List ℕ) → (length (b ∷ bytes) == 0) ≡ false
not_empty b bytes = grind (arith, nat_tests)

-- a field is blank if it has no text, whatever is read
blank_text : (read : List ℕ → Option ℤ) (text : List ℕ)
    → ((if length text == 0 then Blank else field_of (read text)) ≡ Blank) ↔ (text ≡ [])
blank_text read text = grind (arith, nat_tests, common_steps)

-- it has the number that its text is read as
number_text : (read : List ℕ → Option ℤ) (text : List ℕ) (v : ℤ) → read [] ≡ None
    → ((if length text == 0 then Blank else field_of (read text)) ≡ Number v)
    ↔ ((read text ≡ Some v) × FitsSigned w32 v)
number_text read text v none = grind (arith, nat_tests, common_steps)

-- a text that spells a number begins with no blank
no_blank_front : (negative : Bool) (whole part : List ℕ) → 1 ≤ length whole
    → list_all is_ascii_digit (whole ++ part) ≡ true
    → after_blanks (sign_text negative ++ whole ++ part_text part) ≡ sign_text negative ++ whole ++ part_text part
no_blank_front true whole part some digits = refl
no_blank_front false [] part some digits = absurd (omega arith)
no_blank_front false (b ∷ bytes) part some digits = grind (arith, nat_tests)

-- so no blank is taken off it
pub after_blanks-spells : (places : ℕ) (text : List ℕ) (v : ℤ) → Spells places text v → after_blanks text ≡ text
after_blanks-spells places text v s = grind (arith, nat_tests, no_blank_front)

-- blanks at the front are taken off
pub after_blanks-replicate : (n : ℕ) (text : List ℕ) → after_blanks (replicate n 32 ++ text) ≡ after_blanks text
after_blanks-replicate zero text = refl
after_blanks-replicate (suc n) text = after_blanks-replicate n text

-- a field has the number that its text spells
has_number : (places : ℕ) (field : List ℕ) (v : ℤ) → HasNumber places field v ↔ Spells places (after_blanks field) v
has_number places field v = (
  λ h. grind (arith, nat_tests, after_blanks-replicate, after_blanks-spells),
  λ s. let p = after_blanks-parts field in record { blanks = p.0; text = after_blanks field; parts = p.1; spells = s },
)

-- a decimal field is a number if it has it, and that is in range
pub scaled_field-number : (places : ℕ) (field : List ℕ) (v : ℤ)
    → (scaled_field places field ≡ Number v) ↔ (HasNumber places field v × FitsSigned w32 v)
scaled_field-number places field v =
    let read = number_text (signed_by (decimal_number places)) (after_blanks field) v refl in
    let has = has_number places field v in
    let to = spells-from_signed places (after_blanks field) v in
    let from = signed-from_spells places (after_blanks field) v in
    grind (arith, nat_tests)

-- and so is a whole field
pub int_field-number : (field : List ℕ) (v : ℤ)
    → (int_field field ≡ Number v) ↔ (HasNumber 0 field v × FitsSigned w32 v)
int_field-number field v = rw (← signed_by-zero (after_blanks field)) (scaled_field-number 0 field v)

-- a field is blank if it has blanks alone
pub field_by-blank : (read : List ℕ → Option ℤ) (field : List ℕ)
    → (field_by read field ≡ Blank) ↔ All (λ b. b ≡ 32) field
field_by-blank read field = grind (arith, nat_tests, blanks_alone, blank_text)

-- the same, of what reads as the definitions do
pub numbers_by : (places : ℕ) (field : List ℕ) (found : Field) → found ≡ scaled_field places field → (v : ℤ)
    → (found ≡ Number v) ↔ (HasNumber places field v × FitsSigned w32 v)
numbers_by places field found is v = rw is (scaled_field-number places field v)

-- the same of whole numbers
pub whole_numbers_by : (field : List ℕ) (found : Field) → found ≡ int_field field → (v : ℤ)
    → (found ≡ Number v) ↔ (HasNumber 0 field v × FitsSigned w32 v)
whole_numbers_by field found is v = rw is (int_field-number field v)

-- the same of blanks
pub blank_by : (read : List ℕ → Option ℤ) (field : List ℕ) (found : Field) → found ≡ field_by read field
    → (found ≡ Blank) ↔ All (λ b. b ≡ 32) field
blank_by read field found is = rw is (field_by-blank read field)

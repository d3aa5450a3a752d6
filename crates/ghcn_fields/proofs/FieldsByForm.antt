-- A number field is what its columns say side by side.
use Rattle.std.proofs.Common.{◌≡◌, ℕ, ◌+◌, ◌*◌, Bool, true, false, List, [], ◌∷◌, Some, None, refl, sym, ap}
use Rattle.std.proofs.Common.{subst, ◌∙◌, inl, inr, arith}
use Rattle.std.specs.Prelude.{◌==◌, ◌&&◌, if◌then◌else◌}
use Rattle.std.specs.Char.{is_ascii_digit, digit_value}
use Rattle.std.specs.Option.{option_map}
use Rattle.std.specs.List.{list_all, list_any}
use Rattle.std.specs.Str.Parse.{digits_value, digits_value_after}
use Rattle.std.proofs.lemmas.Bool.{cases_Bool, cases_eq, ne_eqb}
use Rattle.std.proofs.lemmas.Bool.Decides.{nat_tests}
use Rattle.ghcn_fields.specs.declared.field.Field.{Field}
use Rattle.ghcn_fields.specs.declared.field.Field.TheVariants.{Blank, Bad}
use Rattle.ghcn_fields.specs.Meaning.Bytes.{is_blank}
use Rattle.ghcn_fields.specs.Meaning.Numbers.{with_sign}
use Rattle.ghcn_fields.specs.Numbers.{natural, signed_by, field_of, int_field}
use Rattle.ghcn_fields.specs.FieldForms.{is_minus, is_number_form, digits_behind}
use Rattle.ghcn_fields.proofs.FieldNumbers.{not_empty}

-- a field, by its form
abbrev pub field_by_form : Bool → Bool → ℕ → Bool → Field
field_by_form form negative magnitude blank =
    if form then field_of (Some (with_sign negative magnitude)) else (if blank then Blank else Bad)

-- the field of some columns, by their form
abbrev pub by_form : List ℕ → Field
by_form bytes =
    field_by_form (is_number_form bytes) (list_any is_minus bytes) (digits_behind 0 bytes) (is_blank bytes)

-- after a digit, or a minus, only digits come
pub digits_from : (c : ℕ) (bytes : List ℕ) → (is_ascii_digit c ≡ true
    → is_number_form (c ∷ bytes) ≡ list_all is_ascii_digit (c ∷ bytes))
    → (is_ascii_digit c && is_number_form (c ∷ bytes)) ≡ list_all is_ascii_digit (c ∷ bytes)
digits_from c bytes on = grind arith

-- digits to the end
pub digits_on : (b : ℕ) (bytes : List ℕ) → is_ascii_digit b ≡ true
    → is_number_form (b ∷ bytes) ≡ list_all is_ascii_digit (b ∷ bytes)
digits_on b [] d = rw d refl
digits_on b (c ∷ bytes) d = let more = digits_on c bytes in grind (arith, nat_tests)

-- digits alone write their number
pub digits_behind-digits : (n : ℕ) (bytes : List ℕ) → list_all is_ascii_digit bytes ≡ true
    → digits_behind n bytes ≡ digits_value_after 10 n bytes
digits_behind-digits n [] all = refl
digits_behind-digits n (b ∷ bytes) all = grind (arith, nat_tests, digits_behind-digits (n * 10 + digit_value b) bytes)

-- digits have no minus among them
pub digits_no_minus : (bytes : List ℕ) → list_all is_ascii_digit bytes ≡ true → list_any is_minus bytes ≡ false
digits_no_minus [] all = refl
digits_no_minus (b ∷ bytes) all = grind (arith, nat_tests, digits_no_minus bytes)

-- digits alone, or a text that isn't a number
by_digits : (negative : Bool) (digits : Bool) (n m : ℕ) → (digits ≡ true → n ≡ m)
    → field_of (option_map (with_sign negative) (if digits then Some n else None))
    ≡ field_by_form digits negative m false
by_digits negative digits n m same = grind arith

-- a blank in front changes nothing
blank_first : (bytes : List ℕ) → int_field bytes ≡ by_form bytes → int_field (32 ∷ bytes) ≡ by_form (32 ∷ bytes)
blank_first bytes rest = grind arith

-- a minus in front takes digits after it
minus_first : (bytes : List ℕ) → int_field (45 ∷ bytes) ≡ by_form (45 ∷ bytes)
minus_first [] = refl
minus_first (c ∷ bytes) =
    ap (λ (e : Bool). if e then Blank else field_of (signed_by natural (45 ∷ c ∷ bytes))) (not_empty 45 (c ∷ bytes))
    ∙ by_digits true (list_all is_ascii_digit (c ∷ bytes)) (digits_value 10 (c ∷ bytes))
    (digits_behind 0 (c ∷ bytes)) (λ all. sym (digits_behind-digits 0 (c ∷ bytes) all))
    ∙ ap (λ (form : Bool). field_by_form form true (digits_behind 0 (c ∷ bytes)) false)
    (sym (digits_from c bytes (λ e. digits_on c bytes e)))

-- a digit in front takes digits after it
digit_first : (b : ℕ) (bytes : List ℕ) → (b == 32) ≡ false → (b == 45) ≡ false → is_ascii_digit b ≡ true
    → int_field (b ∷ bytes) ≡ by_form (b ∷ bytes)
digit_first b bytes blank minus digit =
    let none = digits_no_minus (b ∷ bytes) in
    let number = digits_behind-digits 0 (b ∷ bytes) in
    rw (digits_on b bytes digit) (grind (arith, nat_tests))

-- any other byte in front makes a bad field
other_first : (b : ℕ) (bytes : List ℕ) → (b == 32) ≡ false → (b == 45) ≡ false → is_ascii_digit b ≡ false
    → int_field (b ∷ bytes) ≡ by_form (b ∷ bytes)
other_first b bytes blank minus other = grind (arith, nat_tests)

-- a field is what its columns say
pub int_field-form : (bytes : List ℕ) → int_field bytes ≡ by_form bytes
int_field-form [] = refl
int_field-form (b ∷ bytes) = elim (cases_eq b 32) [
  | inl blank ↦ subst (λ (x : ℕ). int_field (x ∷ bytes) ≡ by_form (x ∷ bytes)) (sym blank)
      (blank_first bytes (int_field-form bytes))
  | inr other ↦ elim (cases_eq b 45) [
    | inl minus ↦ subst (λ (x : ℕ). int_field (x ∷ bytes) ≡ by_form (x ∷ bytes)) (sym minus) (minus_first bytes)
    | inr plain ↦ elim (cases_Bool (is_ascii_digit b)) [
      | inl digit ↦ digit_first b bytes (ne_eqb b 32 other) (ne_eqb b 45 plain) digit
      | inr none ↦ other_first b bytes (ne_eqb b 32 other) (ne_eqb b 45 plain) none
    ]
  ]
]

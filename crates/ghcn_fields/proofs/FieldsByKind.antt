-- A field of five columns, by the kinds of its bytes.
use Rattle.std.proofs.Common.{◌≡◌, ℕ, ◌+◌, ◌*◌, ◌/◌, ◌%◌, ◌<◌, ◌≤◌, Bool, true, false, List, [], ◌∷◌, Some, length}
use Rattle.std.proofs.Common.{get_or, sym, ◌∙◌, arith, ℤ}
use Rattle.std.specs.Prelude.{◌&&◌, ◌||◌, ◌==◌, if◌then◌else◌}
use Rattle.std.specs.Char.{is_ascii_digit}
use Rattle.std.specs.List.{list_any}
use Rattle.std.proofs.lemmas.Bool.Decides.{nat_tests}
use Rattle.std.proofs.lemmas.Simd.{pick_l_whole}
use Rattle.ghcn_fields.specs.declared.field.Field.{Field}
use Rattle.ghcn_fields.specs.declared.field.Field.TheVariants.{Blank, Bad}
use Rattle.ghcn_fields.specs.declared.value.Form.{Form}
use Rattle.ghcn_fields.specs.declared.value.Form.TheVariants.{Blanks, Plain, Negative, Malformed}
use Rattle.ghcn_fields.specs.Meaning.Bytes.{is_blank}
use Rattle.ghcn_fields.specs.Meaning.Numbers.{with_sign}
use Rattle.ghcn_fields.specs.Numbers.{field_of, int_field, is_bad, number_or}
use Rattle.ghcn_fields.specs.FieldForms.{digit_of, is_minus, is_number_form, kind_of}
use Rattle.ghcn_fields.specs.FieldForms.{form_of_five, form_of_kinds, IsSum, is_malformed, number_by}
use Rattle.ghcn_fields.proofs.FieldsByForm.{field_by_form, int_field-form}

-- a digit is at most 9
pub digit-small : (b : ℕ) → digit_of b ≤ 9
digit-small b = grind (arith, nat_tests)

-- a kind is at most 3
pub kind-small : (b : ℕ) → kind_of b ≤ 3
kind-small b = grind (arith, nat_tests)

-- the kind of a digit
kind-digit : (b : ℕ) → (kind_of b == 2) ≡ is_ascii_digit b
kind-digit b = grind (arith, nat_tests)

-- the kind of a minus
kind-minus : (b : ℕ) → (kind_of b == 1) ≡ (b == 45)
kind-minus b = grind (arith, nat_tests)

-- the kind of a blank
kind-blank : (b : ℕ) → (kind_of b == 0) ≡ (b == 32)
kind-blank b = grind (arith, nat_tests)

-- what a form is, by its parts
abbrev pub form : Bool → Bool → Bool → Form
form number negative blank =
    if number then (if negative then Negative else Plain) else (if blank then Blanks else Malformed)

-- or nothing
or_false : (b : Bool) → (b || false) ≡ b
or_false b = grind arith

-- and all
and_true : (b : Bool) → (b && true) ≡ b
and_true b = grind arith

-- five kinds say what their field is
form-five : (a b c d e : ℕ) → form_of_five (kind_of a) (kind_of b) (kind_of c) (kind_of d) (kind_of e)
    ≡ form (is_number_form (a ∷ b ∷ c ∷ d ∷ e ∷ [])) (list_any is_minus (a ∷ b ∷ c ∷ d ∷ e ∷ []))
    (is_blank (a ∷ b ∷ c ∷ d ∷ e ∷ []))
form-five a b c d e = grind (arith, nat_tests, kind-digit, kind-minus, kind-blank, or_false, and_true)

-- four kinds to a column
unpacked : (a b c d e : ℕ) → a ≤ 3 → b ≤ 3 → c ≤ 3 → d ≤ 3 → e ≤ 3
    → form_of_kinds (a + 4 * b + 16 * c + 64 * d + 256 * e) ≡ form_of_five a b c d e
unpacked a b c d e p q r s t =
    let n : ℕ = a + 4 * b + 16 * c + 64 * d + 256 * e in
    let one : n % 4 ≡ a = omega arith in
    let two : n / 4 % 4 ≡ b = omega arith in
    let three : n / 16 % 4 ≡ c = omega arith in
    let four : n / 64 % 4 ≡ d = omega arith in
    let five : n / 256 ≡ e = omega arith in
    cc

-- what five bytes add says the magnitude and the kinds of their field
pub sum_of : (a b c d e v w x y z : ℕ) → v ≡ 10000 * digit_of a + 131072 * kind_of a
    → w ≡ 1000 * digit_of b + 524288 * kind_of b → x ≡ 100 * digit_of c + 2097152 * kind_of c
    → y ≡ 10 * digit_of d + 8388608 * kind_of d → z ≡ 1 * digit_of e + 33554432 * kind_of e
    → IsSum (v + w + x + y + z) (a ∷ b ∷ c ∷ d ∷ e ∷ [])
sum_of a b c d e v w x y z f g h i j =
    let kinds : ℕ = kind_of a + 4 * kind_of b + 16 * kind_of c + 64 * kind_of d + 256 * kind_of e in
    let quotient : (v + w + x + y + z) / 131072 ≡ kinds = omega (arith, digit-small) in
    record {
      magnitude = omega (arith, digit-small);
      kinds = omega (arith, quotient, kind-small);
      form = rw quotient (unpacked (kind_of a) (kind_of b) (kind_of c) (kind_of d) (kind_of e) (kind-small a)
          (kind-small b) (kind-small c) (kind-small d) (kind-small e) ∙ form-five a b c d e);
    }

-- a list of five numbers
pub five_are : (xs : List ℕ) → length xs ≡ 5
    → xs ≡ get_or xs 0 0 ∷ get_or xs 1 0 ∷ get_or xs 2 0 ∷ get_or xs 3 0 ∷ get_or xs 4 0 ∷ []
five_are xs many = sym (pick_l_whole 0 xs 5 many)

-- the field of a form and a magnitude
abbrev pub field_of_form : Form → ℕ → Field
field_of_form Blanks n = Blank
field_of_form Plain n = field_of (Some (with_sign false n))
field_of_form Negative n = field_of (Some (with_sign true n))
field_of_form Malformed n = Bad

-- how a form is read
form-field : (number negative blank : Bool) (n : ℕ)
    → field_of_form (form number negative blank) n ≡ field_by_form number negative n blank
form-field number negative blank n = grind arith

-- the form and the magnitude of five bytes are read as their field
pub form_field : (s : ℕ) (f : Form) (bytes : List ℕ) → IsSum s bytes → f ≡ form_of_kinds (s / 131072)
    → field_of_form f (s % 131072) ≡ int_field bytes
form_field s f bytes said is = grind (arith, nat_tests, form-field, field_by_form, int_field-form)

-- also of the form that was found
pub field-found : (s : ℕ) {f : Form} (found : Form) (bytes : List ℕ) → IsSum s bytes → f ≡ form_of_kinds (s / 131072)
    → f ≡ found → field_of_form found (s % 131072) ≡ int_field bytes
field-found s found bytes said is here = grind (arith, nat_tests, form_field)

-- what a form and a magnitude below that are as a field
pub form-cases : (f : Form) (n : ℕ) (other : ℤ) → n < 131072
    → (is_malformed f ≡ is_bad (field_of_form f n)) × (number_by f n other ≡ number_or other (field_of_form f n))
form-cases f n other small = grind arith

-- Fields with a point, and as many digits after it as there are places.
use Rattle.std.proofs.Common.{◌≡◌, ℕ, suc, ◌+◌, ◌-◌, ◌*◌, ◌/◌, ◌%◌, ◌^◌, ◌<◌, ◌≤◌, Bool, true, false, List, [], ◌∷◌, ◌++◌}
use Rattle.std.proofs.Common.{length, get_or, Some, IfSome, refl, sym, ap, subst, ◌∙◌, inl, inr, arith, append_assoc}
use Rattle.std.specs.Prelude.{◌==◌, ◌&&◌, ◌||◌, replicate, if◌then◌else◌}
use Rattle.std.specs.Char.{is_ascii_digit}
use Rattle.std.specs.List.{list_all, list_any}
use Rattle.std.specs.Str.Parse.{digits_value}
use Rattle.std.proofs.lemmas.Bool.{cases_eq, ne_eqb}
use Rattle.std.proofs.lemmas.Bool.Decides.{nat_tests}
use Rattle.std.proofs.lemmas.List.Folds.{list_all-append}
use Rattle.std.proofs.lemmas.Simd.{pick_l_whole}
use Rattle.ghcn_fields.specs.declared.field.Field.TheVariants.{Blank, Number}
use Rattle.ghcn_fields.specs.declared.value.Form.{Form}
use Rattle.ghcn_fields.specs.declared.value.Form.TheVariants.{Blanks, Plain, Negative, Malformed}
use Rattle.ghcn_fields.specs.Meaning.Numbers.{with_sign}
use Rattle.ghcn_fields.specs.Numbers.{after_blanks, decimal_number, field_of, scaled_field, signed_by}
use Rattle.ghcn_fields.specs.Meaning.Fields.{part_text, sign_text, Spells}
use Rattle.ghcn_fields.specs.FieldForms.{is_number_form, is_minus, digits_behind, form_of_field, is_plain}
use Rattle.ghcn_fields.specs.FieldForms.{IsSum, field_of_size, form_of_kinds}
use Rattle.ghcn_fields.proofs.DecimalTexts.{signed-from_spells}
use Rattle.ghcn_fields.proofs.Digits.{digit_is}
use Rattle.ghcn_fields.proofs.FieldNumbers.{after_blanks-spells, after_blanks-replicate, not_empty}
use Rattle.ghcn_fields.proofs.FieldsByForm.{digits_on, digits_behind-digits, digits_no_minus}

-- the parts of some columns that are a number: blanks, an optional minus, and digits
record Parts (front : List ℕ) : Type 0 where
  blanks : ℕ
  negative : Bool
  whole : List ℕ
  parts : front ≡ replicate blanks 32 ++ (sign_text negative ++ whole)
  some_digit : 1 ≤ length whole
  digits : list_all is_ascii_digit whole ≡ true
  minus : list_any is_minus front ≡ negative
  value : digits_behind 0 front ≡ digits_value 10 whole

-- digits alone
digits_alone : (b : ℕ) (bytes : List ℕ) → is_ascii_digit b ≡ true → is_number_form (b ∷ bytes) ≡ true → Parts (b ∷ bytes)
digits_alone b bytes digit form =
    let all : list_all is_ascii_digit (b ∷ bytes) ≡ true = sym (digits_on b bytes digit) ∙ form in
    record {
      blanks = 0;
      negative = false;
      whole = b ∷ bytes;
      parts = refl;
      some_digit = omega arith;
      digits = all;
      minus = digits_no_minus (b ∷ bytes) all;
      value = digits_behind-digits 0 (b ∷ bytes) all;
    }

-- a minus, and then digits
after_minus : (c : ℕ) (bytes : List ℕ) → is_ascii_digit c ≡ true → is_number_form (c ∷ bytes) ≡ true
    → Parts (45 ∷ c ∷ bytes)
after_minus c bytes digit form =
    let all : list_all is_ascii_digit (c ∷ bytes) ≡ true = sym (digits_on c bytes digit) ∙ form in
    record {
      blanks = 0;
      negative = true;
      whole = c ∷ bytes;
      parts = refl;
      some_digit = omega arith;
      digits = all;
      minus = refl;
      value = digits_behind-digits 0 (c ∷ bytes) all;
    }

-- a blank, and then a number
after_blank : (bytes : List ℕ) → Parts bytes → Parts (32 ∷ bytes)
after_blank bytes p = record {
  blanks = suc p.blanks;
  negative = p.negative;
  whole = p.whole;
  parts = ap (λ (xs : List ℕ). 32 ∷ xs) p.parts;
  some_digit = p.some_digit;
  digits = p.digits;
  minus = p.minus;
  value = p.value;
}

-- what may come before a digit or a blank, and isn't a blank, comes before a digit
before_digit : (blank front digit rest : Bool) → blank ≡ false → ((blank || (front && digit)) && rest) ≡ true
    → (front ≡ true) × (digit ≡ true) × (rest ≡ true)
before_digit blank front digit rest other e = grind arith

-- columns that are a number have these parts
parts_of : (front : List ℕ) → is_number_form front ≡ true → Parts front
parts_of [] form = absurd cc
parts_of (b ∷ []) form = digits_alone b [] form form
parts_of (b ∷ c ∷ bytes) form = elim (cases_eq b 32) [
  | inl blank ↦
      let rest : is_number_form (c ∷ bytes) ≡ true = rw blank at form in
      subst (λ (x : ℕ). Parts (x ∷ c ∷ bytes)) (sym blank) (after_blank (c ∷ bytes) (parts_of (c ∷ bytes) rest))
  | inr other ↦
      let known = before_digit (b == 32) (is_ascii_digit b || (b == 45)) (is_ascii_digit c) (is_number_form (c ∷ bytes))
      (ne_eqb b 32 other) form in
      elim (cases_eq b 45) [
        | inl minus ↦ subst (λ (x : ℕ). Parts (x ∷ c ∷ bytes)) (sym minus) (after_minus c bytes known.1 known.2)
        | inr plain ↦ digits_alone b (c ∷ bytes)
            (let no = ne_eqb b 45 plain in let front = known.0 in grind (arith, nat_tests)) form
      ]
]

-- a text with a point spells the number of its digits
spelled : (places : ℕ) (front part : List ℕ) (p : Parts front) → list_all is_ascii_digit part ≡ true
    → length part ≡ places → 1 ≤ places
    → Spells places (sign_text p.negative ++ p.whole ++ part_text part)
    (with_sign p.negative (digits_behind 0 front * 10 ^ places + digits_value 10 part))
spelled places front part p digits many some = record {
  negative = p.negative;
  whole = p.whole;
  part = part;
  parts = refl;
  some_digit = p.some_digit;
  digits = list_all-append is_ascii_digit p.whole part ∙ rw (p.digits, digits) refl;
  few = omega arith;
  value =
      let none : places - length part ≡ 0 = omega arith in
      let units : digits_value 10 part * 10 ^ (places - length part) ≡ digits_value 10 part =
      ap (λ (n : ℕ). digits_value 10 part * 10 ^ n) none ∙ omega arith in
      ap (with_sign p.negative) (
      ap (λ (n : ℕ). n * 10 ^ places + digits_value 10 part) p.value
      ∙ ap (λ (n : ℕ). digits_value 10 p.whole * 10 ^ places + n) (sym units));
}

-- digits after a point are written with it
with_point : (part : List ℕ) → 1 ≤ length part → part_text part ≡ 46 ∷ part
with_point part some = grind arith

-- a field of columns that are a number, a point, and digits for all places has the number of the digits
pub pointed : (places : ℕ) (front part : List ℕ) → is_number_form front ≡ true → list_all is_ascii_digit part ≡ true
    → length part ≡ places → 1 ≤ places
    → scaled_field places (front ++ 46 ∷ part)
    ≡ field_of (Some (with_sign (list_any is_minus front) (digits_behind 0 front * 10 ^ places + digits_value 10 part)))
pointed places front part form digits many some =
    let p = parts_of front form in
    let text : List ℕ = sign_text p.negative ++ p.whole ++ part_text part in
    let v = with_sign p.negative (digits_behind 0 front * 10 ^ places + digits_value 10 part) in
    let spells = spelled places front part p digits many some in
    let whole : front ++ 46 ∷ part ≡ replicate p.blanks 32 ++ text =
    ap (λ (xs : List ℕ). front ++ xs) (sym (with_point part (omega arith)))
    ∙ ap (λ (xs : List ℕ). xs ++ part_text part) p.parts
    ∙ append_assoc (replicate p.blanks 32) (sign_text p.negative ++ p.whole) (part_text part) in
    let shown : after_blanks (front ++ 46 ∷ part) ≡ text =
    ap after_blanks whole ∙ after_blanks-replicate p.blanks text ∙ after_blanks-spells places text v spells in
    let long : (length text == 0) ≡ false = not_blank p.negative p.whole (part_text part) p.some_digit in
    ap (λ (t : List ℕ). if length t == 0 then Blank else field_of (signed_by (decimal_number places) t)) shown
    ∙ ap (λ (b : Bool). if b then Blank else field_of (signed_by (decimal_number places) text)) long
    ∙ ap field_of (signed-from_spells places text v spells)
    ∙ ap (λ (b : Bool). field_of (Some (with_sign b (digits_behind 0 front * 10 ^ places + digits_value 10 part))))
    (sym p.minus)
  where
    not_blank : (negative : Bool) (whole rest : List ℕ) → 1 ≤ length whole
        → (length (sign_text negative ++ whole ++ rest) == 0) ≡ false
    not_blank true whole rest some = not_empty 45 (whole ++ rest)
    not_blank false [] rest some = absurd (omega arith)
    not_blank false (b ∷ bytes) rest some = not_empty b (bytes ++ rest)

-- the form of numbers without a minus
plain_is : (f : Form) → is_plain f ≡ true → f ≡ Plain
plain_is f e = grind arith

-- what a form of numbers says of its columns
form_plain : (bytes : List ℕ) → form_of_field bytes ≡ Plain
    → (is_number_form bytes ≡ true) × (list_any is_minus bytes ≡ false)
form_plain bytes e = grind arith

-- and one of numbers with a minus
form_negative : (bytes : List ℕ) → form_of_field bytes ≡ Negative
    → (is_number_form bytes ≡ true) × (list_any is_minus bytes ≡ true)
form_negative bytes e = grind arith

-- a number of 31 bits, with a sign, is the field's
in_range : (negative : Bool) (n : ℕ) → n < 2 ^ 31
    → field_of (Some (with_sign negative n)) ≡ Number (with_sign negative n)
in_range negative n small = grind (arith, nat_tests)

-- the field of a form and a size is that of the columns
pub sized : (places n : ℕ) (front part : List ℕ) (f : Form) → f ≡ form_of_field front
    → list_all is_ascii_digit part ≡ true → length part ≡ places → 1 ≤ places
    → n ≡ digits_behind 0 front * 10 ^ places + digits_value 10 part → n < 2 ^ 31
    → IfSome (field_of_size f n) (λ field. field ≡ scaled_field places (front ++ 46 ∷ part))
sized places n front part Blanks is digits many some value small = tt
sized places n front part Malformed is digits many some value small = tt
sized places n front part Plain is digits many some value small =
    let form = form_plain front (sym is) in
    sym (pointed places front part form.0 digits many some
    ∙ ap (λ (b : Bool). field_of (Some (with_sign b (digits_behind 0 front * 10 ^ places + digits_value 10 part)))) form.1
    ∙ ap (λ (m : ℕ). field_of (Some (with_sign false m))) (sym value)
    ∙ in_range false n small)
sized places n front part Negative is digits many some value small =
    let form = form_negative front (sym is) in
    sym (pointed places front part form.0 digits many some
    ∙ ap (λ (b : Bool). field_of (Some (with_sign b (digits_behind 0 front * 10 ^ places + digits_value 10 part)))) form.1
    ∙ ap (λ (m : ℕ). field_of (Some (with_sign true m))) (sym value)
    ∙ in_range true n small)

-- after a digit a number has digits alone
digits_after : (bytes : List ℕ) → is_number_form (48 ∷ bytes) ≡ true → list_all is_ascii_digit bytes ≡ true
digits_after bytes form = sym (digits_on 48 bytes refl) ∙ form

-- six columns of which the fifth is a point and the last a digit
pub tenths : (a b c d point e s size : ℕ) → point ≡ 46 → is_ascii_digit e ≡ true
    → IsSum s (32 ∷ a ∷ b ∷ c ∷ d ∷ []) → size ≡ s % 131072 * 10 + (e - 48) → size < 2 ^ 31
    → IfSome (field_of_size (form_of_kinds (s / 131072)) size)
    (λ field. field ≡ scaled_field 1 (a ∷ b ∷ c ∷ d ∷ point ∷ e ∷ []))
tenths a b c d point e s size at digit sum is small =
    let value : size ≡ digits_behind 0 (a ∷ b ∷ c ∷ d ∷ []) * 10 ^ 1 + digits_value 10 (e ∷ []) =
    omega (arith, sum.magnitude, digit_is e digit, is) in
    let found = sized 1 size (a ∷ b ∷ c ∷ d ∷ []) (e ∷ []) (form_of_kinds (s / 131072)) sum.form
    (ap (λ (t : Bool). t && true) digit) refl (omega arith) value small in
    subst (λ (x : ℕ). IfSome (field_of_size (form_of_kinds (s / 131072)) size)
    (λ field. field ≡ scaled_field 1 (a ∷ b ∷ c ∷ d ∷ x ∷ e ∷ []))) (sym at) found

-- nine columns of which the fifth is a point, and the last four digits
pub four_places : (a b c d point e f g h s t size : ℕ) → point ≡ 46
    → IsSum t (48 ∷ e ∷ f ∷ g ∷ h ∷ []) → is_plain (form_of_kinds (t / 131072)) ≡ true
    → IsSum s (32 ∷ a ∷ b ∷ c ∷ d ∷ []) → size ≡ s % 131072 * 10_000 + t % 131072 → size < 2 ^ 31
    → IfSome (field_of_size (form_of_kinds (s / 131072)) size)
    (λ field. field ≡ scaled_field 4 (a ∷ b ∷ c ∷ d ∷ point ∷ e ∷ f ∷ g ∷ h ∷ []))
four_places a b c d point e f g h s t size at back plain sum is small =
    let part : List ℕ = e ∷ f ∷ g ∷ h ∷ [] in
    let digits : list_all is_ascii_digit part ≡ true = digits_after part
    (form_plain (48 ∷ part) (sym back.form ∙ plain_is (form_of_kinds (t / 131072)) plain)).0 in
    let number : digits_behind 0 part ≡ digits_value 10 part = digits_behind-digits 0 part digits in
    let value : size ≡ digits_behind 0 (a ∷ b ∷ c ∷ d ∷ []) * 10 ^ 4 + digits_value 10 part =
    is ∙ ap (λ (n : ℕ). n * 10_000 + t % 131072) sum.magnitude
    ∙ ap (λ (n : ℕ). digits_behind 0 (a ∷ b ∷ c ∷ d ∷ []) * 10_000 + n) (back.magnitude ∙ number) in
    let found = sized 4 size (a ∷ b ∷ c ∷ d ∷ []) part (form_of_kinds (s / 131072)) sum.form digits refl (omega arith)
    value small in
    subst (λ (x : ℕ). IfSome (field_of_size (form_of_kinds (s / 131072)) size)
    (λ field. field ≡ scaled_field 4 (a ∷ b ∷ c ∷ d ∷ x ∷ e ∷ f ∷ g ∷ h ∷ []))) (sym at) found

-- six columns, one by one
pub six_are : (xs : List ℕ) → length xs ≡ 6
    → xs ≡ get_or xs 0 0 ∷ get_or xs 1 0 ∷ get_or xs 2 0 ∷ get_or xs 3 0 ∷ get_or xs 4 0 ∷ get_or xs 5 0 ∷ []
six_are xs many = sym (pick_l_whole 0 xs 6 many)

-- and nine
pub nine_are : (xs : List ℕ) → length xs ≡ 9
    → xs ≡ get_or xs 0 0 ∷ get_or xs 1 0 ∷ get_or xs 2 0 ∷ get_or xs 3 0 ∷ get_or xs 4 0 ∷ get_or xs 5 0
    ∷ get_or xs 6 0 ∷ get_or xs 7 0 ∷ get_or xs 8 0 ∷ []
nine_are xs many = sym (pick_l_whole 0 xs 9 many)

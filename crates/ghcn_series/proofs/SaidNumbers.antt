-- A field that isn't bad is read as the number that it has, and a value that isn't missing is a number other than -9999.
use Rattle.ghcn_series.proofs.Cited.{◌≡◌, ℕ, Bool, true, false, cond, List, [], ◌∷◌, length, Option, None, Some, sym}
use Rattle.ghcn_series.proofs.Cited.{ap, ap₂, ◌∙◌, subst, arith, ℤ, pos, ◌≢◌, ◌↔◌, ◌==◌, neg_ℤ, unsigned_abs}
use Rattle.ghcn_series.proofs.Cited.{Decides-int_eq, ints, Field, Number, int_field, is_bad, scaled_field-number}
use Rattle.ghcn_series.proofs.Cited.{is_number_within, number_of, unless_missing}
use Rattle.ghcn_fields.specs.declared.field.Field.TheVariants.{Blank, Bad}
use Rattle.ghcn_fields.specs.Meaning.Fields.{HasNumber}
use Rattle.ghcn_fields.specs.Numbers.{after_blanks, decimal_number, field_of, is_i32, scaled_field, signed_by}
use Rattle.ghcn_fields.proofs.DecimalTexts.{signed-from_spells, signed_by-zero}
use Rattle.ghcn_fields.proofs.FieldNumbers.{after_blanks-replicate, after_blanks-spells, not_empty}

-- ---- the number of a field

-- a text that is read as a number isn't empty
some_text : (places : ℕ) (text : List ℕ) (v : ℤ) → signed_by (decimal_number places) text ≡ Some v
    → (length text == 0) ≡ false
some_text places [] v some = absurd cc
some_text places (b ∷ bytes) v some = not_empty b bytes

-- what isn't bad is the number
the_number : (v : ℤ) (fits : Bool) → is_bad (cond fits (Number v) Bad) ≡ false → cond fits (Number v) Bad ≡ Number v
the_number v fits good = grind arith

-- a decimal field that isn't bad is read as the number that it has
pub scaled_field-has : (places : ℕ) (field : List ℕ) (v : ℤ) → HasNumber places field v
    → is_bad (scaled_field places field) ≡ false → scaled_field places field ≡ Number v
scaled_field-has places field v has good =
    let some : signed_by (decimal_number places) (after_blanks field) ≡ Some v =
    ap (signed_by (decimal_number places)) (ap after_blanks has.parts ∙ after_blanks-replicate has.blanks has.text
    ∙ after_blanks-spells places has.text v has.spells) ∙ signed-from_spells places has.text v has.spells in
    let whole : scaled_field places field ≡ cond (is_i32 v) (Number v) Bad =
    ap₂ (λ (b : Bool) (o : Option ℤ). cond b Blank (field_of o)) (some_text places (after_blanks field) v some) some in
    whole ∙ the_number v (is_i32 v) (sym (ap is_bad whole) ∙ good)

-- a field of a whole number is read as a decimal one without places
int_is_scaled : (field : List ℕ) → int_field field ≡ scaled_field 0 field
int_is_scaled field = ap (λ (o : Option ℤ). cond (length (after_blanks field) == 0) Blank (field_of o))
    (sym (signed_by-zero (after_blanks field)))

-- so it is read as the number that it has, if it isn't bad
pub int_field-has : (field : List ℕ) (v : ℤ) → HasNumber 0 field v → is_bad (int_field field) ≡ false
    → int_field field ≡ Number v
int_field-has field v has good =
    int_is_scaled field ∙ scaled_field-has 0 field v has (sym (ap is_bad (int_is_scaled field)) ∙ good)

-- a number within limits is that of its field
pub within-is : (low high : ℤ) (field : Field) → is_number_within low high field ≡ true
    → field ≡ Number (number_of field)
within-is low high field e = grind arith

-- and if it is from 1 on, it has no sign
pub positive-is : (limit : ℕ) (field : Field) → is_number_within (pos 1) (pos limit) field ≡ true
    → field ≡ Number (pos (unsigned_abs (number_of field)))
positive-is limit field e = grind arith

-- ---- a value that isn't missing

-- a value that there is unless a test holds
pub unless_so : {X : Type 0} (b : Bool) (x y : X) → cond b None (Some x) ≡ Some y → (b ≡ false) × (x ≡ y)
unless_so b x y e = grind arith

-- two values that are the same if there is one are the same
pub same_option : {X : Type 0} (o p : Option X) → ((v : X) → o ≡ Some v → p ≡ Some v)
    → ((v : X) → p ≡ Some v → o ≡ Some v) → o ≡ p
same_option o p to from = grind arith

-- a value that isn't missing is a number other than -9999, and such a number isn't missing
there-is : (field : Field) (v : ℤ) → (unless_missing field ≡ Some v) ↔ ((field ≡ Number v) × (v ≢ neg_ℤ (pos 9999)))
there-is field v = (
  λ e. grind (arith, ints, Decides-int_eq v (neg_ℤ (pos 9999))),
  λ h. grind (arith, ints, Decides-int_eq v (neg_ℤ (pos 9999))),
)

-- a decimal field that isn't bad has a value that isn't missing if and only if it has a number other than -9999
pub scaled-value : (places : ℕ) (field : List ℕ) (v : ℤ) → is_bad (scaled_field places field) ≡ false
    → (unless_missing (scaled_field places field) ≡ Some v) ↔ (HasNumber places field v × (v ≢ neg_ℤ (pos 9999)))
scaled-value places field v good = (
  λ e. let there = (there-is (scaled_field places field) v).0 e in
      (((scaled_field-number places field v).0 there.0).0, there.1),
  λ h. (there-is (scaled_field places field) v).1 (scaled_field-has places field v h.0 good, h.1),
)

-- so it is with a field of a whole number
pub int-value : (field : List ℕ) (v : ℤ) → is_bad (int_field field) ≡ false
    → (unless_missing (int_field field) ≡ Some v) ↔ (HasNumber 0 field v × (v ≢ neg_ℤ (pos 9999)))
int-value field v = subst (λ (f : Field). is_bad f ≡ false → (unless_missing f ≡ Some v)
    ↔ (HasNumber 0 field v × (v ≢ neg_ℤ (pos 9999)))) (sym (int_is_scaled field)) (scaled-value 0 field v)

-- The ranges of what a line gives: five columns hold no number of more than five digits.
use Rattle.std.proofs.Common.{◌≡◌, ℕ, zero, ◌+◌, ◌-◌, ◌*◌, ◌^◌, ◌<◌, ◌≤◌, Bool, true, false, cond, List, [], ◌∷◌, ◌++◌}
use Rattle.std.proofs.Common.{length, take, drop, map, true≢false, Option, Some, None, refl, sym, ap, ◌∙◌, subst, arith}
use Rattle.std.proofs.Common.{rules, ℤ, pos, negsuc, ◌≤ℤ◌}
use Rattle.std.specs.Prelude.{◌&&◌, suc, replicate, neg_ℤ, unsigned_abs, nat_eq, nat_le, IfSome}
use Rattle.std.specs.List.{list_all}
use Rattle.std.specs.Option.{option_map, option_map_or}
use Rattle.std.specs.Ordering.{int_eq}
use Rattle.std.specs.Char.{is_ascii_digit}
use Rattle.std.specs.Str.Parse.{digits_value}
use Rattle.std.proofs.lemmas.Bool.{leb-true}
use Rattle.std.proofs.lemmas.Int.{ints}
use Rattle.std.proofs.lemmas.Str.Parse.{IsNumeralModel, numerals_by_value, digits_value_short}
use Rattle.ghcn_fields.specs.declared.field.Field.{Field}
use Rattle.ghcn_fields.specs.declared.field.Field.TheVariants.{Blank, Number, Bad}
use Rattle.ghcn_fields.specs.Meaning.Bytes.{is_blank}
use Rattle.ghcn_fields.specs.Faults.{first_failing}
use Rattle.ghcn_fields.specs.Meaning.Lines.{columns}
use Rattle.ghcn_fields.specs.Meaning.Numbers.{with_sign}
use Rattle.ghcn_fields.specs.Numbers.{after_blanks, natural, signed_by, field_of, int_field, is_i32}
use Rattle.ghcn_files.specs.declared.element.Element.{Element}
use Rattle.ghcn_files.specs.declared.fault.LineWhy.{LineWhy}
use Rattle.ghcn_files.specs.Ids.{is_id}
use Rattle.ghcn_files.specs.StationLines.{is_number_within, number_of, unless_missing}
use Rattle.ghcn_files.specs.Months.{is_readable, is_reading, reading, value_test, year_field, month_field}
use Rattle.ghcn_files.specs.Months.{days_of_group, month_why, month_of, IsMonth}
use Rattle.ghcn_files.proofs.Months.{why_by}

-- digits stand for the number that they write
by_value : IsNumeralModel (λ ds. list_all is_ascii_digit ds ≡ true) (digits_value 10)
by_value = numerals_by_value _ (search rules)

-- n digits write less than the n-th power of ten
small_if : (b : Bool) (ds : List ℕ) (k n : ℕ) → list_all is_ascii_digit ds ≡ b → length ds ≤ k
    → cond b (Some (digits_value 10 ds)) None ≡ Some n → n < 10 ^ k
small_if true ds k n all short e =
    let same : digits_value 10 ds ≡ n = cc in
    subst (λ (m : ℕ). m < 10 ^ k) same (digits_value_short by_value ds k all short)
small_if false ds k n all short e = absurd cc

-- k digits write a number below 10 ^ k
natural_small : (ds : List ℕ) (k n : ℕ) → length ds ≤ k → natural ds ≡ Some n → n < 10 ^ k
natural_small [] k n short e = absurd cc
natural_small (d ∷ ds) k n short e = small_if (list_all is_ascii_digit (d ∷ ds)) (d ∷ ds) k n refl short e

-- blanks are taken off, so nothing grows
after_blanks-short : (bytes : List ℕ) → length (after_blanks bytes) ≤ length bytes
after_blanks-short [] = omega arith
after_blanks-short (b ∷ bs) = short_if (nat_eq b 32) b bs (after_blanks-short bs)
  where
    short_if : (blank : Bool) (b : ℕ) (bs : List ℕ) → length (after_blanks bs) ≤ length bs
        → length (cond blank (after_blanks bs) (b ∷ bs)) ≤ length (b ∷ bs)
    short_if true b bs h = omega arith
    short_if false b bs h = omega arith

-- a number that isn't -9999, from -9999 to 99999, is readable
readable_if : (missing : Bool) (z : ℤ) → int_eq z (neg_ℤ (pos 9999)) ≡ missing → neg_ℤ (pos 9999) ≤ℤ z
    → z ≤ℤ pos 99_999 → option_map_or is_readable (cond missing None (Some z)) true ≡ true
readable_if true z e low high = refl
readable_if false z e low high = grind (arith, ints)

-- a field of a number in those bounds
abbrev IsSmall : Option ℤ → Type 0
IsSmall o = IfSome o (λ z. (neg_ℤ (pos 9999) ≤ℤ z) × (z ≤ℤ pos 99_999))

-- a small number is a value in its range
small_field : (o : Option ℤ) → IsSmall o → option_map_or is_readable (unless_missing (field_of o)) true ≡ true
small_field None h = refl
small_field (Some z) h = by_fit (is_i32 z)
  where
    by_fit : (fits : Bool) → option_map_or is_readable (unless_missing (cond fits (Number z) Bad)) true ≡ true
    by_fit true = readable_if (int_eq z (neg_ℤ (pos 9999))) z refl h.0 h.1
    by_fit false = refl

-- a minus and four digits
negative : (o : Option ℕ) → ((n : ℕ) → o ≡ Some n → n < 10 ^ 4) → IsSmall (option_map (with_sign true) o)
negative None h = tt
negative (Some n) h =
    let small : n < 10 ^ 4 = h n refl in
    (omega (arith, ints), omega (arith, ints))

-- five digits
unsigned : (o : Option ℕ) → ((n : ℕ) → o ≡ Some n → n < 10 ^ 5) → IsSmall (option_map (with_sign false) o)
unsigned None h = tt
unsigned (Some n) h =
    let small : n < 10 ^ 5 = h n refl in
    (omega (arith, ints), omega (arith, ints))

-- five bytes write a number from -9999 to 99999, if any
signed_small : (bytes : List ℕ) → length bytes ≤ 5 → IsSmall (signed_by natural bytes)
signed_small [] short = tt
signed_small (b ∷ bs) short = by_sign (nat_eq b 45)
  where
    by_sign : (minus : Bool) → IsSmall (cond minus (option_map (with_sign true) (natural bs))
        (option_map (with_sign false) (natural (b ∷ bs))))
    by_sign true = negative (natural bs) (λ n e. natural_small bs 4 n (omega arith) e)
    by_sign false = unsigned (natural (b ∷ bs)) (λ n e. natural_small (b ∷ bs) 5 n short e)

-- five columns hold a readable number, or none
field_small : (bytes : List ℕ) → length bytes ≤ 5
    → option_map_or is_readable (unless_missing (int_field bytes)) true ≡ true
field_small bytes short = by_blank (nat_eq (length (after_blanks bytes)) 0)
  where
    by_blank : (blank : Bool) → option_map_or is_readable
        (unless_missing (cond blank Blank (field_of (signed_by natural (after_blanks bytes))))) true ≡ true
    by_blank true = refl
    by_blank false = small_field (signed_by natural (after_blanks bytes))
        (signed_small (after_blanks bytes) (omega (arith, after_blanks-short bytes)))

-- a cut list is no longer than the cut
at_most : (k : ℕ) (xs : List ℕ) → length (take k xs) ≤ k
at_most zero xs = omega arith
at_most (suc k) [] = omega arith
at_most (suc k) (x ∷ xs) = omega (arith, at_most k xs)

-- what a line says of a day is readable
pub reading-right : (line : List ℕ) (j : ℕ) → is_reading (reading line j) ≡ true
reading-right line j =
    field_small (columns (14 + 8 * j) (18 + 8 * j) line)
    (omega (
      arith,
      at_most (suc (18 + 8 * j) - (14 + 8 * j))
          (drop (14 + 8 * j - 1) (line ++ replicate (18 + 8 * j) 32)),
    ))

-- what a line says of some days is in range
readings-right : (line : List ℕ) (js : List ℕ) → list_all is_reading (map (reading line) js) ≡ true
readings-right line [] = refl
readings-right line (j ∷ js) = ap (λ (b : Bool). b && list_all is_reading (map (reading line) js))
    (reading-right line j) ∙ readings-right line js

-- a number from 1 to a limit, without its sign
within : (limit : ℕ) (f : Field) → is_number_within (pos 1) (pos limit) f ≡ true
    → (1 ≤ unsigned_abs (number_of f)) × (unsigned_abs (number_of f) ≤ limit)
within limit Blank e = absurd (true≢false (sym e))
within limit Bad e = absurd (true≢false (sym e))
within limit (Number (pos n)) e = by_tests (nat_le 1 n) (nat_le n limit) refl refl e
  where
    by_tests : (low high : Bool) → nat_le 1 n ≡ low → nat_le n limit ≡ high → (low && high) ≡ true
        → (1 ≤ n) × (n ≤ limit)
    by_tests true true l h e = (leb-true 1 n l, leb-true n limit h)
    by_tests true false l h e = absurd (true≢false (sym e))
    by_tests false high l h e = absurd (true≢false (sym e))
within limit (Number (negsuc n)) e = absurd (true≢false (sym e))

-- no test failed, so each was met
passed_all : (long ends id year month : Bool) (days : Option LineWhy) → why_by long ends id year month days ≡ None
    → (id ≡ true) × (year ≡ true) × (month ≡ true)
passed_all true true true true true days e = (refl, refl, refl)
passed_all true true true true false days e = absurd cc
passed_all true true true false month days e = absurd cc
passed_all true true false year month days e = absurd cc
passed_all true false id year month days e = absurd cc
passed_all false ends id year month days e = absurd cc

-- the month of a line that fails no test is one that can be read
pub month_of-right : (element : Element) (line : List ℕ) → month_why line ≡ None → IsMonth (month_of element line)
month_of-right element line none =
    let tests = passed_all (nat_le 266 (length line)) (is_blank (drop 269 line)) (is_id (columns 1 11 line))
    (is_number_within (pos 1) (pos 9999) (year_field line))
    (is_number_within (pos 1) (pos 12) (month_field line))
    (first_failing (map (value_test line) days_of_group)) none in
    record {
      id = tests.0;
      year = within 9999 (year_field line) tests.1;
      month = within 12 (month_field line) tests.2;
      values = readings-right line days_of_group;
    }

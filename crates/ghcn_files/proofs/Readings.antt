-- The days of a line, as they are read one after the other.
use Rattle.std.proofs.Common.{◌≡◌, ℕ, suc, ◌+◌, ◌*◌, Bool, true, false, cond, List, map, Option, Some, None, refl, sym}
use Rattle.std.proofs.Common.{ap, ◌∙◌, arith, [], ◌∷◌, length}
use Rattle.std.specs.Prelude.{not, ◌||◌, ◌++◌, ℤ, if◌then◌else◌, ◌==◌, bit_or}
use Rattle.std.specs.Simd.Lanes.{zip2}
use Rattle.std.proofs.lemmas.Bool.{and_parts}
use Rattle.std.proofs.lemmas.Bool.Decides.{nat_tests}
use Rattle.std.proofs.lemmas.Nat.{le_or_l, le_or_r}
use Rattle.std.specs.List.{range_with_len}
use Rattle.ghcn_fields.specs.declared.field.Field.{Field}
use Rattle.ghcn_fields.specs.Meaning.Lines.{columns}
use Rattle.ghcn_fields.specs.Numbers.{int_field}
use Rattle.ghcn_fields.specs.Faults.{first_failing}
use Rattle.ghcn_fields.specs.FieldForms.{are_clear, are_clear_but, five_of_eight}
use Rattle.ghcn_files.specs.declared.month.Reading.{Reading}
use Rattle.ghcn_files.specs.declared.fault.LineWhy.{LineWhy}
use Rattle.ghcn_files.specs.declared.fault.LineWhy.TheVariants.{BadValue}
use Rattle.ghcn_files.specs.StationLines.{is_bad, unless_missing}
use Rattle.ghcn_files.specs.Months.{value_field, value_test, is_flagged, reading, days_of_group}

-- what a line says of a day, unless its value isn't a number
abbrev pub readable : List ℕ → ℕ → Option Reading
readable line j = if is_bad (value_field line j) then None else Some (reading line j)

-- the field of a day's value, as it is found, decides
by_field : (line : List ℕ) (j : ℕ) (found : Field) → found ≡ value_field line j
    → cond (is_bad found) None (Some (record { value = unless_missing found; flagged = is_flagged line j }))
    ≡ readable line j
by_field line j found e = ap (λ (f : Field).
    cond (is_bad f) None (Some (record { value = unless_missing f; flagged = is_flagged line j }))) e

-- a day whose field is bad can't be read
pub malformed : (line : List ℕ) (j : ℕ) (found : Field) → found ≡ value_field line j → is_bad found ≡ true
    → None ≡ readable line j
malformed line j found e bad =
    let here : Reading = record { value = unless_missing found; flagged = is_flagged line j } in
    sym (ap (λ (b : Bool). cond b None (Some here)) bad) ∙ by_field line j found e

-- any other day is read from its parts
pub well_formed : (line : List ℕ) (j : ℕ) (found : Field) (value : Option ℤ) (flagged : Bool)
    → found ≡ value_field line j → is_bad found ≡ false → value ≡ unless_missing found → flagged ≡ is_flagged line j
    → Some (record { value = value; flagged = flagged }) ≡ readable line j
well_formed line j found value flagged e fine v f =
    let here : Reading = record { value = unless_missing found; flagged = is_flagged line j } in
    ap (λ (o : Option ℤ). Some (record { value = o; flagged = flagged })) v
    ∙ ap (λ (b : Bool). Some (record { value = unless_missing found; flagged = b })) f
    ∙ sym (ap (λ (b : Bool). cond b None (Some here)) fine)
    ∙ by_field line j found e

-- the tests of the days from one on
unfoldable pub tests_from : List ℕ → ℕ → ℕ → Option LineWhy
tests_from line a n = first_failing (map (value_test line) (range_with_len a n))

-- the tests of all days
pub all_tests : (line : List ℕ) → first_failing (map (value_test line) days_of_group) ≡ tests_from line 1 31
unfolding days_of_group tests_from
all_tests line = refl

-- no test is left
pub no_test : (line : List ℕ) (a n : ℕ) → n ≡ 0 → tests_from line a n ≡ None
unfolding tests_from
no_test line a n e = ap (λ (k : ℕ). first_failing (map (value_test line) (range_with_len a k))) e

-- the days of a line are all days from 1 to 31
pub all_days : (line : List ℕ) (n : ℕ) → n ≡ 31
    → map (reading line) (range_with_len 1 n) ≡ map (reading line) days_of_group
unfolding days_of_group
all_days line n e = ap (λ (k : ℕ). map (reading line) (range_with_len 1 k)) e

-- a value under a test that was there
was_some : (b : Bool) (x r : Reading) → cond b None (Some x) ≡ Some r → (b ≡ false) × (r ≡ x)
was_some true x r e = absurd cc
was_some false x r e = (refl, cc)

-- and one that was not
was_none : (b : Bool) (x : Reading) → cond b None (Some x) ≡ None → b ≡ true
was_none true x e = refl
was_none false x e = absurd cc

-- a day that can be read passes its test
pub passes : (line : List ℕ) (a m n : ℕ) (r : Reading) → m ≡ suc n → readable line a ≡ Some r
    → (r ≡ reading line a) × (tests_from line a m ≡ tests_from line (a + 1) n)
unfolding tests_from
passes line a m n r e is =
    let fine = was_some (is_bad (value_field line a)) (reading line a) r is in (
      fine.1,
      ap (tests_from line a) e ∙ ap (λ (b : Bool). cond (not b) (tests_from line (a + 1) n) (Some (BadValue a))) fine.0,
    )

-- any other day is the first that fails
pub fails : (line : List ℕ) (a m n : ℕ) → m ≡ suc n → readable line a ≡ None → tests_from line a m ≡ Some (BadValue a)
unfolding tests_from
fails line a m n e is =
    ap (tests_from line a) e
    ∙ ap (λ (b : Bool). cond (not b) (tests_from line (a + 1) n) (Some (BadValue a)))
    (was_none (is_bad (value_field line a)) (reading line a) is)

-- a day whose value isn't bad passes its test
pub passes-fine : (line : List ℕ) (a m n : ℕ) → m ≡ suc n → is_bad (value_field line a) ≡ false
    → tests_from line a m ≡ tests_from line (a + 1) n
unfolding tests_from
passes-fine line a m n e fine =
    ap (tests_from line a) e ∙ ap (λ (b : Bool). cond (not b) (tests_from line (a + 1) n) (Some (BadValue a))) fine

-- if neither is true, both are false
pub neither : (x y : Bool) → (x || y) ≡ false → (x ≡ false) × (y ≡ false)
neither false y e = (refl, e)
neither true y e = absurd cc

-- the tests of two days are passed if neither's value is bad
pub two-fine : (line : List ℕ) (a m n : ℕ) (first second : List ℕ) → m ≡ suc (suc n)
    → first ≡ columns (14 + 8 * a) (18 + 8 * a) line → second ≡ columns (14 + 8 * (a + 1)) (18 + 8 * (a + 1)) line
    → (is_bad (int_field first) || is_bad (int_field second)) ≡ false → tests_from line a m ≡ tests_from line (a + 2) n
two-fine line a m n first second e one two fine =
    let parts = neither (is_bad (int_field first)) (is_bad (int_field second)) fine in
    passes-fine line a m (suc n) e (ap (λ (bytes : List ℕ). is_bad (int_field bytes)) (sym one) ∙ parts.0)
    ∙ passes-fine line (a + 1) (suc n) n refl (ap (λ (bytes : List ℕ). is_bad (int_field bytes)) (sym two) ∙ parts.1)
    ∙ ap (λ (k : ℕ). tests_from line k n) (omega arith)

-- a joined lane is 0 if both are
both_none : (behind : Bool) (x y : ℕ) → (behind || (bit_or x y == 0)) ≡ true
    → ((behind || (x == 0)) ≡ true) × ((behind || (y == 0)) ≡ true)
both_none true x y none = (refl, refl)
both_none false x y none =
    (grind (arith, nat_tests, none, le_or_l x y), grind (arith, nat_tests, none, le_or_r x y))

-- so are those of each field
both_clear_but : (bs : List Bool) (xs ys : List ℕ) → length xs ≡ length ys
    → are_clear_but bs (zip2 bit_or xs ys) ≡ true → (are_clear_but bs xs ≡ true) × (are_clear_but bs ys ≡ true)
both_clear_but [] xs ys e clear = (refl, refl)
both_clear_but (b ∷ bs) [] [] e clear = (refl, refl)
both_clear_but (b ∷ bs) [] (y ∷ ys) e clear = absurd (omega arith)
both_clear_but (b ∷ bs) (x ∷ xs) [] e clear = absurd (omega arith)
both_clear_but (b ∷ bs) (x ∷ xs) (y ∷ ys) e clear =
    let parts = and_parts (b || (bit_or x y == 0)) (are_clear_but bs (zip2 bit_or xs ys)) clear in
    let here = both_none b x y parts.0 in
    let more = both_clear_but bs xs ys (omega arith) parts.1 in
    (rw (here.0, more.0) refl, rw (here.1, more.1) refl)

-- lanes that were joined are 0 if those of both are
pub both_clear : (xs ys : List ℕ) → length xs ≡ length ys → are_clear (zip2 bit_or xs ys) ≡ true
    → (are_clear xs ≡ true) × (are_clear ys ≡ true)
both_clear = both_clear_but (five_of_eight ++ five_of_eight)

-- what isn't so is false
pub unless_true : (t : Bool) → not t ≡ true → t ≡ false
unless_true true e = absurd cc
unless_true false e = refl

-- and what isn't false is true
pub is_so : (t : Bool) → not t ≡ false → t ≡ true
is_so true e = refl
is_so false e = absurd cc

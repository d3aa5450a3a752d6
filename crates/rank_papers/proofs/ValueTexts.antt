-- A printed value is read as the score that it stands for.
use Rattle.std.proofs.Common.{◌≡◌, ℕ, suc, ◌+◌, ◌*◌, ◌/◌, ◌%◌, ◌<◌, ◌^◌, Bool, true, false, cond, not, List, [], ◌∷◌, ◌++◌, Option, Some, None, refl, sym, ap, ◌∙◌, subst, arith, length-append, decimal, FitsSigned, w64}
use Rattle.std.specs.Prelude.{◌==◌, ◌&&◌, ℤ, pos, negsuc, neg_ℤ, filter, int_lt, unsigned_abs}
use Rattle.std.specs.Fmt.{sign_text}
use Rattle.std.specs.List.{list_all}
use Rattle.std.specs.Option.{option_map}
use Rattle.std.specs.Char.{is_ascii_digit, digit_value}
use Rattle.std.specs.Str.Parse.{digits_value}
use Rattle.std.proofs.lemmas.Bool.{and_parts}
use Rattle.std.proofs.lemmas.Bool.Decides.{nat_tests}
use Rattle.std.proofs.lemmas.Fmt.{decimal_digit}
use Rattle.std.proofs.lemmas.Int.{ints}
use Rattle.std.proofs.lemmas.Int.Digits.{digits_value_push}
use Rattle.std.proofs.lemmas.List.Elements.{filter-append}
use Rattle.std.proofs.lemmas.List.Folds.{list_all-append}
use Rattle.ghcn_fields.specs.Meaning.Numbers.{with_sign}
use Rattle.ghcn_fields.specs.Numbers.{natural, signed_by}
use Rattle.ghcn_fields.specs.Meaning.NumberTexts.{tenths_of}
use Rattle.ghcn_fields.proofs.Digits.{natural-from}
use Rattle.ghcn_files.specs.Meaning.Ids.{is_visible}
use Rattle.rank_query.specs.declared.score.Score.{Score}
use Rattle.rank_query.specs.declared.score.Score.TheVariants.{Highest, Lowest, Sum, Dry, Wet, Hot, Cold}
use Rattle.rank_query.specs.Meaning.Asked.{Query}
use Rattle.rank_query.specs.Meaning.Spelling.{IsNumeralOf}
use Rattle.rank_query.proofs.PrintedWords.{decimal_numeral}
use Rattle.rank_papers.specs.declared.measure.Measure.{Measure}
use Rattle.rank_papers.specs.declared.measure.Measure.TheVariants.{Degrees, Millimetres, WholeMillimetres, Days}
use Rattle.rank_papers.specs.Meaning.Values.{measure_of_score, value_text, value_of}
use Rattle.rank_papers.specs.Lines.{in_i64}
use Rattle.rank_papers.specs.ReportLines.{score_in}
use Rattle.rank_papers.proofs.NumberTexts.{unsigned}
use Rattle.rank_papers.proofs.ReadLines.{is_i64-fits}
use Rattle.rank_papers.proofs.WrittenLines.{pass-weaker}

-- ---- points

-- a byte that isn't a point
abbrev no_point : ℕ → Bool
no_point b = not (b == 46)

-- a digit isn't a point
digit_no_point : (d : ℕ) → is_ascii_digit d ≡ true → no_point d ≡ true
digit_no_point d h = grind (arith, nat_tests)

-- digits stay if points are left out
digits_stay : (ds : List ℕ) → list_all is_ascii_digit ds ≡ true → filter no_point ds ≡ ds
digits_stay [] h = refl
digits_stay (d ∷ ds) h =
    let both = and_parts (is_ascii_digit d) (list_all is_ascii_digit ds) h in
    ap (λ (t : Bool). cond t (d ∷ filter no_point ds) (filter no_point ds)) (digit_no_point d both.0)
    ∙ ap (λ (l : List ℕ). d ∷ l) (digits_stay ds both.1)

-- ---- tenths

-- the value of a digit's byte
digit_value-byte : (d : ℕ) → d < 10 → digit_value (48 + d) ≡ d
digit_value-byte d low = grind (arith, nat_tests)

-- the digits of tenths without their point are a numeral of them all
tenths_numeral : (n : ℕ) → n < 2 ^ 64 → IsNumeralOf (decimal (n / 10) ++ decimal (n % 10)) n
tenths_numeral n fits =
    let whole = decimal_numeral (n / 10) (omega arith) in
    let part = decimal_numeral (n % 10) (omega arith) in
    let low : n % 10 < 10 = omega arith in
    let value : digits_value 10 (decimal (n / 10) ++ decimal (n % 10))
    ≡ digits_value 10 (decimal (n / 10)) * 10 + n % 10 =
    ap (λ (ds : List ℕ). digits_value 10 (decimal (n / 10) ++ ds)) (decimal_digit (n % 10) low)
    ∙ digits_value_push 10 (decimal (n / 10)) (48 + n % 10)
    ∙ ap (λ (d : ℕ). digits_value 10 (decimal (n / 10)) * 10 + d) (digit_value-byte (n % 10) low) in
    record {
      some_digit = omega (arith, length-append (decimal (n / 10)) (decimal (n % 10)), whole.some_digit);
      digits_alone = list_all-append is_ascii_digit (decimal (n / 10)) (decimal (n % 10))
          ∙ ap (λ (t : Bool). t && list_all is_ascii_digit (decimal (n % 10))) whole.digits_alone ∙ part.digits_alone;
      value = omega (arith, value, whole.value);
    }

-- what is left of tenths without their point
tenths_stay : (n : ℕ) → n < 2 ^ 64 → filter no_point (tenths_of n) ≡ decimal (n / 10) ++ decimal (n % 10)
tenths_stay n fits =
    filter-append no_point (decimal (n / 10)) (46 ∷ decimal (n % 10))
    ∙ ap (λ (ds : List ℕ). ds ++ filter no_point (decimal (n % 10)))
    (digits_stay (decimal (n / 10)) (decimal_numeral (n / 10) (omega arith)).digits_alone)
    ∙ ap (λ (ds : List ℕ). decimal (n / 10) ++ ds)
    (digits_stay (decimal (n % 10)) (decimal_numeral (n % 10) (omega arith)).digits_alone)

-- so what is left is a numeral
tenths_left : (n : ℕ) → n < 2 ^ 64 → IsNumeralOf (filter no_point (tenths_of n)) n
tenths_left n fits = subst (λ (ds : List ℕ). IsNumeralOf ds n) (sym (tenths_stay n fits)) (tenths_numeral n fits)

-- what is left of a whole number is one
whole_left : (n : ℕ) → n < 2 ^ 64 → IsNumeralOf (filter no_point (decimal n)) n
whole_left n fits =
    let numeral = decimal_numeral n fits in
    subst (λ (ds : List ℕ). IsNumeralOf ds n) (sym (digits_stay (decimal n) numeral.digits_alone)) numeral

-- what is left of a magnitude is a numeral of it
magnitude_left : (m : Measure) (n : ℕ) → n < 2 ^ 64 → IsNumeralOf (filter no_point (value_text m (pos n))) n
magnitude_left Degrees n fits = tenths_left n fits
magnitude_left Millimetres n fits = tenths_left n fits
magnitude_left WholeMillimetres n fits = whole_left n fits
magnitude_left Days n fits = whole_left n fits

-- ---- signs

-- the number of a numeral is read of it
numeral_read : (ds : List ℕ) (n : ℕ) → IsNumeralOf ds n → natural ds ≡ Some n
numeral_read ds n is = natural-from ds is.some_digit is.digits_alone ∙ ap (λ (m : ℕ). Some m) (sym is.value)

-- a value below zero is printed after a minus
below_zero : (m : Measure) (n : ℕ) → value_text m (negsuc n) ≡ 45 ∷ value_text m (pos (suc n))
below_zero Degrees n = refl
below_zero Millimetres n = refl
below_zero WholeMillimetres n = refl
below_zero Days n = refl

-- a number of no sign isn't below zero
not_below : (n : ℕ) → int_lt (pos n) (pos 0) ≡ false
not_below n = grind (arith, ints)

-- a value is printed as a sign and its magnitude
pub value_signed : (m : Measure) (z : ℤ)
    → sign_text (int_lt z (pos 0)) ++ value_text m (pos (unsigned_abs z)) ≡ value_text m z
value_signed m (pos n) = ap (λ (b : Bool). sign_text b ++ value_text m (pos n)) (not_below n)
value_signed m (negsuc n) = sym (below_zero m n)

-- a printed value is read without its point
pub value_read : (m : Measure) (z : ℤ) → unsigned_abs z < 2 ^ 64
    → signed_by natural (filter (λ b. not (b == 46)) (value_text m z)) ≡ Some z
value_read m (pos n) fits =
    let left = magnitude_left m n fits in
    unsigned (filter no_point (value_text m (pos n))) left.some_digit left.digits_alone
    ∙ ap (option_map (with_sign false)) (numeral_read (filter no_point (value_text m (pos n))) n left)
value_read m (negsuc n) fits =
    ap (λ (text : List ℕ). signed_by natural (filter no_point text)) (below_zero m n)
    ∙ ap (option_map (with_sign true))
    (numeral_read (filter no_point (value_text m (pos (suc n)))) (suc n) (magnitude_left m (suc n) fits))

-- ---- scores

-- a number is that below the negated one
twice_negated : (z : ℤ) → neg_ℤ (neg_ℤ z) ≡ z
twice_negated z = grind (arith, ints)

-- the value of a score's value is the score
value_of-twice : (s : Score) (z : ℤ) → value_of s (value_of s z) ≡ z
value_of-twice (Highest e) z = refl
value_of-twice (Lowest e) z = twice_negated z
value_of-twice (Sum n e) z = refl
value_of-twice Dry z = refl
value_of-twice Wet z = refl
value_of-twice (Hot t) z = refl
value_of-twice (Cold t) z = refl

-- a number inside 64 bits has a magnitude inside 64 bits
magnitude_fits : (z : ℤ) → FitsSigned w64 z → unsigned_abs z < 2 ^ 64
magnitude_fits z h = grind (arith, ints)

-- also negated
negated_fits : (z : ℤ) → FitsSigned w64 z → unsigned_abs (neg_ℤ z) < 2 ^ 64
negated_fits z h = grind (arith, ints)

-- so has the value of such a score
pub value_fits : (s : Score) (z : ℤ) → FitsSigned w64 z → unsigned_abs (value_of s z) < 2 ^ 64
value_fits (Highest e) z h = magnitude_fits z h
value_fits (Lowest e) z h = negated_fits z h
value_fits (Sum n e) z h = magnitude_fits z h
value_fits Dry z h = magnitude_fits z h
value_fits Wet z h = magnitude_fits z h
value_fits (Hot t) z h = magnitude_fits z h
value_fits (Cold t) z h = magnitude_fits z h

-- a score is read of the value that is printed for it
pub score_in-text : (q : Query) (z : ℤ) → FitsSigned w64 z
    → score_in q (value_text (measure_of_score q.score) (value_of q.score z)) ≡ Some z
score_in-text q z h =
    ap (λ (o : Option ℤ). in_i64 (option_map (value_of q.score) o))
    (value_read (measure_of_score q.score) (value_of q.score z) (value_fits q.score z h))
    ∙ ap (λ (y : ℤ). in_i64 (Some y)) (value_of-twice q.score z)
    ∙ ap (λ (b : Bool). cond b (Some z) None) (is_i64-fits z h)

-- ---- what can be seen

-- a digit is visible
digit_visible : (d : ℕ) → is_ascii_digit d ≡ true → is_visible d ≡ true
digit_visible d h = grind (arith, nat_tests)

-- so is a number
pub decimal_visible : (n : ℕ) → n < 2 ^ 64 → list_all is_visible (decimal n) ≡ true
decimal_visible n fits =
    pass-weaker is_ascii_digit is_visible digit_visible (decimal n) (decimal_numeral n fits).digits_alone

-- so are tenths
tenths_visible : (n : ℕ) → n < 2 ^ 64 → list_all is_visible (tenths_of n) ≡ true
tenths_visible n fits =
    list_all-append is_visible (decimal (n / 10)) (46 ∷ decimal (n % 10))
    ∙ ap (λ (t : Bool). t && list_all is_visible (46 ∷ decimal (n % 10))) (decimal_visible (n / 10) (omega arith))
    ∙ decimal_visible (n % 10) (omega arith)

-- so is a magnitude
magnitude_visible : (m : Measure) (n : ℕ) → n < 2 ^ 64 → list_all is_visible (value_text m (pos n)) ≡ true
magnitude_visible Degrees n fits = tenths_visible n fits
magnitude_visible Millimetres n fits = tenths_visible n fits
magnitude_visible WholeMillimetres n fits = decimal_visible n fits
magnitude_visible Days n fits = decimal_visible n fits

-- a printed value is visible
pub value_visible : (m : Measure) (z : ℤ) → unsigned_abs z < 2 ^ 64 → list_all is_visible (value_text m z) ≡ true
value_visible m (pos n) fits = magnitude_visible m n fits
value_visible m (negsuc n) fits = ap (list_all is_visible) (below_zero m n) ∙ magnitude_visible m (suc n) fits

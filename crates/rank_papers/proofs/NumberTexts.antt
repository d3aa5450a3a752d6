-- The text of a number is read as it.
use Rattle.std.proofs.Common.{◌≡◌, ℕ, suc, ◌<◌, ◌≤◌, ◌^◌, Bool, true, false, cond, List, [], ◌∷◌, length, Some, None, sym, ap, ◌∙◌, decimal, arith}
use Rattle.std.specs.Prelude.{◌==◌, ℤ, pos, negsuc}
use Rattle.std.specs.List.{list_all}
use Rattle.std.specs.Option.{option_map}
use Rattle.std.specs.Char.{is_ascii_digit}
use Rattle.std.proofs.lemmas.Bool.{and_parts}
use Rattle.std.proofs.lemmas.Bool.Decides.{nat_tests}
use Rattle.std.proofs.lemmas.Int.{ints}
use Rattle.ghcn_fields.specs.Meaning.Numbers.{with_sign}
use Rattle.ghcn_fields.specs.Numbers.{natural, signed_by}
use Rattle.std.specs.Fmt.{signed_decimal}
use Rattle.ghcn_fields.proofs.Digits.{natural-from}
use Rattle.rank_query.proofs.PrintedWords.{decimal_numeral}
use Rattle.rank_papers.specs.Lines.{is_i64, in_i64, number_in}
use Rattle.rank_papers.proofs.LineValues.{exactly-from}

-- digits have no sign
pub unsigned : (ds : List ℕ) → 1 ≤ length ds → list_all is_ascii_digit ds ≡ true
    → signed_by natural ds ≡ option_map (with_sign false) (natural ds)
unsigned [] some digits = absurd (omega arith)
unsigned (d ∷ ds) some digits =
    let first = (and_parts (is_ascii_digit d) (list_all is_ascii_digit ds) digits).0 in
    let other : (d == 45) ≡ false = grind (arith, nat_tests) in
    ap (λ (b : Bool). cond b (option_map (with_sign true) (natural ds)) (option_map (with_sign false) (natural (d ∷
    ds)))) other

-- the number that decimal digits write is read of them
pub natural-decimal : (n : ℕ) → n < 2 ^ 64 → natural (decimal n) ≡ Some n
natural-decimal n fits =
    let numeral = decimal_numeral n fits in
    natural-from (decimal n) numeral.some_digit numeral.digits_alone ∙ ap (λ (m : ℕ). Some m) (sym numeral.value)

-- numbers inside 64 bits have magnitudes inside 64 bits
magnitude : (n : ℕ) → is_i64 (pos n) ≡ true → n < 2 ^ 64
magnitude n h = grind (arith, ints)

-- also below zero
magnitude-below : (n : ℕ) → is_i64 (negsuc n) ≡ true → suc n < 2 ^ 64
magnitude-below n h = grind (arith, ints)

-- a number is read of its text, with or without a minus
signed-whole : (z : ℤ) → is_i64 z ≡ true → signed_by natural (signed_decimal z) ≡ Some z
signed-whole (pos n) h =
    let fits = magnitude n h in
    let numeral = decimal_numeral n fits in
    unsigned (decimal n) numeral.some_digit numeral.digits_alone
    ∙ ap (option_map (with_sign false)) (natural-decimal n fits)
signed-whole (negsuc n) h = ap (option_map (with_sign true)) (natural-decimal (suc n) (magnitude-below n h))

-- the text of a number inside 64 bits is read as it
pub number_in-whole : (z : ℤ) → is_i64 z ≡ true → number_in (signed_decimal z) ≡ Some z
number_in-whole z h =
    ap in_i64 (exactly-from signed_decimal (signed_by natural (signed_decimal z)) z (signed-whole z h))
    ∙ ap (λ (b : Bool). cond b (Some z) None) h

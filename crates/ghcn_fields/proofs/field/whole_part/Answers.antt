use Rattle.std.proofs.Common.{◌≡◌, ◌^◌, ℕ, ◌+◌, List, length, take, drop, get_or, sym, ap, ◌∙◌, arith, false}
use Rattle.std.specs.Char.{is_ascii_digit}
use Rattle.std.proofs.lemmas.Bool.Decides.{nat_tests}
use Rattle.std.proofs.Math.Seq.{take-length, drop-length}
use Rattle.std.proofs.lemmas.List.{length-drop}
use Rattle.ghcn_fields.specs.Numbers.{up_to}
use Rattle.ghcn_fields.proofs.Decimals.{is_point}
use Rattle.ghcn_fields.proofs.Digits.{one_more}
use Rattle.ghcn_fields.proofs.WholeParts.{whole_digits, whole_number, no_whole, whole_too_great, digits_more}
use Rattle.ghcn_fields.proofs.WholeParts.{some_digits, first_digit, no_first_digit}
use Rattle.ghcn_fields.proofs.field.whole_part.Goals as goal

-- without a first digit there is no whole part
pub returns-then-not-begins_with_digit-clause-number : goal.returns-then-not-begins_with_digit-clause-number
returns-then-not-begins_with_digit-clause-number c =
    sym (ap (up_to (2 ^ 31)) (no_first_digit c.args.text.now
    (sym c.begins_with_digit.ensures ∙ c.if-not-begins_with_digit.true)))

-- the digits up to the point are the whole part
pub returns-then-byte-eq46-clause-number : goal.returns-then-byte-eq46-clause-number
returns-then-byte-eq46-clause-number c =
    let text : List ℕ = c.args.text.now in
    let first = first_digit text (sym c.begins_with_digit.ensures ∙ c.if-not-begins_with_digit.false) in
    sym (whole_number text c.loop-place.place c.loop-place.value c.loop-place.invariant.digits
    c.loop-place.auto.place-end (some_digits text c.loop-place.place first.1 c.if-byte-eq46.true)
    (λ lt. c.if-byte-eq46.true) c.loop-place.invariant.value c.loop-place.invariant.small)

-- the point follows
pub returns-then-byte-eq46-clause-rest : goal.returns-then-byte-eq46-clause-rest
returns-then-byte-eq46-clause-rest c =
    let text : List ℕ = c.args.text.now in
    let at = whole_digits text c.loop-place.place c.loop-place.invariant.digits c.loop-place.auto.place-end
    (λ lt. c.if-byte-eq46.true) in
    ap (λ (n : ℕ). take n (drop c.loop-place.place text)) (sym (length-drop c.loop-place.place text))
    ∙ take-length (drop c.loop-place.place text)
    ∙ ap (λ (n : ℕ). drop n text) (sym at)

-- another byte than a digit is in the whole part
pub returns-then-not-is_ascii_digit-clause-number : goal.returns-then-not-is_ascii_digit-clause-number
returns-then-not-is_ascii_digit-clause-number c =
    let text : List ℕ = c.args.text.now in
    let place : ℕ = c.loop-place.place in
    let digit : is_ascii_digit (get_or text place 0) ≡ false =
    sym c.is_ascii_digit.ensures.value ∙ c.if-not-is_ascii_digit.true in
    let point : is_point (get_or text place 0) ≡ false = grind (arith, nat_tests) in
    sym (ap (up_to (2 ^ 31)) (no_whole text place c.loop-place.invariant.digits c.loop-place-test.true digit point))

-- the whole part is too great
pub returns-then-value-gt-GREATEST-clause-number : goal.returns-then-value-gt-GREATEST-clause-number
returns-then-value-gt-GREATEST-clause-number c =
    let text : List ℕ = c.args.text.now in
    let place : ℕ = c.loop-place.place in
    let digit = sym c.is_ascii_digit.ensures.value ∙ c.if-not-is_ascii_digit.false in
    let more = one_more text place c.loop-place.value c.loop-place-test.true c.loop-place.invariant.value digit in
    sym (whole_too_great text (place + 1) _
    (digits_more text place c.loop-place.invariant.digits c.loop-place-test.true digit)
    (omega (arith, c.loop-place-test.true)) more c.if-value-gt-GREATEST.true)

-- one digit more
pub loop-place-preserved : goal.loop-place-preserved
loop-place-preserved c =
    let text : List ℕ = c.args.text.now in
    let place : ℕ = c.loop-place.place in
    let digit = sym c.is_ascii_digit.ensures.value ∙ c.if-not-is_ascii_digit.false in
    record {
      digits = digits_more text place c.loop-place.invariant.digits c.loop-place-test.true digit;
      value = one_more text place c.loop-place.value c.loop-place-test.true c.loop-place.invariant.value digit;
      small = omega arith;
    }

-- all bytes are the whole part
pub returns-clause-number : goal.returns-clause-number
returns-clause-number c =
    let text : List ℕ = c.args.text.now in
    let first = first_digit text (sym c.begins_with_digit.ensures ∙ c.if-not-begins_with_digit.false) in
    let end : c.loop-place.place ≡ length text = omega arith in
    sym (whole_number text c.loop-place.place c.loop-place.value c.loop-place.invariant.digits
    c.loop-place.auto.place-end (omega (arith, first.0, end)) (λ lt. absurd (omega (arith, lt, end)))
    c.loop-place.invariant.value c.loop-place.invariant.small)

-- and nothing follows
pub returns-clause-rest : goal.returns-clause-rest
returns-clause-rest c =
    let text : List ℕ = c.args.text.now in
    let end : c.loop-place.place ≡ length text = omega arith in
    let at = whole_digits text c.loop-place.place c.loop-place.invariant.digits c.loop-place.auto.place-end
    (λ lt. absurd (omega (arith, lt, end))) in
    sym (ap (λ (n : ℕ). drop n text) (at ∙ end) ∙ drop-length text)

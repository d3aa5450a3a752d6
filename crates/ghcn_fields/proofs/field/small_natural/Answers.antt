use Rattle.std.proofs.Common.{◌+◌, ◌^◌, sym, ◌∙◌, arith}
use Rattle.std.proofs.lemmas.Grind.{common_steps}
use Rattle.std.proofs.lemmas.Bool.Decides.{nat_tests}
use Rattle.ghcn_fields.proofs.Digits.{too_great, one_more}
use Rattle.ghcn_fields.proofs.field.small_natural.Goals as goal

-- a value beyond the limit stays beyond it, whatever follows
pub returns-then-value-gt-GREATEST : goal.returns-then-value-gt-GREATEST
returns-then-value-gt-GREATEST c =
    let more =
    one_more c.args.digits.now c.loop-digit.digit-index c.loop-digit.value c.loop-digit-test.true
    c.loop-digit.invariant.value (sym c.is_ascii_digit.ensures.value ∙ c.if-not-is_ascii_digit.false) in
    sym (too_great (c.loop-digit.digit-index + 1) _ (2 ^ 31) c.args.digits.now more c.if-value-gt-GREATEST.true)

-- one digit more
pub loop-digit-preserved : goal.loop-digit-preserved
loop-digit-preserved c = grind (arith, common_steps, nat_tests, one_more)

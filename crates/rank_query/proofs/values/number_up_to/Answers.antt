use Rattle.rank_query.proofs.Cited.{◌≡◌, ◌+◌, get_or, true, sym, ◌∙◌, arith, is_ascii_digit, common_steps}
use Rattle.rank_query.proofs.Numerals.{one_more_up_to}
use Rattle.rank_query.proofs.values.number_up_to.Goals as goal

-- one digit more is one digit, and its value is added
pub loop-digit-preserved : goal.loop-digit-preserved
loop-digit-preserved c =
    let digit : is_ascii_digit (get_or c.args.digits.now c.loop-digit.digit-index 0) ≡ true = sym
    c.is_ascii_digit.ensures.value ∙ c.if-not-is_ascii_digit.false in
    record {
      digits = grind (arith, common_steps);
      value = c.min-value.ensures ∙ one_more_up_to (c.args.most + 1) c.args.digits.now c.loop-digit.digit-index
          c.loop-digit.value c.loop-digit-test.true c.loop-digit.invariant.value digit;
    }

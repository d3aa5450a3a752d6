use Rattle.rank_query.proofs.Cited.{Some, sym, ap, ◌∙◌, arith, ℕ}
use Rattle.rank_query.proofs.Numerals.{joined-kept}
use Rattle.rank_query.proofs.values.joined_up_to_most.Goals as goal

-- whole degrees and the digit after their point make the tenths
pub returns : goal.returns
returns c =
    ap (λ (k : ℕ). Some k) c.min.ensures
    ∙ sym (joined-kept c.args.whole.now c.args.part.now c.in_ok-number_up_to.field-0 c.in_ok-tenths.field-0
    (omega (arith, c.if-part-gt1.false)) (sym c.number_up_to.ensures ∙ c.in_ok-number_up_to.was)
    (sym c.number_up_to-2.ensures ∙ c.in_ok-tenths.was))

use Rattle.rank_query.proofs.Cited.{◌≡◌, true, false, sym, ap, ◌∙◌, arith, rules, FitsSigned, to_z-of_z, w32}
use Rattle.rank_query.proofs.Cited.{common_steps, is_heat}
use Rattle.rank_query.proofs.Numerals.{heat-kept, heat-past}
use Rattle.rank_query.proofs.values.heat.Goals as goal

-- degrees within their limits
pub returns-in-Some-clause-read : goal.returns-in-Some-clause-read
returns-in-Some-clause-read c =
    let fits : FitsSigned w32 c.in-Some.tenths = search rules in
    let inside : is_heat c.in-Some.tenths ≡ true = ap is_heat (sym (to_z-of_z fits)) ∙ sym c.is_between.ensures
    ∙ c.if-is_between.true in
    let value = heat-kept c.in_ok-place.place c.in_ok-place.word.now c.in-Some.tenths
    (sym c.tenths_up_to_most.ensures ∙ c.in-Some.is) inside in
    rw (to_z-of_z fits) (grind (arith, common_steps))

-- and past them
pub returns-in-Some-2-clause-read : goal.returns-in-Some-2-clause-read
returns-in-Some-2-clause-read c =
    let fits : FitsSigned w32 c.in-Some.tenths = search rules in
    let outside : is_heat c.in-Some.tenths ≡ false = ap is_heat (sym (to_z-of_z fits)) ∙ sym c.is_between.ensures
    ∙ c.if-is_between.false in
    let value = heat-past c.in_ok-place.place c.in_ok-place.word.now c.in-Some.tenths
    (sym c.tenths_up_to_most.ensures ∙ c.in-Some.is) outside in
    grind (arith, common_steps)

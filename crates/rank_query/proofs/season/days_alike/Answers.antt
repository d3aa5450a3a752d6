use Rattle.rank_query.proofs.Cited.{◌≡◌, arith, ints, rules, FitsSigned, to_z, of_z, to_z-of_z, w32, ℤ, pos, ◌+ℤ◌, ◌≤ℤ◌}
use Rattle.rank_query.proofs.Cited.{refl, subst, int_le, ◌∙◌}
use Rattle.rank_query.proofs.Edges.{between_same}
use Rattle.rank_query.proofs.season.days_alike.Goals as goal

-- a day's number is within the limits
pub days_on_one_side-requires-clause-low : goal.days_on_one_side-requires-clause-low
days_on_one_side-requires-clause-low c =
    let first : FitsSigned w32 c.number-2.result = search rules in
    let range = c.number-2.ensures.range in
    rw (to_z-of_z first) (grind (arith, ints))

-- on both sides
pub days_on_one_side-requires-clause-high : goal.days_on_one_side-requires-clause-high
days_on_one_side-requires-clause-high c =
    let first : FitsSigned w32 c.number-2.result = search rules in
    let range = c.number-2.ensures.range in
    rw (to_z-of_z first) (grind (arith, ints))

-- the days that stay on one side of both edges
pub returns-clause-alike : goal.returns-clause-alike
returns-clause-alike c = λ d from to.
    let first : FitsSigned w32 c.number-2.result = search rules in
    let last : FitsSigned w32 c.number.result = search rules in
    let past : FitsSigned w32 (c.number.result +ℤ pos 1) = search rules in
    let up : ℤ = c.days_on_one_side-up_to_last.result in
    let both : ℤ = c.days_on_one_side.result in
    let up-fits : FitsSigned w32 up = search rules in
    let both-fits : FitsSigned w32 both = search rules in
    let near : d ≤ℤ (c.args.day +ℤ both) = subst (λ (z : ℤ). d ≤ℤ (c.args.day +ℤ z)) (to_z-of_z both-fits) to in
    let few : both ≤ℤ up = subst (λ (z : ℤ). both ≤ℤ z) (to_z-of_z up-fits) c.days_on_one_side.ensures.few in
    let further : d ≤ℤ (c.args.day +ℤ up) = omega (arith, ints, near, few) in
    let edge : to_z w32 (of_z w32 (to_z w32 (of_z w32 c.number.result) +ℤ pos 1)) ≡ c.args.last +ℤ pos 1 =
    rw (to_z-of_z last, to_z-of_z past, c.number.ensures.value) refl in
    between_same c.args.first c.args.last c.args.day d
    (subst (λ (z : ℤ). int_le z d ≡ int_le z c.args.day) (to_z-of_z first ∙ c.number-2.ensures.value)
    (c.days_on_one_side.ensures.alike d from near))
    (subst (λ (z : ℤ). int_le z d ≡ int_le z c.args.day) edge
    (c.days_on_one_side-up_to_last.ensures.alike d from further))

use Rattle.rank_query.proofs.Cited.{◌≡◌, arith, ints, rules, FitsSigned, to_z, of_z, to_z-of_z, w32, ℤ, ◌-ℤ◌, ◌+ℤ◌}
use Rattle.rank_query.proofs.Cited.{◌≤ℤ◌, refl, sym, subst, ◌∙◌}
use Rattle.rank_query.specs.Meaning.Admits.{in_2000}
use Rattle.rank_query.proofs.Edges.{close_fits}
use Rattle.rank_query.proofs.season.between_days_from.Goals as goal

-- the days up to the end of the month stand for days one after another
pub returns-clause-alike : goal.returns-clause-alike
returns-clause-alike c = λ d from to.
    let more : ℤ = c.days_alike-more.result in
    let end : ℤ = c.month_of-end.result.1 in
    let here : ℤ = in_2000 c.args.day in
    let day-fits : FitsSigned w32 c.number-2.result = search rules in
    let day-fits-too : FitsSigned w32 c.number.result = search rules in
    let end-fits : FitsSigned w32 end = search rules in
    let left-fits : FitsSigned w32 (end -ℤ c.args.day) =
    close_fits c.args.day end c.month_of-end.ensures.on c.month_of-end.ensures.few in
    let more-fits : FitsSigned w32 more = search rules in
    let left : to_z w32 (of_z w32 (to_z w32 (of_z w32 end) -ℤ to_z w32 (of_z w32 c.number.result))) ≡ end
    -ℤ c.args.day =
    rw (to_z-of_z end-fits, to_z-of_z day-fits-too, c.number.ensures.value, to_z-of_z left-fits) refl in
    let few : more ≤ℤ (end -ℤ c.args.day) = subst (λ (z : ℤ). more ≤ℤ z) left c.days_alike-more.ensures.few in
    let sum-fits : FitsSigned w32 (c.args.day +ℤ more) = search rules in
    let sum : to_z w32 (of_z w32 (to_z w32 (of_z w32 c.number-2.result) +ℤ to_z w32 (of_z w32 more))) ≡ c.args.day
    +ℤ more =
    rw (to_z-of_z day-fits, to_z-of_z more-fits, c.number-2.ensures.value, to_z-of_z sum-fits) refl in
    let within : d ≤ℤ (c.args.day +ℤ more) = subst (λ (z : ℤ). d ≤ℤ z) sum to in
    let place : in_2000 d ≡ here +ℤ (d -ℤ c.args.day) =
    c.month_of-end.ensures.place d from (omega (arith, ints, within, few)) in
    let same : c.in_2000-here.result ≡ here = c.in_2000-here.ensures in
    c.days_alike-more.ensures.alike (in_2000 d) (rw (same, place) (omega (arith, ints, from)))
    (rw (same, place) (omega (arith, ints, within))) ∙ sym c.is_between_days.ensures

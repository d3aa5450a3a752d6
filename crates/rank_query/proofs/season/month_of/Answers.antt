use Rattle.rank_query.proofs.Cited.{◌≡◌, ◌-◌, ◌+ℤ◌, ◌≤ℤ◌, pos, arith, FitsSigned, to_z, of_z, to_z-of_z, w32, subst, ℕ}
use Rattle.rank_query.proofs.Cited.{ℤ, to_z_pos, IsTrue, ints, is_day, ◌<◌}
use Rattle.rank_query.proofs.Months.{same_month, later_2000}
use Rattle.rank_query.proofs.season.month_of.Goals as goal

-- a day up to the end of the month, whose number is computed
to_end : (day number d : ℤ) (left : ℕ) → IsTrue (is_day day) → number ≡ day → left < 256
    → d ≤ℤ to_z w32 (of_z w32 (to_z w32 (of_z w32 number) +ℤ to_z w32 left)) → d ≤ℤ (day +ℤ pos left)
to_end day number d left is same few to =
    let fits : FitsSigned w32 number = grind (arith, ints) in
    let near : FitsSigned w32 (number +ℤ pos left) = grind (arith, ints) in
    rw (to_z-of_z fits, to_z_pos w32 left (omega arith), to_z-of_z near, same) at to

-- the days up to the month's last one are in that month
pub returns-clause-month : goal.returns-clause-month
returns-clause-month c = λ d from to.
    let place : ℕ = c.civil-year.result.2 in
    same_month c.civil-year.result.0 c.civil-year.result.1 place c.args.day d c.civil-year.ensures.number from
    (subst (λ (n : ℕ). d ≤ℤ (c.args.day +ℤ pos (n - place))) c.days_in_month.ensures
    (to_end c.args.day c.number.result d _ c.number.ensures.range c.number.ensures.value (omega arith) to))

-- and stand for days of the year 2000 one after another
pub returns-clause-place : goal.returns-clause-place
returns-clause-place c = λ d from to.
    let place : ℕ = c.civil-year.result.2 in
    later_2000 c.civil-year.result.0 c.civil-year.result.1 place c.args.day d c.civil-year.ensures.number from
    (subst (λ (n : ℕ). d ≤ℤ (c.args.day +ℤ pos (n - place))) c.days_in_month.ensures
    (to_end c.args.day c.number.result d _ c.number.ensures.range c.number.ensures.value (omega arith) to))

use Rattle.ghcn_series.proofs.Cited.{rules, arith, ◌≡◌, ◌∙◌, ℕ, List, [], ℤ, pos, get_or, sym, w32, trailing_zeros}
use Rattle.ghcn_series.proofs.Cited.{to_z-of_z}
use Rattle.ghcn_series.proofs.FirstDays.{block-empty, block-first, lowest-day, lowest-block, days-left, progress}
use Rattle.ghcn_series.proofs.days.BlockDaysIterator.next.Goals as goal

-- without a bit there is no day
pub returns-then-self-eq0-clause-steps : goal.returns-then-self-eq0-clause-steps
returns-then-self-eq0-clause-steps c =
    let empty : c.args.self.now ≡ [] = sym c.self.view_is ∙ block-empty c.self.inside.number c.self.inside.values.now
    c.self.inside.left c.if-self-eq0.true in (empty, empty)

-- each bit belongs to a day of the calendar
pub day_at-day-requires-clause-day : goal.day_at-day-requires-clause-day
day_at-day-requires-clause-day c = rw (to_z-of_z w32 c.self.inside.number (search rules))
    (lowest-day _ _ c.self.invariant (omega (arith, c.if-self-eq0.false)) (search rules))

-- the days that are left are in the calendar
pub invariant_of-self : goal.invariant_of-self
invariant_of-self c = days-left _ _ c.self.invariant (omega (arith, c.if-self-eq0.false)) (search rules)

-- the next day is that of the lowest bit
pub returns-clause-steps : goal.returns-clause-steps
returns-clause-steps c =
    let n : ℤ = c.self.inside.number in let w : ℕ = c.self.inside.left in
    let vs : List ℤ = c.self.inside.values.now in let v : ℤ = get_or vs (trailing_zeros w32 w) (pos 0) in
    rw (c.day_at-day.ensures, to_z-of_z w32 n (search rules), to_z-of_z w32 v (search rules))
    (sym c.self.view_is ∙ block-first n vs w (omega (arith, c.if-self-eq0.false)) (search rules))

-- the number is that of a block
pub day_at-day-requires-clause-number : goal.day_at-day-requires-clause-number
day_at-day-requires-clause-number c = rw (to_z-of_z w32 c.self.inside.number (search rules))
    (lowest-block _ _ c.self.invariant (omega (arith, c.if-self-eq0.false)) (search rules))

-- one day less is left
pub returns-clause-goes : goal.returns-clause-goes
returns-clause-goes c = progress _ _ _ (returns-clause-steps c)

use Rattle.ghcn_series.proofs.Cited.{rules, arith, ◌∙◌, ℕ, ℤ, sym, w32, to_z-of_z}
use Rattle.ghcn_series.proofs.FirstDays.{block-empty, lowest-block}
use Rattle.ghcn_series.proofs.PartDays.{some-bits, ones-left}
use Rattle.ghcn_series.proofs.RunDays.{takes-row}
use Rattle.ghcn_series.proofs.days.BlockDays.next_row.Goals as goal

-- without a bit there is no day
pub returns-then-self-eq0-clause-none : goal.returns-then-self-eq0-clause-none
returns-then-self-eq0-clause-none c =
    sym c.self.view_is ∙ block-empty c.self.inside.number c.self.inside.values.now c.self.inside.left c.if-self-eq0.true

-- and none is left
pub returns-then-self-eq0-clause-end : goal.returns-then-self-eq0-clause-end
returns-then-self-eq0-clause-end c = returns-then-self-eq0-clause-none c

-- the number is that of a block
pub day_at-first-requires-clause-number : goal.day_at-first-requires-clause-number
day_at-first-requires-clause-number c = rw (to_z-of_z w32 c.self.inside.number (search rules))
    (lowest-block _ _ c.self.invariant (omega (arith, c.if-self-eq0.false)) (search rules))

-- the days that stay are in the calendar
pub invariant_of-self : goal.invariant_of-self
invariant_of-self c = some-bits c.self.inside.number c.self.inside.left _ c.self.invariant

-- they end after they begin, and no later than the block
pub between-values-requires : goal.between-values-requires
between-values-requires c = record {
  some = search rules;
  few = search rules;
}

-- what is taken is the first days in a row, with their values
pub returns-clause-row : goal.returns-clause-row
returns-clause-row c =
    let n : ℤ = c.self.inside.number in let k : ℕ = c.end_of_run-behind.result in
    rw (← c.self.view_is, c.day_at-first.ensures, c.between-values.ensures.part)
    (rw (to_z-of_z w32 n (search rules), c.first_places-row.ensures, ones-left k)
    (takes-row n c.self.inside.values.now c.self.inside.left k (search rules) (omega (arith, c.if-self-eq0.false))
    c.end_of_run-behind.ensures c.between-values.ensures.size))

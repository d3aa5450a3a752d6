use Rattle.ghcn_series.proofs.Cited.{rules, arith, ℤ, w32, to_z-of_z}
use Rattle.ghcn_series.proofs.FirstDays.{block-empty, block-first, lowest-day, lowest-block}
use Rattle.ghcn_series.proofs.days.BlockDays.first.Goals as goal

-- without a bit there is no day
pub returns-then-self-eq0 : goal.returns-then-self-eq0
returns-then-self-eq0 c =
    let block = c.self.inside in
    rw (← c.self.view_is, block-empty block.number block.values.now block.left c.if-self-eq0.true)

-- the number is that of a block
pub day_at-requires-clause-number : goal.day_at-requires-clause-number
day_at-requires-clause-number c = rw (to_z-of_z w32 c.self.inside.number (search rules))
    (lowest-block _ _ c.self.invariant (omega (arith, c.if-self-eq0.false)) (search rules))

-- its lowest bit belongs to a day of the calendar
pub day_at-requires-clause-day : goal.day_at-requires-clause-day
day_at-requires-clause-day c = rw (to_z-of_z w32 c.self.inside.number (search rules))
    (lowest-day _ _ c.self.invariant (omega (arith, c.if-self-eq0.false)) (search rules))

-- which is that of the first day
pub returns : goal.returns
returns c =
    let n : ℤ = c.self.inside.number in rw (← c.self.view_is, c.day_at.ensures, to_z-of_z w32 n (search rules))
    (rw (block-first n c.self.inside.values.now c.self.inside.left (omega (arith, c.if-self-eq0.false)) (search rules)))

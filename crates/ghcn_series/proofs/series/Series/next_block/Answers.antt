use Rattle.ghcn_series.proofs.Cited.{ap, sym, ◌∙◌, List, ℤ, w32, to_z-of_z, next_block, DayValue, Series, is_by_day}
use Rattle.ghcn_series.proofs.NextBlocks.{next-is}
use Rattle.ghcn_series.proofs.series.Series.next_block.Goals as goal

-- the days of a series rise
pub returns-clause-least : goal.returns-clause-least
returns-clause-least c =
    let same = ap (λ (u : Series). u.days) c.self.view_is in
    next-is c.args.self.now.days c.args.number c.next_block.result
    (ap is_by_day (sym same) ∙ c.self.invariant.by_day) (c.next_block.ensures
    ∙ ap (λ (z : ℤ). next_block c.self.inside.columns z) (to_z-of_z w32 c.args.number c.ranges.number)
    ∙ ap (λ (days : List DayValue). next_block days c.args.number) same)

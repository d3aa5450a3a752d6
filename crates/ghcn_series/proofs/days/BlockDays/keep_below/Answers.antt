use Rattle.ghcn_series.proofs.Cited.{rules, ◌-◌, w32, int_lt, to_z-of_z}
use Rattle.ghcn_series.proofs.PartDays.{some-bits}
use Rattle.ghcn_series.proofs.RunDays.{kept-days, places-below}
use Rattle.ghcn_series.proofs.days.BlockDays.keep_below.Goals as goal

-- the days that stay are in the calendar
pub invariant_of-self : goal.invariant_of-self
invariant_of-self c = some-bits c.self.inside.number c.self.inside.left _ c.self.invariant

-- they are those whose values pass
pub returns : goal.returns
returns c = rw (← c.self.view_is) (kept-days (λ v. int_lt v c.args.limit) c.self.inside.number c.self.inside.values.now
    c.self.inside.left (4294967295 - c.places_from.result)
    (places-below c.args.limit c.self.inside.values.now c.places_from.result (search rules)
    (rw (to_z-of_z w32 c.args.limit (search rules)) at c.places_from.ensures)))

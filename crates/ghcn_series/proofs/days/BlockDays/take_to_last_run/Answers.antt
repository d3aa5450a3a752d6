use Rattle.std.proofs.Common.{◌∙◌, ℕ, sym}
use Rattle.ghcn_series.proofs.CountedRuns.{takes-none, takes-to_last}
use Rattle.ghcn_series.proofs.FirstDays.{block-empty}
use Rattle.ghcn_series.proofs.PartDays.{some-bits, ones-left}
use Rattle.ghcn_series.proofs.days.BlockDays.take_to_last_run.Goals as goal

-- without a bit there is no day
pub returns-then-self-eq0 : goal.returns-then-self-eq0
returns-then-self-eq0 c = takes-none c.args.self.now (sym c.self.view_is
    ∙ block-empty c.self.inside.number c.self.inside.values.now c.self.inside.left c.if-self-eq0.true)

-- the days that stay are in the calendar
pub invariant_of-self : goal.invariant_of-self
invariant_of-self c = some-bits c.self.inside.number c.self.inside.left _ c.self.invariant

-- what is taken are the runs before the last one
pub returns : goal.returns
returns c =
    let s : ℕ = c.start_of_last_run.result in
    let counted = rw c.first_places-before.ensures at c.runs_of.ensures in
    rw (← c.self.view_is, c.first_places-before.ensures, ones-left s)
    (takes-to_last c.self.inside.number c.self.inside.values.now c.self.inside.left s c.start_of_last_run.ensures
    c.runs_of.result counted)

use Rattle.ghcn_series.proofs.BlockExtremes.{extremes-got}
use Rattle.ghcn_series.proofs.columns.extremes_at.Goals as goal

-- what is held at the place is of the block there
pub returns-in-Some : goal.returns-in-Some
returns-in-Some c = λ words values has.
    rw c.copied.ensures (extremes-got words values c.in-Some.extremes.items c.args.place c.get.result
    (rw c.deref.ensures.value at c.get.ensures.lookup.0) (rw c.deref.ensures.value at c.get.ensures.lookup.1)
    (rw c.in-Some.is at has))

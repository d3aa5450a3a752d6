use Rattle.ghcn_series.proofs.days.Days.of.Goals as goal

-- the days are those of the columns
pub returns : goal.returns
returns c = rw c.none.ensures

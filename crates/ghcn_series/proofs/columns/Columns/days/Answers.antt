use Rattle.ghcn_series.proofs.RisingDays.{columns-rise}
use Rattle.ghcn_series.proofs.columns.Columns.days.Goals as goal

-- the days of columns rise
pub returns-clause-rising : goal.returns-clause-rising
returns-clause-rising c = rw (← c.self.view_is) (columns-rise _ _ _ c.self.invariant.columns)

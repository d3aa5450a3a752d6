use Rattle.ghcn_series.proofs.BlockExtremes.{columns-days}
use Rattle.ghcn_series.proofs.columns.Columns.hold_extremes.Goals as goal

-- each block has a day
pub extremes_of-requires : goal.extremes_of-requires
extremes_of-requires c = rw (c.deref.ensures.value, c.deref-2.ensures.value) (columns-days _ _ _ c.self.invariant.columns)

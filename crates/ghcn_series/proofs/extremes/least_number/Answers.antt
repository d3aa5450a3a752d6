use Rattle.ghcn_series.proofs.Cited.{get_or, to_z, of_z, SFits, w32, arith, rules, below_more, to_z-of_z}
use Rattle.ghcn_series.proofs.BlockExtremes.{min-one}
use Rattle.ghcn_series.proofs.extremes.least_number.Goals as goal

-- with one more value
pub loop-value-preserved : goal.loop-value-preserved
loop-value-preserved c = search (rules, arith, SFits, w32, get_or, to_z, of_z, to_z-of_z, min-one, below_more)

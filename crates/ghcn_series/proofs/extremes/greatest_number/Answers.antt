use Rattle.ghcn_series.proofs.Cited.{get_or, to_z, of_z, SFits, w32, arith, rules, below_more, to_z-of_z}
use Rattle.ghcn_series.proofs.BlockExtremes.{max-one}
use Rattle.ghcn_series.proofs.extremes.greatest_number.Goals as goal

-- with one more value
pub loop-value-preserved : goal.loop-value-preserved
loop-value-preserved c = search (rules, arith, SFits, w32, get_or, to_z, of_z, to_z-of_z, max-one, below_more)

use Rattle.std.proofs.Common.{◌∙◌, pos, refl}
use Rattle.ghcn_series.proofs.FirstDays.{block-empty}
use Rattle.ghcn_series.proofs.days.BlockDays.none.Goals as goal

-- a word without a bit has no day
pub returns : goal.returns
returns c = c.of.ensures ∙ block-empty (pos 0) _ 0 refl

use Rattle.ghcn_series.proofs.UnlistedLines.{unlisted-add-up}
use Rattle.ghcn_series.proofs.laws.unlisted_add_up.Goals as goal

-- part by part
pub returns : goal.returns
returns c = unlisted-add-up

use Rattle.ghcn_series.proofs.RightData.{data-are-right, lists-are-right}
use Rattle.ghcn_series.proofs.laws.data_are_right.Goals as goal

-- by the lines, one after the other
pub returns-clause-listed : goal.returns-clause-listed
returns-clause-listed c = lists-are-right

-- and by the months on them
pub returns-clause-held : goal.returns-clause-held
returns-clause-held c = data-are-right

use Rattle.rank_table.proofs.Unlisted.{unlisted_refused}
use Rattle.rank_table.proofs.laws.unlisted_rows_are_refused.Goals as goal

-- both directions
pub returns : goal.returns
returns c = unlisted_refused

use Rattle.rank_table.proofs.ReadBack.{tables_read_back}
use Rattle.rank_table.proofs.laws.tables_are_read_back.Goals as goal

-- a record is read back as it was written
pub returns : goal.returns
returns c = tables_read_back

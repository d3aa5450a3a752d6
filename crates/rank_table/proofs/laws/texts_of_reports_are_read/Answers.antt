use Rattle.rank_table.proofs.Places.{rows_are_there}
use Rattle.rank_table.proofs.Texts.{reports_are_read, texts_go_wrong}
use Rattle.rank_table.proofs.laws.texts_of_reports_are_read.Goals as goal

-- both directions
pub returns-clause-read : goal.returns-clause-read
returns-clause-read c = reports_are_read

-- and the place of an error
pub returns-clause-wrong : goal.returns-clause-wrong
returns-clause-wrong c = texts_go_wrong

-- and the place of each row
pub returns-clause-there : goal.returns-clause-there
returns-clause-there c = rows_are_there

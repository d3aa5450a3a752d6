use Rattle.ghcn_description.proofs.AddedCounts.{descriptions-add_up}
use Rattle.ghcn_description.proofs.AddedLines.{lines-add_up}
use Rattle.ghcn_description.proofs.laws.lines_add_up.Goals as goal

-- each line is counted once
pub returns-clause-lines : goal.returns-clause-lines
returns-clause-lines c = lines-add_up

-- and what is counted is described
pub returns-clause-described : goal.returns-clause-described
returns-clause-described c = descriptions-add_up

use Rattle.ghcn_description.proofs.LinesOfCodes.{nothing-counted}
use Rattle.ghcn_description.proofs.others.Others.new.Goals as goal

-- no line has another code
pub returns : goal.returns
returns c = rw c.new.ensures.items nothing-counted

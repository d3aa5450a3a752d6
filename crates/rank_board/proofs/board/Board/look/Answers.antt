use Rattle.std.proofs.Common.{rules}
use Rattle.rank_board.proofs.StepsAllowed.{look_allowed}
use Rattle.rank_board.proofs.board.Board.look.Goals as goal

-- a look may be taken at any time
pub load-requires : goal.load-requires
load-requires c = (search rules, search rules, look_allowed _ _ _ _)

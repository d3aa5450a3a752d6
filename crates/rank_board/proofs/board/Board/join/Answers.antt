use Rattle.std.proofs.Common.{rules}
use Rattle.rank_board.proofs.StepsAllowed.{join_allowed, count_allowed}
use Rattle.rank_board.proofs.board.Board.join.Goals as goal

-- a join may be taken at any time
pub join_seat-requires : goal.join_seat-requires
join_seat-requires c = (search rules, search rules, search rules, search rules, join_allowed _ _ _ _ _)

-- and so may the load that shows that the rights fit
pub load-requires : goal.load-requires
load-requires c = (search rules, search rules, count_allowed _ _ _ _)

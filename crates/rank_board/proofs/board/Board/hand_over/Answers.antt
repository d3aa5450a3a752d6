use Rattle.std.proofs.Common.{rules, arith}
use Rattle.rank_board.proofs.StepsAllowed.{split_allowed}
use Rattle.rank_board.proofs.board.Board.hand_over.Goals as goal

-- a split may be taken, since the seat has that many rights
pub split_seat-requires : goal.split_seat-requires
split_seat-requires g c =
    (search rules, search rules, split_allowed _ _ _ _ (omega (arith, c.requires.seat.counted, c.requires.part)))

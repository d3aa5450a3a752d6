use Rattle.std.proofs.Common.{rules, arith}
use Rattle.rank_board.proofs.StepsAllowed.{claim_allowed}
use Rattle.rank_board.proofs.board.Board.claim_one_of.Goals as goal

-- a claim may be taken, since a right is left and as many rights are counted
pub fetch_add-requires : goal.fetch_add-requires
fetch_add-requires g c =
    (search rules, search rules, claim_allowed _ _ _ _ _ c.requires.all (omega (arith, c.requires.seat.counted)))

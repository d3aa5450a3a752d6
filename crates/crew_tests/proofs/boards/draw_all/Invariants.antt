use Rattle.std.proofs.Common.{◌≡◌, ◌+◌, length, map, pos}
use Rattle.rank_board.specs.Seats.{claims_of, raised_of, rights_of, IsSeatOf}
use Rattle.crew_tests.proofs.boards.draw_all.Given as goal

-- each right was spent on a claim or is left, and each number claimed was raised
abbrev pub invariant-loop-seat : goal.invariant-loop-seat
invariant-loop-seat l = record {
  mine : IsSeatOf l.board l.seat;
  count : length (claims_of l.seat) + rights_of l.seat ≡ length (claims_of l.fn.seat) + rights_of l.fn.seat;
  raised : raised_of l.seat ≡ map pos (claims_of l.seat);
}

-- the rights left
abbrev pub decreases-loop-seat : goal.decreases-loop-seat
decreases-loop-seat l = rights_of l.seat

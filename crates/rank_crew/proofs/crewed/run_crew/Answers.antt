use Rattle.std.proofs.Common.{◌≡◌, ◌+◌, length, ap, arith}
use Rattle.rank_board.specs.Seats.{claims_of, rights_of, opened}
use Rattle.rank_sched.specs.Task.{task_of}
use Rattle.rank_crew.proofs.Whole.{is_end_if}
use Rattle.rank_crew.proofs.crewed.run_crew.Goals as goal

-- the seat has come back whole, so the hauls are sound and under the floor
pub returns : goal.returns
returns g c =
    let s = c.part-seat.ensures in
    let seat = c.part-seat.result.0 in
    let whole : length (claims_of seat) + rights_of seat ≡ opened c.in_ok-board.board =
    omega (
      arith,
      s.kept.kept,
      ap length c.in_ok-board.ensures.opens.claims,
      c.in_ok-board.ensures.opens.rights_given,
      c.in_ok-board.ensures.opens.all_rights,
    ) in
    is_end_if c.in_ok-board.board (task_of c.args.plan.now) c.args.guess c.args.workers _ c.in_ok-board.seat seat
    c.close.result c.in_ok-board.ensures.opens (c.close.ensures.whole whole) c.requires.some (λ v. v.items)
    c.part-seat.result.1 s.gathers

use Rattle.rank_board.specs.Seats.{rights_of, guess_of}
use Rattle.rank_sched.specs.Task.{task_of}
use Rattle.rank_crew.specs.Workers.{IsKept}
use Rattle.rank_crew.proofs.Turning.{IsMidway}
use Rattle.rank_crew.proofs.worker.work.Given as goal

-- the worker is between two turns
abbrev pub invariant-loop-seat : goal.invariant-loop-seat
invariant-loop-seat g l = record {
  kept : IsKept l.board l.fn.seat l.seat;
  midway : IsMidway (task_of l.plan) (guess_of l.board) l.worker l.fn.seat l.seat l.haul;
}

-- each claim spends a right
abbrev pub decreases-loop-seat : goal.decreases-loop-seat
decreases-loop-seat g l = rights_of l.seat

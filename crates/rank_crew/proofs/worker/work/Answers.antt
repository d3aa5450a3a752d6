use Rattle.std.proofs.Common.{◌<◌, ◌≤◌, ◌∷◌, [], length, length-append, ap, ◌∙◌, arith}
use Rattle.rank_board.specs.Seats.{claims_of, guess_of}
use Rattle.rank_sched.specs.Task.{task_of}
use Rattle.rank_crew.proofs.Begins.{begins_more, begins_through, begins_after}
use Rattle.rank_crew.proofs.Turning.{few_records, midway_next, works, breaks}
use Rattle.rank_crew.proofs.worker.work.Goals as goal

-- a right is left for the claim past the last morsel
pub claim-morsel-requires-clause-right : goal.claim-morsel-requires-clause-right
claim-morsel-requires-clause-right g c =
    let m = c.loop-seat.invariant.midway in
    omega (
      arith,
      few_records (task_of c.args.plan.now) (guess_of c.args.board.now) c.args.worker c.args.seat
          c.loop-seat.seat c.loop-seat.haul m,
      m.count,
      c.requires.rights,
    )

-- past the last morsel the worker has done its work
pub returns-then-morsel-len-clause-works : goal.returns-then-morsel-len-clause-works
returns-then-morsel-len-clause-works g c =
    let past : (task_of c.args.plan.now).len ≤ c.claim-morsel.result = omega arith in
    works c.args.board.now (task_of c.args.plan.now) c.args.worker c.claim-morsel.result c.args.seat c.loop-seat.seat
    c.claim-morsel.new.seat c.loop-seat.haul c.loop-seat.invariant.midway c.claim-morsel.ensures.claims past

-- one turn further
pub loop-seat-preserved : goal.loop-seat-preserved
loop-seat-preserved g c =
    let i = c.loop-seat.invariant in
    let n = c.claim-morsel.ensures.claims in
    let e = c.in_default.ensures in
    let low : c.claim-morsel.result < (task_of c.args.plan.now).len = omega arith in
    record {
      kept = record {
        mine = e.kept.mine;
        claims = begins_through i.kept.claims (begins_more _ (e.kept.claims ∙ n.claims));
        raised = begins_through i.kept.raised (begins_after n.raised e.kept.raised);
        kept = omega (
          arith,
          ap length (e.kept.claims ∙ n.claims),
          length-append (claims_of c.loop-seat.seat) (c.claim-morsel.result ∷ []),
          e.kept.rights,
          n.spends,
          i.kept.kept,
        );
      };
      midway = midway_next c.args.board.now (task_of c.args.plan.now) c.args.worker c.claim-morsel.result c.args.seat
          c.loop-seat.seat c.claim-morsel.new.seat c.take_turn.new.seat c.loop-seat.haul c.take_turn.new.haul i.midway n
          e.kept e.settles low;
    }

-- in a turn that met out of memory a morsel was drawn and the floor looked at, and nothing more was raised
pub returns-in-Err-take_turn-clause-breaks : goal.returns-in-Err-take_turn-clause-breaks
returns-in-Err-take_turn-clause-breaks g c =
    breaks (task_of c.args.plan.now) (guess_of c.args.board.now) c.args.board.now c.args.worker c.claim-morsel.result
    c.args.seat c.loop-seat.seat c.claim-morsel.new.seat c.take_turn.new.seat c.loop-seat.haul
    c.loop-seat.invariant.midway c.claim-morsel.ensures.claims c.in-Err-take_turn.ensures.kept
    c.in-Err-take_turn.ensures.err

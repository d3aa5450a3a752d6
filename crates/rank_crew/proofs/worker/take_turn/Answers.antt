use Rattle.std.proofs.Common.{◌≡◌, ◌++◌, refl, ℤ, Option, Some, to_z, of_z, rules, ap, sym, ◌∙◌, append-nil}
use Rattle.std.proofs.Common.{option_to_list}
use mir.Syntax.{w64}
use Rattle.rank_board.specs.Seats.{raised_of}
use Rattle.rank_sched.specs.Task.{task_of}
use Rattle.rank_crew.proofs.Settling.{settles, score_to_raise}
use Rattle.rank_crew.proofs.worker.take_turn.Goals as goal

-- the score can be a floor
pub raise-requires-clause-score : goal.raise-requires-clause-score
raise-requires-clause-score c =
    let s : ℤ = to_z w64 (of_z w64 c.in-Some.score) in
    let same : s ≡ c.in-Some.score = search rules in
    score_to_raise c.args.board.now (task_of c.args.plan.now) c.args.worker c.args.morsel c.args.seat.now
    c.look-seen.new.seat c.args.haul.now c.settle.new.self _ c.in_ok-score.field-0 c.record_of-record.result c.requires
    c.record_of-record.ensures c.look-seen.ensures.looks c.in_ok-score.ensures.settled c.in_ok-score.ensures.raised s
    (c.in-Some.is ∙ ap (λ (x : ℤ). Some x) (sym same))

-- what the record stands for is raised
pub returns-in-Some-clause-settles : goal.returns-in-Some-clause-settles
returns-in-Some-clause-settles c =
    let s : ℤ = to_z w64 (of_z w64 c.in-Some.score) in
    let same : s ≡ c.in-Some.score = search rules in
    settles c.args.board.now (task_of c.args.plan.now) c.args.worker c.args.morsel c.args.seat.now
    c.look-seen.new.seat c.args.haul.now c.settle.new.self _ c.in_ok-score.field-0 c.record_of-record.result c.requires
    c.record_of-record.ensures c.look-seen.ensures.looks c.in_ok-score.ensures.settled c.in_ok-score.ensures.raised
    c.raise.new.seat
    (c.raise.ensures.raises.raised ∙ ap (λ (o : Option ℤ). raised_of c.look-seen.new.seat ++ option_to_list o)
    (ap (λ (x : ℤ). Some x) same ∙ sym c.in-Some.is))
    c.raise.ensures.raises.seen

-- if it stands for no score, nothing is raised
pub returns-in_default-clause-settles : goal.returns-in_default-clause-settles
returns-in_default-clause-settles c =
    settles c.args.board.now (task_of c.args.plan.now) c.args.worker c.args.morsel c.args.seat.now
    c.look-seen.new.seat c.args.haul.now c.settle.new.self _ c.in_ok-score.field-0 c.record_of-record.result c.requires
    c.record_of-record.ensures c.look-seen.ensures.looks c.in_ok-score.ensures.settled c.in_ok-score.ensures.raised
    c.look-seen.new.seat
    (sym (append-nil (raised_of c.look-seen.new.seat))
    ∙ ap (λ (o : Option ℤ). raised_of c.look-seen.new.seat ++ option_to_list o) (sym c.in_default.is))
    refl

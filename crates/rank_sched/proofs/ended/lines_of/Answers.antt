use Rattle.rank_sched.proofs.Cited.{rules, refl, get_or, false, ◌≤◌, length, arith, answers_always, strictly}
use Rattle.rank_sched.proofs.Cited.{strictly_ranks, Line}
use Rattle.rank_sched.proofs.LineOrder.{lines_sorted, lines_more, lines_all}
use Rattle.rank_sched.proofs.ended.lines_of.Goals as goal

-- one line more
pub loop-morsel-preserved : goal.loop-morsel-preserved
loop-morsel-preserved c =
    lines_more c.args.skips.now c.args.plan.now.morsels c.loop-morsel.morsel
    (get_or c.args.skips.now c.loop-morsel.morsel false) _ _ c.line.result refl c.line.ensures
    c.in_ok-push.ensures.items c.loop-morsel.invariant

-- the sorted lines are the answer's
pub returns : goal.returns
returns c =
    let up = c.sort_unstable_by.ensures.sorted (strictly (λ (l : Line). l.id)) (strictly_ranks (λ (l : Line). l.id))
    (answers_always _ _ _ (λ f a r g called. search rules)) in
    let far : length c.args.plan.now.morsels ≤ c.loop-morsel.morsel =
    omega (arith, c.loop-morsel-test.false, c.len-morsel-end.ensures.morsels) in
    let all = lines_all c.args.skips.now c.args.plan.now.morsels c.loop-morsel.morsel c.loop-morsel.lines.items far
    c.loop-morsel.invariant in
    lines_sorted c.args.plan.now c.args.skips.now c.loop-morsel.lines.items _ c.len-morsel-end.ensures.planned all
    c.sort_unstable_by.ensures.permutation up

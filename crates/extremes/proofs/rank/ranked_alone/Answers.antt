use Rattle.std.proofs.Common.{rules, ap, ◌∙◌, subst}
use Rattle.std.proofs.lemmas.Result.{IfOk-weaker}
use Rattle.rank_query.specs.Meaning.Asked.{IsAsked}
use Rattle.rank_sched.specs.Plan.{Plan}
use Rattle.rank_input.proofs.Guesses.{guess_is_score}
use Rattle.extremes.proofs.Answering.{right_papers}
use Rattle.extremes.proofs.PlanAnswers.{crew_is_plan, papers_are, of_one_is}
use Rattle.extremes.proofs.rank.ranked_alone.Goals as goal

-- a guess that may be made is a score
pub run_alone-requires : goal.run_alone-requires
run_alone-requires c = search (rules, guess_is_score)

-- the answer of one worker is one of the plan
pub papers_of-requires : goal.papers_of-requires
papers_of-requires c = crew_is_plan _ _ _ _ c.in_ok-answer.ensures.answer

-- the report and the certificate of the plan are those of the query and the data, and right for them
pub returns-clause-right : goal.returns-clause-right
returns-clause-right c =
    let asked = subst IsAsked (ap (λ (p : Plan). p.query) (c.plan.view_is ∙ c.in_ok-plan.ensures))
    c.plan.invariant.asked in
    let laws = c.papers_are_found.ensures in
    IfOk-weaker c.papers_of.result _ _ (λ papers are.
    right_papers _ _ papers laws.report laws.certificate asked c.requires.contents
    (papers_are _ _ _ _ papers asked c.requires.contents c.in_ok-plan.ensures c.unlisted.ensures are))
    c.papers_of.ensures.plan

-- the certificate has the bounds of the series
pub returns-clause-bounds : goal.returns-clause-bounds
returns-clause-bounds c =
    let asked = subst IsAsked (ap (λ (p : Plan). p.query) (c.plan.view_is ∙ c.in_ok-plan.ensures))
    c.plan.invariant.asked in
    IfOk-weaker c.papers_of.result _ _ (λ papers are.
    (papers_are _ _ _ _ papers asked c.requires.contents c.in_ok-plan.ensures c.unlisted.ensures are).certificate)
    c.papers_of.ensures.plan

-- and they are printed from the one worker's answer
pub returns-clause-alone : goal.returns-clause-alone
returns-clause-alone c =
    IfOk-weaker c.papers_of.result _ _ (λ papers printed.
    of_one_is _ c.args.query.now c.args.dataset.now _ _ papers.certificate.items c.in_ok-plan.ensures
    c.in_ok-answer.ensures.answer c.in_ok-answer.ensures.alone printed)
    c.papers_of.ensures.printed

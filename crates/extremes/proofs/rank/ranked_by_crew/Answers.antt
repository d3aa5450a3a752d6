use Rattle.std.proofs.Common.{ap, ◌∙◌, subst}
use Rattle.rank_query.specs.Meaning.Asked.{IsAsked}
use Rattle.rank_sched.specs.Plan.{Plan}
use Rattle.rank_input.proofs.Crews.{some_workers, few_workers}
use Rattle.rank_input.proofs.Guesses.{guess_is_score}
use Rattle.extremes.proofs.Answering.{right_papers}
use Rattle.extremes.proofs.PlanAnswers.{crew_is_plan, papers_are, of_crew_is}
use Rattle.extremes.proofs.rank.ranked_by_crew.Goals as goal

-- there is a worker to measure
pub survey-requires-clause-some : goal.survey-requires-clause-some
survey-requires-clause-some g c κs within = some_workers c.args.workers c.requires.crew

-- and there are at most 64
pub survey-requires-clause-few : goal.survey-requires-clause-few
survey-requires-clause-few g c κs within = few_workers c.args.workers c.requires.crew

-- so it is with the workers that draw
pub crew-requires-clause-some : goal.crew-requires-clause-some
crew-requires-clause-some g c κs within = some_workers c.args.workers c.requires.crew

-- and those are at most 64 too
pub crew-requires-clause-few : goal.crew-requires-clause-few
crew-requires-clause-few g c κs within = few_workers c.args.workers c.requires.crew

-- a guess that may be made is a score
pub crew-requires-clause-guess : goal.crew-requires-clause-guess
crew-requires-clause-guess g c κs within = guess_is_score c.args.guess c.requires.guess

-- the answer of a crew is one of the plan
pub papers_of-requires : goal.papers_of-requires
papers_of-requires g c = crew_is_plan _ _ _ _ c.in_ok-answer.ensures.answer

-- the report and the certificate of the plan are those of the query and the data, and right for them
pub returns-clause-ok : goal.returns-clause-ok
returns-clause-ok g c =
    let asked = subst IsAsked (ap (λ (p : Plan). p.query) (c.plan.view_is ∙ c.in_ok-plan.ensures))
    c.plan.invariant.asked in
    right_papers _ _ c.in_ok-papers_of.field-0 c.papers_are_found.ensures.report
    c.papers_are_found.ensures.certificate asked c.requires.contents
    (papers_are _ _ _ _ c.in_ok-papers_of.field-0 asked c.requires.contents c.in_ok-plan.ensures c.unlisted.ensures
    c.in_ok-papers_of.ensures.plan)

-- and they are printed from the crew's answer, with the bounds of the series
pub returns-clause-crew : goal.returns-clause-crew
returns-clause-crew g c =
    let asked = subst IsAsked (ap (λ (p : Plan). p.query) (c.plan.view_is ∙ c.in_ok-plan.ensures))
    c.plan.invariant.asked in (
      (papers_are _ _ _ _ c.in_ok-papers_of.field-0 asked c.requires.contents c.in_ok-plan.ensures c.unlisted.ensures
          c.in_ok-papers_of.ensures.plan).certificate,
      of_crew_is _ c.args.query.now c.args.dataset.now _ _ _ c.in_ok-papers_of.field-0.certificate.items
          c.ends_are_sound.ensures.records c.in_ok-plan.ensures c.in_ok-answer.ensures.answer
          c.in_ok-papers_of.ensures.printed,
    )

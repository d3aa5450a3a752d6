use Rattle.std.proofs.lemmas.Result.{IfOk-weaker, IfErr-weaker}
use Rattle.rank_input.proofs.Questions.{memory_refuses}
use Rattle.extremes.proofs.rank.rank_intake.Goals as goal
use Rattle.extremes.proofs.Answering.{answers_input, crews_input, faultless_input}

-- the report and the certificate of what the query needs answer all that was given
pub returns-in-Ok-clause-ok : goal.returns-in-Ok-clause-ok
returns-in-Ok-clause-ok g c =
    IfOk-weaker c.ranked_by_crew-answer.result _ _ (λ papers are.
    answers_input c.args.question _ _ papers c.papers_of_one_element.ensures.right_report
    c.papers_of_one_element.ensures.right_certificate c.papers_are_said.ensures.report
    c.papers_are_said.ensures.certificate c.in-Ok.ensures.ok are)
    c.ranked_by_crew-answer.ensures.ok

-- out of memory is a refusal of any input
pub returns-in-Ok-clause-err : goal.returns-in-Ok-clause-err
returns-in-Ok-clause-err g c =
    IfErr-weaker c.ranked_by_crew-answer.result _ _ (memory_refuses c.args.question) c.ranked_by_crew-answer.ensures.err

-- and they are those of a crew for all that was given
pub returns-in-Ok-clause-crew : goal.returns-in-Ok-clause-crew
returns-in-Ok-clause-crew g c =
    IfOk-weaker c.ranked_by_crew-answer.result _ _ (λ papers are.
    crews_input c.args.question c.args.workers c.args.guess _ _ papers c.one_element_is_enough.ensures.morsels
    c.papers_of_one_element.ensures.measured c.in-Ok.ensures.ok are.0 are.1)
    c.ranked_by_crew-answer.ensures.crew

-- which had no error
pub returns-in-Ok-clause-faultless : goal.returns-in-Ok-clause-faultless
returns-in-Ok-clause-faultless g c =
    IfOk-weaker c.ranked_by_crew-answer.result _ _ (λ papers are.
    faultless_input c.args.question _ _ c.in-Ok.ensures.ok) c.ranked_by_crew-answer.ensures.ok

-- and this is what it warns of
pub returns-in-Ok-clause-warnings : goal.returns-in-Ok-clause-warnings
returns-in-Ok-clause-warnings g c =
    IfOk-weaker c.ranked_by_crew-answer.result _ _ (λ papers are. c.in-Ok.ensures.warnings)
    c.ranked_by_crew-answer.ensures.ok

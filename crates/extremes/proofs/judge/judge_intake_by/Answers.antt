use Rattle.extremes.proofs.judge.judge_intake_by.Goals as goal
use Rattle.extremes.proofs.Answering.{judges_input}

-- the verdict is that on what was given
pub returns-clause-ok : goal.returns-clause-ok
returns-clause-ok g c =
    judges_input c.args.question c.in_ok-taken.taken.query c.in_ok-taken.taken.dataset c.args.report.now
    c.args.certificate.now c.in_ok-verdict.verdict c.papers_of_one_element.ensures.right_report
    c.papers_of_one_element.ensures.right_certificate
    c.papers_are_said.ensures.report c.papers_are_said.ensures.certificate
    c.verdict_of_one_element.ensures c.in_ok-taken.ensures.ok
    c.in_ok-verdict.ensures.verdict c.in_ok-verdict.ensures.accepted

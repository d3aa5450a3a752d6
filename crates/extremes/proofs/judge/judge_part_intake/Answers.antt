use Rattle.extremes.proofs.judge.judge_part_intake.Goals as goal
use Rattle.extremes.proofs.Answering.{judges_part}

-- the verdict is that on what was given
pub returns-clause-ok : goal.returns-clause-ok
returns-clause-ok c =
    judges_part c.args.question c.in_ok-taken.taken.query c.in_ok-taken.taken.dataset c.args.report.now
    c.args.certificate.now c.in_ok-verdict.verdict c.part_verdict_of_one_element.ensures c.in_ok-taken.ensures.ok
    c.in_ok-verdict.ensures.verdict

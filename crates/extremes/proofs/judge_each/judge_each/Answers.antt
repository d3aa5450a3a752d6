use Rattle.std.proofs.Common.{refl}
use Rattle.std.proofs.lemmas.Result.{err_from_is_err_and}
use Rattle.extremes.proofs.JudgeEachAnswers.{judged-taken, refused-taken, stopped-taken}
use Rattle.extremes.proofs.judge_each.judge_each.Goals as goal

-- the verdicts are those on all that was given
pub returns-in_ok-verdicts-in-Ok : goal.returns-in_ok-verdicts-in-Ok
returns-in_ok-verdicts-in-Ok g c =
    judged-taken c.args.papers.part (g.A.Archive.bytes_of c.args.archive.now) (g.A.Archive.opens c.args.archive.now)
    c.args.papers.folder.now c.args.intake c.args.queries.now c.own_element_among_others.ensures
    c.papers_of_one_element.ensures.right_report c.papers_of_one_element.ensures.right_certificate
    c.papers_are_said.ensures.report c.papers_are_said.ensures.certificate c.verdict_of_one_element.ensures
    c.part_verdict_of_one_element.ensures (c.in-Ok.dataset, c.in-Ok.warnings) c.in-Ok.ensures.ok
    c.in_ok-verdicts-in-Ok.verdicts c.in-Ok.warnings refl c.in_ok-verdicts-in-Ok.ensures.ok

-- or the checks stop at a report or a certificate
pub returns-in_err-verdicts-in-Ok : goal.returns-in_err-verdicts-in-Ok
returns-in_err-verdicts-in-Ok g c =
    let p = err_from_is_err_and c.from_residual.result c.from_residual.ensures.1 in
    rw (p.1, p.2) (stopped-taken c.args.papers.part (g.A.Archive.bytes_of c.args.archive.now)
    (g.A.Archive.opens c.args.archive.now) c.args.papers.folder.now c.args.intake c.args.queries.now
    c.own_element_among_others.ensures c.papers_of_one_element.ensures.right_report
    c.papers_of_one_element.ensures.right_certificate c.papers_are_said.ensures.report
    c.papers_are_said.ensures.certificate c.verdict_of_one_element.ensures c.part_verdict_of_one_element.ensures
    (c.in-Ok.dataset, c.in-Ok.warnings) c.in-Ok.ensures.ok
    c.in_err-verdicts-in-Ok.field-0.0 c.in_err-verdicts-in-Ok.ensures.stopped)

-- or the files have an error
pub returns-in-Err : goal.returns-in-Err
returns-in-Err g c =
    refused-taken c.args.papers.part (g.A.Archive.bytes_of c.args.archive.now) (g.A.Archive.opens c.args.archive.now)
    c.args.papers.folder.now c.args.intake c.args.queries.now c.in-Err.fault c.in-Err.ensures.err

use Rattle.std.proofs.lemmas.Result.{IfOk-weaker}
use Rattle.extremes.proofs.Answering.{accepted_right}
use Rattle.extremes.proofs.judge.judge_dataset_by.Goals as goal

-- a report and a certificate with what is found are accepted, and these are the right ones
pub returns-clause-accepted : goal.returns-clause-accepted
returns-clause-accepted g c =
    IfOk-weaker c.check_by.result _ _ (λ v accepted.
    accepted_right c.args.query.now c.args.dataset.now c.args.report.now c.args.certificate.now v
    c.papers_are_found.ensures.report c.papers_are_found.ensures.certificate c.k-k.ensures.asked
    c.stations-stations.ensures.contents accepted)
    c.check_by.ensures.accepted

use Rattle.std.proofs.Common.{◌≡◌, List, None, Option, sym, ap, ◌∙◌}
use Rattle.std.proofs.lemmas.Result.{IfOk-weaker}
use Rattle.ghcn_fields.specs.Faults.{first_failing}
use Rattle.rank_scores.specs.declared.candidate.Candidate.{Candidate}
use Rattle.rank_scores.specs.Morsels.{kth_of_query}
use Rattle.rank_papers.specs.Certificate.{kth_of_best}
use Rattle.rank_papers.specs.declared.paper.Row.{Row}
use Rattle.rank_papers.specs.ReportLines.{reported_in}
use Rattle.rank_papers.specs.CertificateLines.{certified_in}
use Rattle.rank_papers.specs.Papers.{of_rows, candidates_of}
use Rattle.rank_papers.proofs.FirstFailing.{not_some, some_decides, none_decides}
use Rattle.rank_check.specs.declared.refusal.Refusal.{Refusal}
use Rattle.rank_check.specs.Tests.{report_tests, certificate_tests, all_tests}
use Rattle.rank_check.proofs.KthScores.{kth_known}
use Rattle.rank_check.proofs.judge.judge_by_findings.Goals as goal

-- a test of the report fails
pub returns-then-is_some : goal.returns-then-is_some
returns-then-is_some c =
    let q = c.args.query.now in
    let r = report_tests q c.args.dataset.now (reported_in c.args.report.now) in
    let rows : List Candidate = of_rows (reported_in c.args.report.now).rows in
    let z = certificate_tests q c.args.dataset.now rows (certified_in c.args.certificate.now) in
    some_decides r z c.report_fault-fault.result c.report_fault-fault.ensures
    (sym c.is_some.ensures ∙ c.if-is_some.true)

-- the report passes, and the certificate decides
pub returns : goal.returns
returns c =
    let q = c.args.query.now in
    let dataset = c.args.dataset.now in
    let r = report_tests q dataset (reported_in c.args.report.now) in
    let rows : List Candidate = of_rows (reported_in c.args.report.now).rows in
    let z = certificate_tests q dataset rows (certified_in c.args.certificate.now) in
    let unseen = sym c.is_some.ensures ∙ c.if-is_some.false in
    let none : first_failing r ≡ None =
    sym c.report_fault-fault.ensures ∙ not_some c.report_fault-fault.result unseen in
    let apart = c.candidates_of_queries.ensures.apart q dataset c.stations-stations.ensures.contents in
    let kth : c.kth_score-kth.result ≡ kth_of_query q dataset =
    c.kth_score-kth.ensures.kth
    ∙ ap (λ (l : List Row). kth_of_best q.k (candidates_of l)) c.as_slice-rows.ensures.value
    ∙ kth_known c.certificates_are_read.ensures.read q dataset c.kth_score-kth.ensures.asked apart
    (reported_in c.args.report.now) c.requires.can_be none in
    let lent : candidates_of c.as_slice-rows.result.now ≡ of_rows (reported_in c.args.report.now).rows =
    ap candidates_of c.as_slice-rows.ensures.value in
    IfOk-weaker c.certificate_fault.result _
    (λ (fault : Option Refusal). fault
    ≡ first_failing (all_tests q dataset (reported_in c.args.report.now) (certified_in c.args.certificate.now)))
    (λ fault is. is dataset kth c.requires.found.tops
    ∙ ap (λ (l : List Candidate). first_failing (certificate_tests q dataset l (certified_in c.args.certificate.now)))
    lent
    ∙ none_decides r z c.report_fault-fault.result c.report_fault-fault.ensures unseen)
    c.certificate_fault.ensures

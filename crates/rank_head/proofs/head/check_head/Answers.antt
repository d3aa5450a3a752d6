use Rattle.std.proofs.Common.{◌≡◌, Option, sym, subst}
use Rattle.std.proofs.lemmas.Result.{IfOk-weaker}
use Rattle.rank_papers.specs.ReportLines.{Reported, reported_in}
use Rattle.rank_papers.specs.Certificate.{Certified}
use Rattle.rank_papers.specs.CertificateLines.{certified_in}
use Rattle.rank_head.specs.declared.fault.HeadFault.{HeadFault}
use Rattle.rank_head.specs.HeadTests.{head_fault}
use Rattle.rank_head.specs.RightHead.{IsNoneWhereRight}
use Rattle.rank_head.proofs.head.check_head.Goals as goal

-- no test fails if and only if the head is right
pub returns-clause-right : goal.returns-clause-right
returns-clause-right c =
    let q = c.args.query.now in
    let r : Reported = reported_in c.args.report.now in
    let z : Certified = certified_in c.args.certificate.now in
    IfOk-weaker c.head_fault.result (λ (fault : Option HeadFault). fault ≡ head_fault q r z) (IsNoneWhereRight q r z)
    (λ fault e. subst (IsNoneWhereRight q r z) (sym e) (c.heads_are_right.ensures.right q r z c.k-k.ensures.asked))
    c.head_fault.ensures

use Rattle.std.proofs.Common.{ℕ, List, [], ◌∷◌, true, refl, subst}
use Rattle.std.proofs.lemmas.Result.{err_from_is_err_and}
use Rattle.rank_input.specs.Feeding.{AreAllOf}
use Rattle.extremes.specs.JudgeEach.{StopsJudging}
use Rattle.extremes.specs.PaperPaths.{certificate_path, report_path}
use Rattle.extremes.proofs.JudgeEachPapers.{stop-before, stop-later}
use Rattle.extremes.proofs.checked_papers.read_papers.Goals as goal

-- both are read whole
pub returns-clause-read : goal.returns-clause-read
returns-clause-read g c =
    let bytes_of = g.A.Archive.bytes_of c.args.archive.now in (
      subst (λ (p : List ℕ). AreAllOf (bytes_of p) c.in_ok-report.report.items) c.in_ok-named.ensures
          c.in_ok-report.ensures.read,
      subst (λ (p : List ℕ). AreAllOf (bytes_of p) c.in_ok-certificate.certificate.items) c.in_ok-named-2.ensures
          c.in_ok-certificate.ensures.read,
    )

-- both are opened
pub returns-clause-opened : goal.returns-clause-opened
returns-clause-opened g c =
    let opens = g.A.Archive.opens c.args.archive.now in (
      subst (λ (p : List ℕ). opens p true) c.in_ok-named.ensures c.in_ok-report.ensures.opened,
      (subst (λ (p : List ℕ). opens p true) c.in_ok-named-2.ensures c.in_ok-certificate.ensures.opened, tt),
    )

-- or the report can't be
pub returns-in_err-report-clause-stopped : goal.returns-in_err-report-clause-stopped
returns-in_err-report-clause-stopped g c =
    let opens = g.A.Archive.opens c.args.archive.now in
    let p = err_from_is_err_and c.from_residual-in_err-report.result c.from_residual-in_err-report.ensures.1 in
    rw (p.1, p.2) (stop-before opens (report_path c.args.folder.now c.args.number ∷ [])
    (certificate_path c.args.folder.now c.args.number ∷ []) c.in_err-report.field-0.0
    (subst (λ (at : List ℕ). StopsJudging opens (at ∷ []) c.in_err-report.field-0.0) c.in_ok-named.ensures
    c.in_err-report.ensures.stopped))

-- or the certificate
pub returns-in_err-certificate-clause-stopped : goal.returns-in_err-certificate-clause-stopped
returns-in_err-certificate-clause-stopped g c =
    let opens = g.A.Archive.opens c.args.archive.now in
    let p = err_from_is_err_and c.from_residual-in_err-certificate.result
    c.from_residual-in_err-certificate.ensures.1 in
    rw (p.1, p.2) (stop-later opens (report_path c.args.folder.now c.args.number)
    (certificate_path c.args.folder.now c.args.number ∷ []) c.in_err-certificate.field-0.0
    (subst (λ (at : List ℕ). opens at true) c.in_ok-named.ensures c.in_ok-report.ensures.opened)
    (subst (λ (at : List ℕ). StopsJudging opens (at ∷ []) c.in_err-certificate.field-0.0)
    c.in_ok-named-2.ensures c.in_err-certificate.ensures.stopped))

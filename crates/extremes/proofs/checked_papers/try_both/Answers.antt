use Rattle.std.proofs.Common.{ℕ, List, [], ◌∷◌, true, refl, subst}
use Rattle.std.proofs.lemmas.Result.{err_from_is_err_and}
use Rattle.extremes.specs.JudgeEach.{StopsJudging}
use Rattle.extremes.specs.PaperPaths.{certificate_path, report_path}
use Rattle.extremes.proofs.JudgeEachPapers.{stop-before, stop-later}
use Rattle.extremes.proofs.checked_papers.try_both.Goals as goal

-- both are opened
pub returns-clause-opened : goal.returns-clause-opened
returns-clause-opened g c =
    let opens = g.A.Archive.opens c.args.archive.now in (
      subst (λ (p : List ℕ). opens p true) c.in_ok-report.ensures c.in_ok-try_paper.ensures.opened,
      (subst (λ (p : List ℕ). opens p true) c.in_ok-certificate.ensures c.in_ok-try_paper-2.ensures.opened, tt),
    )

-- or the report can't be
pub returns-in_err-try_paper-clause-stopped : goal.returns-in_err-try_paper-clause-stopped
returns-in_err-try_paper-clause-stopped g c =
    let opens = g.A.Archive.opens c.args.archive.now in
    let p = err_from_is_err_and c.from_residual-in_err-try_paper.result c.from_residual-in_err-try_paper.ensures.1 in
    rw (p.1, p.2) (stop-before opens (report_path c.args.folder.now c.args.number ∷ [])
    (certificate_path c.args.folder.now c.args.number ∷ []) c.in_err-try_paper.field-0.0
    (subst (λ (at : List ℕ). StopsJudging opens (at ∷ []) c.in_err-try_paper.field-0.0) c.in_ok-report.ensures
    c.in_err-try_paper.ensures.stopped))

-- or the certificate
pub returns-in_err-try_paper-2-clause-stopped : goal.returns-in_err-try_paper-2-clause-stopped
returns-in_err-try_paper-2-clause-stopped g c =
    let opens = g.A.Archive.opens c.args.archive.now in
    let p = err_from_is_err_and c.from_residual-in_err-try_paper-2.result
    c.from_residual-in_err-try_paper-2.ensures.1 in
    rw (p.1, p.2) (stop-later opens (report_path c.args.folder.now c.args.number)
    (certificate_path c.args.folder.now c.args.number ∷ []) c.in_err-try_paper-2.field-0.0
    (subst (λ (at : List ℕ). opens at true) c.in_ok-report.ensures c.in_ok-try_paper.ensures.opened)
    (subst (λ (at : List ℕ). StopsJudging opens (at ∷ []) c.in_err-try_paper-2.field-0.0)
    c.in_ok-certificate.ensures c.in_err-try_paper-2.ensures.stopped))

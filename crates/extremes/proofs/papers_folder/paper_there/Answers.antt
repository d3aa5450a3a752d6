use Rattle.std.proofs.Common.{ℕ, List, true, false, sym, subst}
use Rattle.std.specs.Prelude.{string_bytes}
use Rattle.extremes.specs.PaperPaths.{certificate_path, report_path}
use Rattle.extremes.specs.PapersFolder.{IsFoundFirst, paths_of}
use Rattle.extremes.proofs.PaperPaths.{found-by, one-found, other-found}
use Rattle.extremes.proofs.papers_folder.paper_there.Goals as goal

-- the certificate's file is there
pub returns-then-is_there : goal.returns-then-is_there
returns-then-is_there g c =
    let exists = g.T.Target.exists c.args.target.now in
    let certificate = certificate_path c.args.folder.now c.args.number in
    let report = report_path c.args.folder.now c.args.number in
    subst (λ (p : List ℕ). IsFoundFirst exists (paths_of c.args.folder.now c.args.number) p)
    (sym c.in_ok-certificate.ensures)
    (one-found exists certificate report
    (found-by exists c.deref.result.now (string_bytes c.in_ok-certificate.certificate) certificate c.is_there.result true
    c.deref.ensures c.in_ok-certificate.ensures c.if-is_there.true c.is_there.ensures))

-- or that of the report is
pub returns-then-is_there-2 : goal.returns-then-is_there-2
returns-then-is_there-2 g c =
    let exists = g.T.Target.exists c.args.target.now in
    let certificate = certificate_path c.args.folder.now c.args.number in
    let report = report_path c.args.folder.now c.args.number in
    subst (λ (p : List ℕ). IsFoundFirst exists (paths_of c.args.folder.now c.args.number) p)
    (sym c.in_ok-report.ensures)
    (other-found exists certificate report
    (found-by exists c.deref.result.now (string_bytes c.in_ok-certificate.certificate) certificate c.is_there.result
    false c.deref.ensures c.in_ok-certificate.ensures c.if-is_there.false c.is_there.ensures)
    (found-by exists c.deref-2.result.now (string_bytes c.in_ok-report.report) report c.is_there-2.result true
    c.deref-2.ensures c.in_ok-report.ensures c.if-is_there-2.true c.is_there-2.ensures))

-- or neither is
pub returns : goal.returns
returns g c =
    let exists = g.T.Target.exists c.args.target.now in
    let certificate = certificate_path c.args.folder.now c.args.number in
    let report = report_path c.args.folder.now c.args.number in (
      found-by exists c.deref.result.now (string_bytes c.in_ok-certificate.certificate) certificate c.is_there.result
          false c.deref.ensures c.in_ok-certificate.ensures c.if-is_there.false c.is_there.ensures,
      (
        found-by exists c.deref-2.result.now (string_bytes c.in_ok-report.report) report c.is_there-2.result false
            c.deref-2.ensures c.in_ok-report.ensures c.if-is_there-2.false c.is_there-2.ensures,
        tt,
      ),
    )

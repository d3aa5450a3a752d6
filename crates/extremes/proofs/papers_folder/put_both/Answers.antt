use Rattle.std.proofs.Common.{ℕ, List, [], ◌∷◌, ap, sym, subst}
use Rattle.std.specs.Prelude.{None}
use Rattle.std.proofs.lemmas.Result.{IfErr-weaker, err_from_is_err_and, on_ok_weaker}
use Rattle.extremes.specs.PaperPaths.{certificate_path, report_path}
use Rattle.extremes.specs.PapersFolder.{PuttingStops}
use Rattle.extremes.specs.Targets.{ArePut, NewFile}
use Rattle.extremes.proofs.Puttings.{put-then, stops-first, stops-then}
use Rattle.extremes.proofs.papers_folder.put_both.Goals as goal

-- the certificate and the report are put
pub returns-clause-ok : goal.returns-clause-ok
returns-clause-ok g c =
    let creates = g.T.Target.creates in
    let abandons = g.T.Target.abandons in
    let contents = g.T.Write.contents in
    let old = c.args.target.now in
    let middle = c.put_paper.new.target in
    let new = c.put_paper-2.new.target in
    let first : NewFile = (certificate_path c.args.folder.now c.args.number, c.args.papers.now.certificate.items) in
    let second : NewFile = (report_path c.args.folder.now c.args.number, c.args.papers.now.report.items) in
    let was : ArePut creates abandons contents old middle (first ∷ []) None =
    subst (λ (t : List ℕ). ArePut creates abandons contents old middle
    ((certificate_path c.args.folder.now c.args.number, t) ∷ []) None) c.deref.ensures.value
    c.in_ok-put_paper.ensures.ok in
    on_ok_weaker c.put_paper-2.result (λ is. put-then creates abandons contents old middle new (first ∷ []) (second ∷ [])
    None was (subst (λ (t : List ℕ). ArePut creates abandons contents middle new
    ((report_path c.args.folder.now c.args.number, t) ∷ []) None) c.deref-2.ensures.value is)) c.put_paper-2.ensures.ok

-- or the report isn't
pub returns-clause-stopped : goal.returns-clause-stopped
returns-clause-stopped g c =
    let creates = g.T.Target.creates in
    let abandons = g.T.Target.abandons in
    let contents = g.T.Write.contents in
    let old = c.args.target.now in
    let middle = c.put_paper.new.target in
    let new = c.put_paper-2.new.target in
    let first : NewFile = (certificate_path c.args.folder.now c.args.number, c.args.papers.now.certificate.items) in
    let second : NewFile = (report_path c.args.folder.now c.args.number, c.args.papers.now.report.items) in
    let was : ArePut creates abandons contents old middle (first ∷ []) None =
    subst (λ (t : List ℕ). ArePut creates abandons contents old middle
    ((certificate_path c.args.folder.now c.args.number, t) ∷ []) None) c.deref.ensures.value
    c.in_ok-put_paper.ensures.ok in
    IfErr-weaker c.put_paper-2.result _ _ (λ stop is. stops-then creates abandons contents old middle new (first ∷ [])
    (second ∷ []) stop was (subst (λ (t : List ℕ). PuttingStops
    ((report_path c.args.folder.now c.args.number, t) ∷ []) (ArePut creates abandons contents middle new) stop)
    c.deref-2.ensures.value is)) c.put_paper-2.ensures.stopped

-- or the certificate isn't
pub returns-in_err-put_paper-clause-stopped : goal.returns-in_err-put_paper-clause-stopped
returns-in_err-put_paper-clause-stopped g c =
    let p = err_from_is_err_and c.from_residual.result c.from_residual.ensures.1 in
    let stores = ArePut g.T.Target.creates g.T.Target.abandons g.T.Write.contents c.args.target.now
    c.put_paper.new.target in
    rw (p.1, p.2) (stops-first
    ((certificate_path c.args.folder.now c.args.number, c.args.papers.now.certificate.items) ∷ [])
    ((report_path c.args.folder.now c.args.number, c.args.papers.now.report.items) ∷ []) stores
    c.in_err-put_paper.field-0.0
    (subst (λ (t : List ℕ). PuttingStops ((certificate_path c.args.folder.now c.args.number, t) ∷ []) stores
    c.in_err-put_paper.field-0.0) c.deref.ensures.value c.in_err-put_paper.ensures.stopped))

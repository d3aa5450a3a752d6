use Rattle.std.proofs.Common.{[], ◌∷◌, refl, ◌∙◌}
use Rattle.std.proofs.lemmas.Result.{err_from_is_err_and}
use Rattle.extremes.specs.PaperPaths.{paper_path}
use Rattle.extremes.proofs.Puttings.{fails-as, put-as, until-none}
use Rattle.extremes.proofs.papers_folder.put_paper.Goals as goal

-- the file is put whole
pub returns-then-put_new-clause-ok : goal.returns-then-put_new-clause-ok
returns-then-put_new-clause-ok g c =
    put-as g.T.Target.creates g.T.Target.abandons g.T.Write.contents c.args.target.now c.put_new.new.target
    c.deref.result.now (paper_path c.args.folder.now c.args.number c.args.kind.now) c.args.paper.now c.put_new.result
    (c.deref.ensures ∙ c.in_ok-path.ensures) c.if-put_new.true c.put_new.ensures

-- or it isn't
pub returns-else-put_new-clause-stopped : goal.returns-else-put_new-clause-stopped
returns-else-put_new-clause-stopped g c = (
  c.args.paper.now,
  fails-as g.T.Target.creates g.T.Target.abandons g.T.Write.contents c.args.target.now c.put_new.new.target
      c.deref.result.now (paper_path c.args.folder.now c.args.number c.args.kind.now) c.args.paper.now
      c.in_ok-path.path c.put_new.result c.deref.ensures c.in_ok-path.ensures c.if-put_new.false c.put_new.ensures,
)

-- or memory runs out for its path
pub returns-in_err-path-clause-stopped : goal.returns-in_err-path-clause-stopped
returns-in_err-path-clause-stopped g c =
    let p = err_from_is_err_and c.from_residual.result c.from_residual.ensures.1 in
    rw (p.1, p.2) (
      refl,
      until-none g.T.Target.creates g.T.Target.abandons g.T.Write.contents c.args.target.now
          ((paper_path c.args.folder.now c.args.number c.args.kind.now, c.args.paper.now) ∷ []),
    )

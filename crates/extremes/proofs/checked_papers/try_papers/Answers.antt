use Rattle.std.proofs.Common.{◌+◌, arith, refl}
use Rattle.std.proofs.lemmas.Result.{err_from_is_err_and}
use Rattle.extremes.proofs.JudgeEachPapers.{papers-all, papers-next, papers-stop}
use Rattle.extremes.proofs.checked_papers.try_papers.Goals as goal

-- those of one query more are opened
pub loop-at-preserved : goal.loop-at-preserved
loop-at-preserved g c =
    papers-next (g.A.Archive.opens c.args.archive.now) c.args.folder.now c.loop-at.at (c.loop-at.at + 1) refl
    c.loop-at.invariant c.in_ok-try_both.ensures.opened

-- or one of them can't be
pub returns-in_err-try_both-clause-stopped : goal.returns-in_err-try_both-clause-stopped
returns-in_err-try_both-clause-stopped g c =
    let p = err_from_is_err_and c.from_residual.result c.from_residual.ensures.1 in
    rw (p.1, p.2) (papers-stop (g.A.Archive.opens c.args.archive.now) c.args.folder.now c.loop-at.at (c.loop-at.at + 1)
    refl c.loop-at.invariant c.args.queries c.in_err-try_both.field-0.0 c.loop-at-test.true c.in_err-try_both.ensures.stopped)

-- all are
pub returns-clause-opened : goal.returns-clause-opened
returns-clause-opened g c =
    papers-all (g.A.Archive.opens c.args.archive.now) c.args.folder.now c.loop-at.at c.args.queries (omega arith)
    c.loop-at.invariant

use Rattle.std.proofs.Common.{◌+◌, [], length, sym, refl, arith}
use Rattle.std.proofs.lemmas.Result.{err_from_is_err_and}
use Rattle.extremes.specs.JudgeEach.{JudgesOver}
use Rattle.extremes.proofs.JudgeEachAnswers.{verdicts-all, verdicts-next}
use Rattle.extremes.proofs.JudgeEachPapers.{papers-next, papers-stop}
use Rattle.extremes.proofs.judge_each.verdicts_of_each.Goals as goal

-- at first there are none
pub loop-query-init : goal.loop-query-init
loop-query-init g c = record {
  so_far = record { judgements = []; judged = tt; lines = c.new.ensures.items; ending = refl };
  opened = tt;
  counted = refl;
}

-- one query more is judged
pub loop-query-preserved : goal.loop-query-preserved
loop-query-preserved g c =
    let opens = g.A.Archive.opens c.args.archive.now in
    let adds = c.in_ok-add_verdict.ensures.ok in
    let i = c.loop-query.query-index in
    let number = c.loop-query.number + 1 in
    record {
      so_far = verdicts-next (JudgesOver c.args.papers.part (g.A.Archive.bytes_of c.args.archive.now) opens
          c.args.papers.folder.now c.args.dataset.now) c.args.queries.now i number c.query-item.result
          c.loop-query.verdicts c.add_verdict.new.verdicts
          (omega (arith, c.loop-query.invariant.counted)) c.loop-query-test.true (sym c.query-item.is)
          c.loop-query.invariant.so_far adds;
      opened = papers-next opens c.args.papers.folder.now i number
          (omega (arith, c.loop-query.invariant.counted)) c.loop-query.invariant.opened adds.judged.opened;
      counted = omega (arith, c.loop-query.invariant.counted);
    }

-- or its report or its certificate can't be read
pub returns-in_err-add_verdict-clause-stopped : goal.returns-in_err-add_verdict-clause-stopped
returns-in_err-add_verdict-clause-stopped g c =
    let p = err_from_is_err_and c.from_residual.result c.from_residual.ensures.1 in
    rw (p.1, p.2) (papers-stop (g.A.Archive.opens c.args.archive.now) c.args.papers.folder.now c.loop-query.query-index
    (c.loop-query.number + 1) (omega (arith, c.loop-query.invariant.counted)) c.loop-query.invariant.opened
    (length c.args.queries.now) c.in_err-add_verdict.field-0.0 c.loop-query-test.true c.in_err-add_verdict.ensures.stopped)

-- all are judged
pub returns-clause-ok : goal.returns-clause-ok
returns-clause-ok g c =
    verdicts-all (JudgesOver c.args.papers.part (g.A.Archive.bytes_of c.args.archive.now)
    (g.A.Archive.opens c.args.archive.now) c.args.papers.folder.now c.args.dataset.now) c.args.queries.now
    c.loop-query.query-index c.loop-query.verdicts (omega (arith, c.loop-query-test.false))
    c.loop-query.invariant.so_far

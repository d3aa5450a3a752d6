use Rattle.std.proofs.Common.{refl, sym, arith}
use Rattle.std.proofs.lemmas.Result.{err_from_is_err_and}
use Rattle.extremes.proofs.EachRanked.{ranks-all, ranks-next, ranks-none, stops-next}
use Rattle.extremes.proofs.each.answer_each.Goals as goal

-- no query is ranked
pub loop-query-init : goal.loop-query-init
loop-query-init g c = record {
  ranked = ranks-none _ _ g.T.Target.creates g.T.Target.abandons g.T.Write.contents c.args.target.now
      c.new-reports.result.items c.new-reports.ensures.items;
  counted = refl;
}

-- one query more is ranked
pub loop-query-preserved : goal.loop-query-preserved
loop-query-preserved g c = record {
  ranked = ranks-next _ _ g.T.Target.creates g.T.Target.abandons g.T.Write.contents _ _ _ c.args.queries.now
      c.loop-query.query-index _ c.query-item.result _ _ c.loop-query-test.true
      (omega (arith, c.loop-query.invariant.counted)) (sym c.query-item.is) c.loop-query.invariant.ranked
      c.in_ok-answer_one.ensures.ok;
  counted = omega (arith, c.loop-query.invariant.counted);
}

-- all are
pub returns-clause-ok : goal.returns-clause-ok
returns-clause-ok g c =
    ranks-all _ _ g.T.Target.creates g.T.Target.abandons g.T.Write.contents _ _ c.args.queries.now
    c.loop-query.query-index _ (omega (arith, c.loop-query-test.false)) c.loop-query.invariant.ranked

-- or the rankings stop
pub returns-in_err-answer_one-clause-stopped : goal.returns-in_err-answer_one-clause-stopped
returns-in_err-answer_one-clause-stopped g c =
    let p = err_from_is_err_and c.from_residual.result c.from_residual.ensures.1 in
    rw (p.1, p.2) (stops-next _ _ g.T.Target.creates g.T.Target.abandons g.T.Write.contents _ _ _ c.args.queries.now
    c.loop-query.query-index _ c.query-item.result _ _ c.loop-query-test.true
    (omega (arith, c.loop-query.invariant.counted)) (sym c.query-item.is) c.loop-query.invariant.ranked
    c.in_err-answer_one.ensures.stopped)

use Rattle.std.proofs.Common.{true, false, arith, inr, sym}
use Rattle.extremes.specs.Targets.{IsPaper}
use Rattle.extremes.proofs.Comparing.{all-next, all-whole, any-here}
use Rattle.extremes.proofs.target.is_paper_or_output.Goals as goal

-- a report or a certificate of a part is found to be the certificate's file
pub returns-then-is_paper : goal.returns-then-is_paper
returns-then-is_paper g c =
    let shares = g.T.Target.one_file c.args.target.now c.args.out.now in
    inr (any-here (λ part. IsPaper shares part true) c.args.parts.now c.loop-part.part-index c.part-item.result
    c.loop-part-test.true (sym c.part-item.is) c.if-is_paper.ensures)

-- the report and the certificate of one part more are found to be others
pub loop-part-preserved : goal.loop-part-preserved
loop-part-preserved g c =
    let shares = g.T.Target.one_file c.args.target.now c.args.out.now in
    all-next (λ part. IsPaper shares part false) c.args.parts.now c.loop-part.part-index c.part-item.result
    c.loop-part-test.true (sym c.part-item.is) c.loop-part.invariant c.if-is_paper.ensures

-- the reports and certificates of all parts are found to be others
pub returns : goal.returns
returns g c =
    let shares = g.T.Target.one_file c.args.target.now c.args.out.now in (
      c.if-is_taken.ensures,
      all-whole (λ part. IsPaper shares part false) c.args.parts.now c.loop-part.part-index
          (omega (arith, c.loop-part-test.false)) c.loop-part.invariant,
    )

use Rattle.rank_check.proofs.Surveying.{last-more}
use Rattle.rank_check.proofs.tally.last_of.Goals as goal

-- one row more
pub loop-row-preserved : goal.loop-row-preserved
loop-row-preserved c =
    last-more c.loop-row.last c.args.rows.now c.loop-row.row-index c.row-item.result c.later.result
    c.loop-row.invariant c.later.ensures c.loop-row-test.true c.row-item.is

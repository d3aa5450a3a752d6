use Rattle.rank_merge.proofs.Cited.{◌≡◌, true, rules, comes_first}
use Rattle.rank_merge.proofs.RowFloors.{one_in_front}
use Rattle.rank_merge.proofs.rows.behind.Goals as goal

-- one row more that the floor comes before
pub loop-kept-preserved : goal.loop-kept-preserved
loop-kept-preserved c =
    one_in_front (λ r. comes_first c.args.floor.now r.candidate ≡ true) c.args.rows.now c.loop-kept.kept
    c.index-rows-kept.result (search rules) c.loop-kept.invariant.0 c.index-rows-kept.is (search rules)
    c.loop-kept.invariant.1

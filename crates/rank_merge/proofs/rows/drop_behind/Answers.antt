use Rattle.rank_merge.proofs.RowFloors.{cut_off}
use Rattle.rank_merge.proofs.rows.drop_behind.Goals as goal

-- the rows from the place on were removed
pub returns-in-Some : goal.returns-in-Some
returns-in-Some c =
    rw c.in-Some.is (cut_off c.in-Some.floor c.args.rows.now.items c.truncate.new.self.items c.behind-kept.result
    (rw c.as_slice.ensures.value at c.behind-kept.ensures) c.truncate.ensures.items)

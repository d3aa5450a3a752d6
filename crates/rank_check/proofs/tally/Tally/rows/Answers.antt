use Rattle.std.proofs.Common.{sym, subst}
use Rattle.rank_check.specs.Marks.{AreMarksInOrder}
use Rattle.rank_check.proofs.tally.Tally.rows.Goals as goal

-- the marks are in order
pub known_rows-requires : goal.known_rows-requires
known_rows-requires c = subst AreMarksInOrder (sym c.as_slice-2.ensures.value) c.self.invariant.order

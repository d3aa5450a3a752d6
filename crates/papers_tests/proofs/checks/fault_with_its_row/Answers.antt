use Rattle.rank_check.proofs.RowsWithin.{own_within}
use Rattle.papers_tests.proofs.checks.fault_with_its_row.Goals as goal

-- the only row is the worst
pub check_line-requires : goal.check_line-requires
check_line-requires g = record { order = tt; within = (own_within g.in_ok-worst.worst, tt) }

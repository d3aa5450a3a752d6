use Rattle.rank_blocks.proofs.Cited.{AreSummariesUpTo, numbers_left}
use Rattle.rank_blocks.proofs.blocks.summaries_of.Given as goal

-- the summaries of the blocks before the next one
abbrev pub invariant-loop-next : goal.invariant-loop-next
invariant-loop-next l = AreSummariesUpTo l.score l.series l.summaries.items l.next

-- how many numbers are left
abbrev pub decreases-loop-next : goal.decreases-loop-next
decreases-loop-next l = numbers_left l.next

use Rattle.rank_scores.proofs.RowSums.{IsSumTo}
use Rattle.rank_scores.proofs.window.sum_of.Given as goal

-- the values before this one are summed
abbrev pub invariant-loop-value : goal.invariant-loop-value
invariant-loop-value l = IsSumTo l.values l.value-index l.sum

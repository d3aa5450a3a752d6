use Rattle.rank_scores.proofs.Ranks.{best-is, of_rank-is}
use Rattle.rank_scores.proofs.Listing.{descends}
use Rattle.rank_scores.proofs.best.best_first.Goals as goal
use Rattle.std.proofs.Common.{arith, rules}

-- the first k of the sorted candidates are the best k
pub returns-clause-best : goal.returns-clause-best
returns-clause-best c = search (rules, arith, best-is, descends)

-- the score of each place is the score of its rank
pub returns-clause-kth : goal.returns-clause-kth
returns-clause-kth c = search (rules, arith, of_rank-is, descends)

use Rattle.rank_scores.proofs.QueryCandidates.{all_apart, all_listed, best_listed}
use Rattle.rank_scores.proofs.laws.candidates_of_queries.Goals as goal

-- no two belong to one station and begin on one day, all belong to listed stations, and so do the best
pub returns : goal.returns
returns c = record { apart = all_apart; listed = all_listed; best = best_listed }

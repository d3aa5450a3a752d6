use Rattle.rank_pool.proofs.Counts.{below_kth}
use Rattle.rank_pool.proofs.Ranked.{best-first, kth_score-kth}
use Rattle.rank_pool.proofs.laws.scores_tell_places.Goals as goal

-- each law is a lemma
pub returns : goal.returns
returns c = record {
  below = below_kth;
  best = best-first;
  kth = kth_score-kth;
}

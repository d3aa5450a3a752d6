use Rattle.rank_pool.proofs.Places.{holds-push, holds-fold, size-fold, holds-merged}
use Rattle.rank_pool.proofs.Offers.{last_is_kth}
use Rattle.rank_pool.proofs.laws.pools_hold_the_first.Goals as goal

-- each law is a lemma
pub returns : goal.returns
returns c = record {
  one = holds-push;
  all = holds-fold;
  size = size-fold;
  merged = holds-merged;
  last = last_is_kth;
}

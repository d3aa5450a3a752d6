use Rattle.rank_pool.proofs.Places.{first-first_left, first-first_right}
use Rattle.rank_pool.proofs.Kept.{first-low}
use Rattle.rank_pool.proofs.Moves.{alike-permutation}
use Rattle.rank_pool.proofs.laws.first_are_the_same.Goals as goal

-- each law is a lemma
pub returns : goal.returns
returns c = record {
  order = alike-permutation;
  first = λ k xs ys. (first-first_left k xs ys, first-first_right k xs ys);
  low = first-low;
}

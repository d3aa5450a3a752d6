use Rattle.rank_papers.proofs.SameQueries.{one_query}
use Rattle.rank_head.proofs.CountSums.{counts_add_up}
use Rattle.rank_head.proofs.RightHeads.{heads_are_right}
use Rattle.rank_head.proofs.laws.heads_are_right.Goals as goal

-- by what is known of texts that are read
pub returns : goal.returns
returns c = record {
  right = heads_are_right c.certificates_are_read.ensures.read;
  queries = one_query c.certificates_are_read.ensures.read;
  sums = counts_add_up;
}

use Rattle.rank_query.proofs.Cited.{ints, arith}
use Rattle.rank_query.proofs.FirstWord.{position-or}
use Rattle.rank_query.proofs.words.word_len.Goals as goal

-- up to the first blank, or the end
pub returns : goal.returns
returns c = grind (arith, ints, position-or)

use Rattle.rank_query.proofs.CanonicalTexts.{canonical}
use Rattle.rank_query.proofs.Asks.{read_asks, asks_read}
use Rattle.rank_query.proofs.laws.queries_have_texts.Goals as goal

-- what is read as a query denotes it, what denotes it is read so, and a canonical text is short and printable
pub returns : goal.returns
returns c = record {
  asked = λ text q. (read_asks text q, asks_read text q);
  printed = λ q is. (canonical q is).line;
}

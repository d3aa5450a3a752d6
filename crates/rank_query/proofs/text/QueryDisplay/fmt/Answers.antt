use Rattle.rank_query.proofs.Cited.{arith, has_written_of_eq, common_steps}
use Rattle.rank_query.proofs.Printing.{printed-is}
use Rattle.rank_query.proofs.text.QueryDisplay.fmt.Goals as goal

-- what is written is the canonical text
pub returns-clause-writes : goal.returns-clause-writes
returns-clause-writes g c = λ plain ok.
    has_written_of_eq _ _ _ _ _ (printed-is c.args.self.now.k c.args.self.now.score c.args.self.now.region
    c.args.self.now.season c.args.self.now.period c.args.self.now.per) (grind (arith, common_steps))

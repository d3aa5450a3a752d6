use Rattle.rank_blocks.proofs.Cited.{arith, rules}
use Rattle.rank_blocks.proofs.WordRuns.{ends-next}
use Rattle.rank_blocks.proofs.runs.longest_ones.Goals as goal

-- with runs that are longer by one
pub loop-length-preserved : goal.loop-length-preserved
loop-length-preserved c = search (rules, arith, ends-next)

use Rattle.std.proofs.Common.{arith}
use Rattle.rank_scores.proofs.QueryMorsels.{asked_of}
use Rattle.rank_scores.proofs.morsel.morsel_at.Goals as goal

-- a series with an admitted day is asked about
pub returns-then-has_admitted_day-clause-asked : goal.returns-then-has_admitted_day-clause-asked
returns-then-has_admitted_day-clause-asked c = grind (arith, asked_of)

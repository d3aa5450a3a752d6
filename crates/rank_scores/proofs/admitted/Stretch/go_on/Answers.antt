use Rattle.rank_scores.proofs.StretchDays.{stretch-anew}
use Rattle.rank_scores.proofs.admitted.Stretch.go_on.Goals as goal
use Rattle.std.proofs.Common.{arith}
use Rattle.std.proofs.lemmas.Int.{ints}

-- a stretch that the day begins
pub returns-then-number-self-clause-alike : goal.returns-then-number-self-clause-alike
returns-then-number-self-clause-alike c = grind (arith, ints, stretch-anew)

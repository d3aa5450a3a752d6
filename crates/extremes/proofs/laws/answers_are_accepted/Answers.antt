use Rattle.extremes.proofs.Readings.{answers_accepted}
use Rattle.extremes.proofs.laws.answers_are_accepted.Goals as goal

-- the law
pub returns : goal.returns
returns c = answers_accepted

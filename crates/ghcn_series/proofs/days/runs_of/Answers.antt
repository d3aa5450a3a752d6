use Rattle.std.proofs.Common.{rules}
use Rattle.ghcn_series.proofs.CountedRuns.{runs-counted}
use Rattle.ghcn_series.proofs.days.runs_of.Goals as goal

-- each run ends with a bit that has none after it
pub returns : goal.returns
returns c = runs-counted c.args.word (search rules)

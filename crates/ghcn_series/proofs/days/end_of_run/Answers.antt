use Rattle.std.proofs.Common.{rules}
use Rattle.ghcn_series.proofs.RunDays.{run-ends}
use Rattle.ghcn_series.proofs.days.end_of_run.Goals as goal

-- the run ends at the place at which the shifted word's ones end
pub returns : goal.returns
returns c = rw c.trailing_ones.ensures (run-ends c.args.word c.requires (search rules))

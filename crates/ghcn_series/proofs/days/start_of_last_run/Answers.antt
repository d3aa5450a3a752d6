use Rattle.std.proofs.Common.{rules}
use Rattle.ghcn_series.proofs.CountedRuns.{last-begins}
use Rattle.ghcn_series.proofs.days.start_of_last_run.Goals as goal

-- the last run begins after the highest gap below the highest bit
pub returns : goal.returns
returns c = rw c.first_places.ensures
    (last-begins c.args.word c.ilog2.result (search rules) c.ilog2.ensures.power_le c.ilog2.ensures.next_power_gt
    c.ilog2.ensures.bound)

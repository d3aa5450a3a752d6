use Rattle.std.proofs.Common.{[], ◌∷◌}
use Rattle.std.specs.Prelude.{None}
use Rattle.extremes.specs.declared.sample.TheConstants.{STATIONS, DAILY, QUERY}
use Rattle.extremes.proofs.FedRuns.{ranks-alone}
use Rattle.extremes.proofs.run.rank_sample.Goals as goal

-- one worker ranks the built-in texts
pub returns : goal.returns
returns c =
    ranks-alone None QUERY.now STATIONS.now (DAILY.now ∷ []) c.rank_serial.result c.rank_serial.ensures.ok
    c.rank_serial.ensures.serial c.rank_serial.ensures.err

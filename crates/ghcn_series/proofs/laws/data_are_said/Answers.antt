use Rattle.ghcn_series.proofs.SaidLines.{held-said}
use Rattle.ghcn_series.proofs.SaidSeries.{series_said}
use Rattle.ghcn_series.proofs.SaidStations.{stations-said}
use Rattle.ghcn_series.proofs.UnlistedLines.{unlisted-said}
use Rattle.ghcn_series.proofs.laws.data_are_said.Goals as goal

-- the stations
pub returns-clause-stations : goal.returns-clause-stations
returns-clause-stations c = stations-said

-- the series
pub returns-clause-series : goal.returns-clause-series
returns-clause-series c = series_said

-- the lines of other stations
pub returns-clause-unlisted : goal.returns-clause-unlisted
returns-clause-unlisted c = λ stations files held is.
    rw (held-said stations files held is) (unlisted-said stations files)

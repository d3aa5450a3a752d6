-- The stations that a query admits.
use Rattle.std.specs.Prelude.{Bool}
use Rattle.ghcn_files.specs.declared.station.Station.{Station}
use Rattle.rank_query.specs.Meaning.Asked.{Query}
use Rattle.rank_query.specs.Meaning.Admits.{region_holds}

-- the query admits the station
abbrev pub admits_station : Query → Station → Bool
admits_station q s = region_holds q.region s

-- Whether a station has an ID.
use Rattle.std.specs.Prelude.{Bool}
use Rattle.ghcn_files.specs.declared.station.StationId.{StationId}
use Rattle.ghcn_files.specs.declared.station.Station.{Station}
use Rattle.ghcn_files.specs.Meaning.Ids.{same_id}

-- the station has this ID
abbrev pub is_station_of : StationId → Station → Bool
is_station_of id s = same_id s.id id

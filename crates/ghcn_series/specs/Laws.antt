-- What is true of all that files without an error hold, as statements for the contracts of public functions.
use Rattle.std.specs.Prelude.{◌≡◌, ◌↔◌, ℕ, ◌-◌, ◌^◌, min, true, List, Some, Ok, map}
use Rattle.std.specs.List.{count_by, flat_map, sum}
use Rattle.ghcn_fields.specs.Meaning.Lines.{lines}
use Rattle.ghcn_files.specs.declared.station.Station.{Station}
use Rattle.ghcn_files.specs.Listed.{listed, AreListed}
use Rattle.ghcn_series.specs.DailyFaults.{is_listed}
use Rattle.ghcn_series.specs.Meaning.Series.{Series}
use Rattle.ghcn_series.specs.Series.{Data, series_of}
use Rattle.ghcn_series.specs.Held.{IsContents}
use Rattle.ghcn_series.specs.JoinedFiles.{files_together}
use Rattle.ghcn_series.specs.Meaning.Said.{IsMadeOf, IsSaid, SaysStations, is_unlisted}
use Rattle.ghcn_series.specs.SaidLists.{unlisted_said}
use Rattle.ghcn_series.specs.Says.{data_of, in_64_bits}

-- what is true of every list of stations is true of a station list without an error
abbrev pub ListsAreRight : Type 0
ListsAreRight = (text : List ℕ) (stations : List Station) → listed text ≡ Ok stations → AreListed stations

-- what is true of all data is true of what daily files without an error hold of its stations
abbrev pub DataAreRight : Type 0
DataAreRight = (text : List ℕ) (stations : List Station) (files : List (List ℕ)) (held : Data)
    → listed text ≡ Ok stations → data_of stations files ≡ Ok held → IsContents held

-- a list without an error says the stations that are read of it, in this order, and no others
abbrev pub StationsAreSaid : Type 0
StationsAreSaid = (text : List ℕ) (stations : List Station) → listed text ≡ Ok stations → (others : List Station)
    → SaysStations text others ↔ (others ≡ stations)

-- of a listed station, the series that files without an error hold are those that are made of the facts that they say
abbrev pub SeriesAreSaid : Type 0
SeriesAreSaid = (stations : List Station) (files : List (List ℕ)) (held : Data) → data_of stations files ≡ Ok held
    → (s : Series) → is_listed stations s.id ≡ true
    → (series_of held s.id s.element ≡ Some s) ↔ IsMadeOf (IsSaid files) s

-- that many of their lines belong to unlisted stations, up to 2^64 - 1
abbrev pub UnlistedAreSaid : Type 0
UnlistedAreSaid = (stations : List Station) (files : List (List ℕ)) (held : Data) → data_of stations files ≡ Ok held
    → held.unlisted ≡ min (count_by (is_unlisted stations) (flat_map lines files)) (2 ^ 64 - 1)

-- the numbers of lines of unlisted stations in the parts of some files add up to that in all of them, up to 2^64 - 1
abbrev pub UnlistedAddUp : Type 0
UnlistedAddUp = (stations : List Station) (parts : List (List (List ℕ)))
    → unlisted_said stations (files_together parts) ≡ in_64_bits (sum (map (unlisted_said stations) parts))

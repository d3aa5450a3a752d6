-- Files that are cut into parts: what the data of all files have to do with those of the parts.
use Rattle.std.specs.Prelude.{◌≡◌, ℕ, List, Ok}
use Rattle.std.specs.List.{flat_map, IsDistinct, AllZip}
use Rattle.std.specs.List.Sorted.{IsPermutation}
use Rattle.ghcn_files.specs.declared.station.Station.{Station}
use Rattle.ghcn_series.specs.Meaning.Series.{Series}
use Rattle.ghcn_series.specs.Series.{Data}
use Rattle.ghcn_series.specs.DailyFaults.{daily_lines}
use Rattle.ghcn_series.specs.Meaning.Says.{Fact}
use Rattle.ghcn_series.specs.Says.{usable_facts, data_of}
use Rattle.ghcn_series.specs.Held.{same_series}

-- the facts that count, of some files
abbrev pub facts_in : List Station → List (List ℕ) → List Fact
facts_in stations files = usable_facts stations (daily_lines files)

-- the files of all parts, one part after the other
abbrev pub files_together : List (List (List ℕ)) → List (List ℕ)
files_together parts = flat_map (λ files. files) parts

-- the files have no error, and these are their data
abbrev pub HaveData : List Station → List (List ℕ) → Data → Type 0
HaveData stations files held = data_of stations files ≡ Ok held

-- the series of some data, one after the other
abbrev pub all_their_series : List Data → List Series
all_their_series ds = flat_map (λ d. d.series) ds

-- what files say that counts is what their parts say, one part after the other
abbrev pub FactsOfParts : Type 0
FactsOfParts = (stations : List Station) (parts : List (List (List ℕ)))
    → facts_in stations (files_together parts) ≡ flat_map (facts_in stations) parts

-- if no station and element has a series in two parts, the series of all files are those of the parts
abbrev pub SeriesOfParts : Type 0
SeriesOfParts = (stations : List Station) (parts : List (List (List ℕ))) (ds : List Data) (held : Data)
    → AllZip (HaveData stations) parts ds → HaveData stations (files_together parts) held
    → IsDistinct same_series (all_their_series ds) → IsPermutation (all_their_series ds) held.series

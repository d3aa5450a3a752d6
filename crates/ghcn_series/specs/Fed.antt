-- Daily files as they come, and what a reader of them was fed.
use Rattle.std.specs.Prelude.{ℕ, List, [], ◌∷◌, ◌++◌, ⊤}
use Rattle.ghcn_files.specs.declared.station.Station.{Station}
use Rattle.ghcn_files.specs.declared.element.Keep.{Keep}
use Rattle.ghcn_series.specs.declared.fault.DataFault.{DataFault}
use Rattle.ghcn_series.specs.declared.fault.DataFault.TheVariants.{DailyLine, TooManyFiles, Memory}

-- files as they come: those that were ended, and the bytes of the current one
pub record Files : Type 0 where
  pub ended : List (List ℕ)
  pub current : List ℕ

-- these files, all of them ended
abbrev pub ended_files : List (List ℕ) → Files
ended_files files = record { ended = files; current = [] }

-- with more bytes of the current file
abbrev pub more : Files → List ℕ → Files
more files bytes = record { ended = files.ended; current = files.current ++ bytes }

-- with the current file ended, even if it is empty
abbrev pub with_end : Files → Files
with_end files = ended_files (files.ended ++ files.current ∷ [])

-- the files, when these were ended: the current one counts if it has a byte
abbrev pub and_current : List (List ℕ) → List ℕ → List (List ℕ)
and_current ended [] = ended
and_current ended (b ∷ bytes) = ended ++ (b ∷ bytes) ∷ []

-- the files that came
abbrev pub files_of : Files → List (List ℕ)
files_of files = and_current files.ended files.current

-- what was fed: of which elements the series are kept, the stations, and the files
pub record Fed : Type 0 where
  pub keep : Keep
  pub stations : List Station
  pub files : Files

-- nothing, for these elements and stations
abbrev pub nothing_fed : Keep → List Station → Fed
nothing_fed keep stations = record { keep = keep; stations = stations; files = ended_files [] }

-- with these files in place of those that were fed
abbrev pub with_files : Fed → Files → Fed
with_files fed files = record { keep = fed.keep; stations = fed.stations; files = files }

-- the files that came, and then some that were ended and the bytes of one more: the first of these are the next bytes
-- of the current file
abbrev pub going_on : Files → List (List ℕ) → List ℕ → Files
going_on files [] current = more files current
going_on files (file ∷ ended) current = record {
  ended = files.ended ++ (files.current ++ file) ∷ ended;
  current = current;
}

-- the files that came, and then others, of which the first one goes on with the current file
abbrev pub followed_by : Files → Files → Files
followed_by files others = going_on files others.ended others.current

-- the error is out of memory
abbrev pub IsOfMemory : DataFault → Type 0
IsOfMemory (Memory m) = ⊤
IsOfMemory TooManyFiles = ⊥
IsOfMemory (DailyLine file line why) = ⊥

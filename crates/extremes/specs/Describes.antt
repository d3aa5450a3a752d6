-- What is returned if files are described.
use Rattle.std.specs.Prelude.{◌≡◌, ℕ, List, ◌∷◌, map, Result, Ok, Err, string_bytes}
use Rattle.ghcn_fields.specs.Refusals.{IsRefusal}
use Rattle.ghcn_files.specs.declared.station.Station.{Station}
use Rattle.ghcn_files.specs.Listed.{listed}
use Rattle.ghcn_series.specs.LineKinds.{warnings_of}
use Rattle.ghcn_description.specs.declared.counts.Description.{Description}
use Rattle.ghcn_description.specs.Texts.{description_text}
use Rattle.ghcn_description.specs.declared.describer.RowDescriber.{RowDescriber}
use Rattle.ghcn_description.specs.Describing.{Describes, HasDescribedByRows}
use Rattle.rank_input.specs.declared.fault.Fault.{Fault}
use Rattle.rank_input.specs.declared.intake.Intake.{Intake}
use Rattle.rank_input.specs.Feeding.{AreAllOf, AreFilesOf, AreOpenedFor, Opening}
use Rattle.rank_input.specs.Input.{read_files, is_memory}
use Rattle.rank_input.specs.Takes.{IsTrueOf}
use Rattle.extremes.specs.declared.describe.DescriptionText.{DescriptionText}
use Rattle.extremes.specs.declared.files.Describing.{Describing}
use Rattle.extremes.specs.Merges.{Known}
use Rattle.extremes.specs.Runs.{bytes_named}

-- a station list and daily files have no error, and are described so
pub record IsDescribed (stations : List ℕ) (files : List (List ℕ)) (d : Description) : Type 0 where
  pub list : List Station
  pub lists : listed stations ≡ Ok list
  pub describes : Describes list files d

-- a text says what a station list and daily files without an error hold, and beside it are the foreign files and the
-- odd lines
pub record IsTextOf (stations : List ℕ) (files : List (List ℕ)) (text : DescriptionText) : Type 0 where
  pub description : Description
  pub described : IsDescribed stations files description
  pub written : text.bytes.items ≡ description_text description
  pub warnings : text.warnings ≡ warnings_of files

-- a text says what the files hold that an intake was given, and beside it are the foreign files and the odd lines
abbrev pub DescribesIntake : Intake RowDescriber → DescriptionText → Type 0
DescribesIntake t text = IsTrueOf HasDescribedByRows t (λ keep stations files. IsTextOf stations files text)

-- the text of what these hold, or their first error
abbrev pub IsDescriptionOf : List ℕ → List (List ℕ) → Result DescriptionText Fault → Type 0
IsDescriptionOf stations files (Ok text) = IsTextOf stations files text
IsDescriptionOf stations files (Err fault) = IsRefusal is_memory fault (read_files stations files)

-- the paths of what is described, in the order in which it is read
abbrev pub describing_paths : Describing → List (List ℕ)
describing_paths d = string_bytes d.stations ∷ map string_bytes d.files.items

-- the description of all bytes of the station list and of each daily file that are named, in order
pub record DescribesFiles (bytes_of : Known) (opens : Opening) (d : Describing) (answer : Result DescriptionText Fault)
    : Type 0 where
  pub opened : AreOpenedFor is_memory opens (describing_paths d) answer
  pub stations : List ℕ
  pub whole : AreAllOf (bytes_named bytes_of d.stations) stations
  pub files : List (List ℕ)
  pub all : AreFilesOf (map (bytes_named bytes_of) d.files.items) files
  pub described : IsDescriptionOf stations files answer

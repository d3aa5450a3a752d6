-- What an intake of files was given, and what each of its steps takes.
use Rattle.std.specs.Prelude.{◌≡◌, ℕ, List, Result, Ok, Err}
use Rattle.ghcn_fields.specs.Refusals.{IsRefusal}
use Rattle.ghcn_files.specs.declared.element.Keep.{Keep}
use Rattle.ghcn_files.specs.declared.station.Station.{Station}
use Rattle.ghcn_files.specs.Listed.{listed}
use Rattle.ghcn_series.specs.declared.cutter.Cutter.{Cutter}
use Rattle.ghcn_series.specs.Cut as cut
use Rattle.ghcn_series.specs.Cut.{HasFed}
use Rattle.ghcn_series.specs.Fed.{Files, Fed, ended_files, more, with_end, files_of, followed_by}
use Rattle.ghcn_series.specs.LinesRead.{Reading, Making}
use Rattle.rank_input.specs.declared.fault.Fault.{Fault}
use Rattle.rank_input.specs.declared.intake.Intake.{Intake}
use Rattle.rank_input.specs.Input.{read_files, is_memory}

-- what was given: of which elements the values are kept, the station list, and the daily files as they came
pub record FileInput : Type 0 where
  pub keep : Keep
  pub stations : List ℕ
  pub files : Files

-- the station list and these daily files
abbrev pub file_input : Keep → List ℕ → List (List ℕ) → FileInput
file_input keep stations files = record { keep = keep; stations = stations; files = ended_files files }

-- with more bytes of the current file
abbrev pub with_bytes : FileInput → List ℕ → FileInput
with_bytes s bytes = record { keep = s.keep; stations = s.stations; files = more s.files bytes }

-- with the current file ended, even if it is empty
abbrev pub with_file_end : FileInput → FileInput
with_file_end s = record { keep = s.keep; stations = s.stations; files = with_end s.files }

-- the same station list, with these daily files
abbrev pub with_daily : FileInput → Files → FileInput
with_daily s files = record { keep = s.keep; stations = s.stations; files = files }

-- what a reader of lines is fed for the stations of a list
abbrev pub fed_for : FileInput → List Station → Fed
fed_for s list = record { keep = s.keep; stations = list; files = s.files }

-- the station list has no error, and a cutter was fed the daily files for its stations
pub record IsReading {L : Type 0} (has_read : Reading L) (s : FileInput) (c : Cutter L) : Type 0 where
  pub list : List Station
  pub lists : listed s.stations ≡ Ok list
  pub fed : HasFed has_read c (fed_for s list)

-- out of memory, or the error of the station list, whatever the daily files are
pub record IsRefusedBefore (s : FileInput) (fault : Fault) : Type 0 where
  pub whatever : (files : List (List ℕ)) → IsRefusal is_memory fault (read_files s.stations files)

-- what was given is read by a cutter, or has an error before the daily files
abbrev pub IsRead : {L : Type 0} → Reading L → Result (Cutter L) Fault → FileInput → Type 0
IsRead has_read (Ok c) s = IsReading has_read s c
IsRead has_read (Err fault) s = IsRefusedBefore s fault

-- an intake was given this
abbrev pub HasTaken : {L : Type 0} → Reading L → Intake L → FileInput → Type 0
HasTaken has_read t s = IsRead has_read t.read s

-- an intake was given something
abbrev pub HasTakenSome : {L : Type 0} → Reading L → Intake L → Type 0
HasTakenSome has_read t = (s : FileInput) × HasTaken has_read t s

-- an intake takes more bytes of the current file
pub record TakesBytes {L : Type 0} (has_read : Reading L) (old new : Intake L) (bytes : List ℕ) : Type 0 where
  pub holds : (s : FileInput) → HasTaken has_read old s → HasTaken has_read new (with_bytes s bytes)

-- an intake takes the end of the current file
pub record TakesFileEnd {L : Type 0} (has_read : Reading L) (old new : Intake L) : Type 0 where
  pub holds : (s : FileInput) → HasTaken has_read old s → HasTaken has_read new (with_file_end s)

-- two readings of files are of the same station list, and keep the values of the same elements
pub record AreReadAlike {T : Type 0} (is_read : T → FileInput → Type 0) (first next : T) : Type 0 where
  pub input : FileInput
  pub files : Files
  pub of_first : is_read first input
  pub of_next : is_read next (with_daily input files)

-- a reading is of what a first one is of, and then of the daily files of a next one, of which the first one goes on with
-- the current file
pub record JoinsReadings {T : Type 0} (is_read : T → FileInput → Type 0) (first next both : T) : Type 0 where
  pub holds : (s : FileInput) (files : Files) → is_read first s → is_read next (with_daily s files)
      → is_read both (with_daily s (followed_by s.files files))

-- two readings stay apart: neither has an error before the daily files, and their cutters stay apart
abbrev pub AreApart : {L : Type 0} → Reading L → Result (Cutter L) Fault → Result (Cutter L) Fault → Type 0
AreApart has_read (Ok first) (Ok next) = cut.StayApart has_read first next
AreApart has_read (Ok first) (Err fault) = ⊥
AreApart has_read (Err fault) next = ⊥

-- two intakes were given the same station list, and keep the values of the same elements
abbrev pub WereGivenAlike : {L : Type 0} → Reading L → Intake L → Intake L → Type 0
WereGivenAlike has_read first next = AreReadAlike (IsRead has_read) first.read next.read

-- an intake was given what a first one was given, and then the daily files that a next one was given, of which the first
-- one goes on with the current file
abbrev pub JoinsFiles : {L : Type 0} → Reading L → Intake L → Intake L → Intake L → Type 0
JoinsFiles has_read first next both = JoinsReadings (IsRead has_read) first.read next.read both.read

-- two intakes stay apart: neither has an error before the daily files, and their cutters stay apart
abbrev pub StayApart : {L : Type 0} → Reading L → Intake L → Intake L → Type 0
StayApart has_read first next = AreApart has_read first.read next.read

-- the station list has no error, and this is made of the daily files for its stations
pub record IsMade {D : Type 0} (makes : Making D) (keep : Keep) (stations : List ℕ) (files : List (List ℕ)) (done : D)
    : Type 0 where
  pub list : List Station
  pub lists : listed stations ≡ Ok list
  pub made : makes list keep files done

-- whatever an intake was given, this is true of the elements, the station list and the daily files
pub record IsTrueOf {L : Type 0} (has_read : Reading L) (t : Intake L)
    (P : Keep → List ℕ → List (List ℕ) → Type 0) : Type 0 where
  pub is : (s : FileInput) → HasTaken has_read t s → P s.keep s.stations (files_of s.files)

-- this is made of the files that an intake was given
abbrev pub MakesTaken : {L D : Type 0} → Reading L → Making D → Intake L → D → Type 0
MakesTaken has_read makes t done =
    IsTrueOf has_read t (λ keep stations files. IsMade makes keep stations files done)

-- out of memory, or the first error of the files that an intake was given
abbrev pub RefusesTaken : {L : Type 0} → Reading L → Intake L → Fault → Type 0
RefusesTaken has_read t fault =
    IsTrueOf has_read t (λ keep stations files. IsRefusal is_memory fault (read_files stations files))

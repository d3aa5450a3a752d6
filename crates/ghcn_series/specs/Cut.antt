-- What a cutter of daily files was fed, and what each of its steps adds.
use Rattle.std.specs.Prelude.{◌≡◌, ℕ, ◌+◌, ◌^◌, ◌≤◌, nat_lt, nat_le, ◌⊎◌, Bool, true, false, ◌&&◌}
use Rattle.std.specs.Prelude.{List, [], ◌++◌, length, Option, None, Some, is_none}
use Rattle.std.specs.Str.Lines.{strip_carriage_return}
use Rattle.ghcn_fields.specs.Meaning.Lines.{lines}
use Rattle.ghcn_fields.specs.Lines.{HasNoLineFeed, EndsLine}
use Rattle.ghcn_fields.specs.Refusals.{IsRefusal}
use Rattle.ghcn_series.specs.declared.cutter.Cut.{Cut}
use Rattle.ghcn_series.specs.declared.cutter.Cutter.{Cutter}
use Rattle.ghcn_series.specs.declared.fault.DataFault.{DataFault}
use Rattle.ghcn_series.specs.Alike.{BeginAlike}
use Rattle.ghcn_series.specs.Counted.{HaveCounted, CountsLine, CutsForeign}
use Rattle.ghcn_series.specs.DailyFaults.{FileLine, one_line, file_lines, daily_lines, is_memory, IsFirstRefusal}
use Rattle.ghcn_series.specs.Fed.{Files, Fed, more, with_end, with_files, files_of, followed_by}
use Rattle.ghcn_series.specs.Gathered.{IsLineRefusal}
use Rattle.ghcn_series.specs.LineKinds.{cuts_foreign}
use Rattle.ghcn_series.specs.LinesRead.{Reading, Making, Reads, Refuses, HaveOneStation}
use Rattle.ghcn_series.specs.Says.{in_64_bits, data_of}

-- the lines of files up to here: those of the ended files, and these whole ones of the current file
abbrev pub lines_to : Files → List ℕ → List FileLine
lines_to files whole = daily_lines files.ended ++ file_lines (length files.ended + 1, whole)

-- the current file is these whole lines, and this of the line after them
pub record IsCutFile (files : Files) (whole rest : List ℕ) : Type 0 where
  pub parts : files.current ≡ whole ++ rest
  pub ends : EndsLine whole

-- memory ran out, or the first line with an error that has its line feed or its file's end has this one
pub record HasLineFault (fed : Fed) (fault : DataFault) : Type 0 where
  pub whole : List ℕ
  pub rest : List ℕ
  pub cut : IsCutFile fed.files whole rest
  pub first : IsLineRefusal fed.stations (lines_to fed.files whole) fault

-- a cutter has counted these files
pub record HasCounted {L : Type 0} (c : Cutter L) (files : Files) : Type 0 where
  pub ended : c.ended ≡ in_64_bits (length files.ended)
  pub begun : c.begun ≡ nat_lt 0 (length files.current)

-- the files that a cutter has counted are few enough to be read, or they aren't
pub record CountsFew {L : Type 0} (c : Cutter L) (few : Bool) : Type 0 where
  pub is : (files : Files) → HasCounted c files → few ≡ nat_le (length (files_of files)) (2 ^ 20)

-- a cutter looks at lines: it has no error, and has counted few enough files
pub record LooksAtLines {L : Type 0} (c : Cutter L) (looks : Bool) : Type 0 where
  pub is : (files : Files) → HasCounted c files
      → looks ≡ (is_none c.fault && nat_le (length (files_of files)) (2 ^ 20))

-- a cutter's reader has read what was fed: no line that has its line feed or its file's end has an error
pub record HasReadFed {L : Type 0} (has_read : Reading L) (c : Cutter L) (fed : Fed) : Type 0 where
  pub whole : List ℕ
  pub rest : List ℕ
  pub cut : IsCutFile fed.files whole rest
  pub unended : HasNoLineFeed rest
  pub kept : BeginAlike rest c.rest.items
  pub numbered : c.line ≡ length (lines whole)
  pub counted : HaveCounted c.counts fed.files.ended whole
  pub read : has_read c.reader fed.stations fed.keep (lines_to fed.files whole)

-- a cutter keeps this error of the lines that it was fed, or it keeps none and they are read
abbrev pub HasFault : {L : Type 0} → Reading L → Cutter L → Fed → Option DataFault → Type 0
HasFault has_read c fed None = HasReadFed has_read c fed
HasFault has_read c fed (Some fault) = HasLineFault fed fault

-- a cutter was fed this: it has counted the files, and knows the first error if there aren't too many of them
pub record HasFed {L : Type 0} (has_read : Reading L) (c : Cutter L) (fed : Fed) : Type 0 where
  pub counted : HasCounted c fed.files
  pub fault : length (files_of fed.files) ≤ 2 ^ 20 → HasFault has_read c fed c.fault

-- what a cutter was fed: some bytes of some files
abbrev pub HasFedSome : {L : Type 0} → Reading L → Cutter L → Type 0
HasFedSome has_read c = (fed : Fed) × HasFed has_read c fed

-- a cutter takes more bytes of the current file
pub record TakesPiece {L : Type 0} (has_read : Reading L) (old new : Cutter L) (bytes : List ℕ) : Type 0 where
  pub holds : (fed : Fed) → HasFed has_read old fed → HasFed has_read new (with_files fed (more fed.files bytes))

-- a cutter ends the current file
pub record EndsFile {L : Type 0} (has_read : Reading L) (old new : Cutter L) : Type 0 where
  pub holds : (fed : Fed) → HasFed has_read old fed → HasFed has_read new (with_files fed (with_end fed.files))

-- two cutters were fed files for the same stations, and keep the values of the same elements
pub record WereFedAlike {L : Type 0} (has_read : Reading L) (first next : Cutter L) : Type 0 where
  pub fed : Fed
  pub files : Files
  pub of_first : HasFed has_read first fed
  pub of_next : HasFed has_read next (with_files fed files)

-- a cutter was fed what a first one was fed, and then the files that a next one was fed, of which the first one goes on
-- with the current file of the first cutter
pub record Joins {L : Type 0} (has_read : Reading L) (first next both : Cutter L) : Type 0 where
  pub holds : (fed : Fed) (files : Files) → HasFed has_read first fed → HasFed has_read next (with_files fed files)
      → HasFed has_read both (with_files fed (followed_by fed.files files))

-- a cutter has read these files as far as they came: it keeps no error, and they are few enough
pub record HasReadOn {L : Type 0} (c : Cutter L) (files : Files) : Type 0 where
  pub right : c.fault ≡ None
  pub few : length (files_of files) ≤ 2 ^ 20

-- two cutters stay apart: one hasn't read its files as far as they came, the files of the first one end within a line,
-- a listed station has months in the files of both, or the file that goes on is cut at a part that is foreign
pub record StayApart {L : Type 0} (has_read : Reading L) (first next : Cutter L) : Type 0 where
  pub why : (fed : Fed) (files : Files) → HasFed has_read first fed → HasFed has_read next (with_files fed files)
      → HasReadOn first fed.files → HasReadOn next files → EndsLine fed.files.current
      → HaveOneStation fed.stations (daily_lines (files_of fed.files)) (daily_lines (files_of files))
      ⊎ (cuts_foreign fed.files.current files.ended ≡ true)

-- a next cutter can go on with the files of a first one, or both stay apart: both have looked at their lines, the first
-- one is at the end of a line, and the file that goes on isn't cut at a foreign part
abbrev pub GoOn : {L : Type 0} → Reading L → Cutter L → Cutter L → Bool → Type 0
GoOn has_read first next true = LooksAtLines first true × LooksAtLines next true × (first.rest.items ≡ [])
    × CutsForeign first.counts next.counts false
GoOn has_read first next false = StayApart has_read first next

-- these files, which are few enough, are read to the end, and counted
pub record AreRead {L : Type 0} (has_read : Reading L) (fed : Fed) (files : List (List ℕ)) (all : Cut L) : Type 0 where
  pub few : length files ≤ 2 ^ 20
  pub read : has_read all.reader fed.stations fed.keep (daily_lines files)
  pub number : all.files ≡ length files
  pub counted : HaveCounted all.counts files []

-- all files that a cutter was fed are read to the end
pub record HoldsFed {L : Type 0} (has_read : Reading L) (c : Cutter L) (all : Cut L) : Type 0 where
  pub is : (fed : Fed) → HasFed has_read c fed → AreRead has_read fed (files_of fed.files) all

-- this is made of the files that a cutter was fed
pub record MakesFed {L D : Type 0} (has_read : Reading L) (makes : Making D) (c : Cutter L) (done : D) : Type 0 where
  pub is : (fed : Fed) → HasFed has_read c fed → makes fed.stations fed.keep (files_of fed.files) done

-- out of memory, or the first error of the files that a cutter was fed
pub record RefusesFed {L : Type 0} (has_read : Reading L) (c : Cutter L) (fault : DataFault) : Type 0 where
  pub is : (fed : Fed) → HasFed has_read c fed → IsRefusal is_memory fault (data_of fed.stations (files_of fed.files))
  pub first : (fed : Fed) → HasFed has_read c fed → IsFirstRefusal fault fed.stations (files_of fed.files)

-- a cutter that is at the file after the ended ones reads more bytes of it
pub record ReadsBytes {L : Type 0} (has_read : Reading L) (old new : Cutter L) (bytes : List ℕ) : Type 0 where
  pub holds : (fed : Fed) → old.ended ≡ length fed.files.ended → HasReadFed has_read old fed
      → HasReadFed has_read new (with_files fed (more fed.files bytes))

-- a cutter that is at that file finds this error among more bytes of it
pub record RefusesBytes {L : Type 0} (has_read : Reading L) (old : Cutter L) (bytes : List ℕ) (fault : DataFault)
    : Type 0 where
  pub found : (fed : Fed) → old.ended ≡ length fed.files.ended → HasReadFed has_read old fed
      → HasLineFault (with_files fed (more fed.files bytes)) fault

-- a cutter that is at that file reads it to its end
pub record ReadsEnd {L : Type 0} (has_read : Reading L) (old new : Cutter L) : Type 0 where
  pub holds : (fed : Fed) → old.ended ≡ length fed.files.ended → HasReadFed has_read old fed
      → HasReadFed has_read new (with_files fed (with_end fed.files))

-- a cutter that is at that file finds this error at its end
pub record RefusesEnd {L : Type 0} (has_read : Reading L) (old : Cutter L) (fault : DataFault) : Type 0 where
  pub found : (fed : Fed) → old.ended ≡ length fed.files.ended → HasReadFed has_read old fed
      → HasLineFault (with_files fed (with_end fed.files)) fault

-- a cutter adds the line of the current file of which these are the last bytes, if what is kept is like what came before
pub record AddsLine {L : Type 0} (has_read : Reading L) (old new : Cutter L) (bytes : List ℕ) : Type 0 where
  pub numbered : new.line ≡ old.line + 1
  pub rest : new.rest.items ≡ []
  pub counted : (rest : List ℕ) → BeginAlike rest old.rest.items
      → CountsLine old.counts new.counts (record { file = old.ended; line = old.line + 1 })
      (strip_carriage_return (rest ++ bytes))
  pub read : (rest : List ℕ) → BeginAlike rest old.rest.items
      → Reads has_read old.reader new.reader (one_line (old.ended + 1) (old.line + 1) (rest ++ bytes))

-- a cutter refuses that line
pub record RefusesLine {L : Type 0} (has_read : Reading L) (old : Cutter L) (bytes : List ℕ) (fault : DataFault)
    : Type 0 where
  pub found : (rest : List ℕ) → BeginAlike rest old.rest.items
      → Refuses has_read old.reader (one_line (old.ended + 1) (old.line + 1) (rest ++ bytes)) fault

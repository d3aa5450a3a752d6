-- What is read of files, and fed to an intake.
use Rattle.std.specs.Prelude.{◌≡◌, ℕ, Bool, true, List, [], ◌∷◌, ◌++◌, Option, None, Some, Result, Ok, Err, ⊤}
use Rattle.std.specs.List.{AllZip, AllByRecursion}
use Rattle.ghcn_fields.specs.Refusals.{OrMemory}
use Rattle.ghcn_series.specs.LinesRead.{Reading}
use Rattle.rank_input.specs.declared.intake.Intake.{Intake}
use Rattle.rank_input.specs.Takes.{FileInput, HasTaken, with_bytes, with_file_end}

-- these are all the bytes of a file, if those are known
abbrev pub AreAllOf : Option (List ℕ) → List ℕ → Type 0
AreAllOf None bytes = ⊤
AreAllOf (Some all) bytes = bytes ≡ all

-- these files have all the bytes of the files that are known, one for each, in order
abbrev pub AreFilesOf : List (Option (List ℕ)) → List (List ℕ) → Type 0
AreFilesOf known files = AllZip AreAllOf known files

-- whether the file of a path may be opened, and whether that may fail
abbrev pub Opening : Type 1
Opening = List ℕ → Bool → Type 0

-- the files of these paths were opened
abbrev pub AreOpened : Opening → List (List ℕ) → Type 0
AreOpened opens paths = AllByRecursion (λ path. opens path true) paths

-- they were, unless memory ran out
abbrev pub AreOpenedFor : {A F : Type 0} → (F → Bool) → Opening → List (List ℕ) → Result A F → Type 0
AreOpenedFor is_memory opens paths (Ok answer) = AreOpened opens paths
AreOpenedFor is_memory opens paths (Err fault) = OrMemory is_memory (λ why. AreOpened opens paths) fault

-- the file of a path was opened, or couldn't be
abbrev pub IsTried : Opening → List ℕ → Type 0
IsTried opens path = (opened : Bool) × opens path opened

-- files are read in the order of their paths, until this one can't be: it was tried, and those before it were opened
pub record StopsAt (opens : Opening) (paths : List (List ℕ)) (path : List ℕ) : Type 0 where
  pub before : List (List ℕ)
  pub after : List (List ℕ)
  pub named : paths ≡ before ++ path ∷ after
  pub opened : AreOpened opens before
  pub tried : IsTried opens path

-- with one file more
abbrev pub with_file : FileInput → List ℕ → FileInput
with_file s bytes = with_file_end (with_bytes s bytes)

-- with these files more
abbrev pub with_files : FileInput → List (List ℕ) → FileInput
with_files s [] = s
with_files s (bytes ∷ files) = with_files (with_file s bytes) files

-- an intake is fed all of these bytes, as more of the current file
pub record FeedsBytes {L : Type 0} (has_read : Reading L) (old new : Intake L) (known : Option (List ℕ)) : Type 0 where
  pub bytes : List ℕ
  pub all : AreAllOf known bytes
  pub taken : (s : FileInput) → HasTaken has_read old s → HasTaken has_read new (with_bytes s bytes)

-- an intake is fed all bytes of a file as one
pub record FeedsFile {L : Type 0} (has_read : Reading L) (old new : Intake L) (known : Option (List ℕ)) : Type 0 where
  pub bytes : List ℕ
  pub all : AreAllOf known bytes
  pub taken : (s : FileInput) → HasTaken has_read old s → HasTaken has_read new (with_file s bytes)

-- an intake is fed all bytes of each of these files, in order
pub record FeedsFiles {L : Type 0} (has_read : Reading L) (old new : Intake L) (known : List (Option (List ℕ)))
    : Type 0 where
  pub files : List (List ℕ)
  pub all : AreFilesOf known files
  pub taken : (s : FileInput) → HasTaken has_read old s → HasTaken has_read new (with_files s files)

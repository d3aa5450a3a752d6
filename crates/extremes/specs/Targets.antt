-- Which files reports and certificates may go to, and what is put into them.
use Rattle.std.specs.Prelude.{◌≡◌, ◌⊎◌, ℕ, Bool, true, false, List, [], Option, None, Some, codes, ⊤}
use Rattle.std.specs.Prelude.{String, string_bytes}
use Rattle.std.specs.Io.KnownBytes.{Appends}
use Rattle.std.specs.List.{All, Any, FoldsTo}
use Rattle.command_line.specs.declared.asked.Part.{Part}
use Rattle.rank_input.specs.Named.{list_path}
use Rattle.extremes.specs.Delivered.{HasBeginning}

-- whether another path may be found to name the file of a certificate, and whether it may be found to name another
abbrev pub Sharing : Type 1
Sharing = List ℕ → Bool → Type 0

-- whether that file may be found to hold anything else, and whether it may be found not to
abbrev pub Holding : Type 1
Holding = Bool → Type 0

-- a certificate's file is found to be that of standard output or standard error, or to hold anything else; or it is
-- found to be neither, and to hold nothing else
abbrev pub IsTaken : Sharing → Holding → Bool → Type 0
IsTaken shares holds true = shares (codes "/dev/stdout") true ⊎ shares (codes "/dev/stderr") true ⊎ holds true
IsTaken shares holds false = shares (codes "/dev/stdout") false × shares (codes "/dev/stderr") false × holds false

-- it is found to be a report or a certificate of a part, or to be neither of the two
abbrev pub IsPaper : Sharing → Part → Bool → Type 0
IsPaper shares part true = shares (string_bytes part.report) true ⊎ shares (string_bytes part.certificate) true
IsPaper shares part false = shares (string_bytes part.report) false × shares (string_bytes part.certificate) false

-- it is found to be the list of the daily files, or not to be it; if there is no list, it isn't
abbrev pub IsList : Sharing → Option (List ℕ) → Bool → Type 0
IsList shares None found = found ≡ false
IsList shares (Some list) found = shares (list_path list) found

-- it is taken, or found to be the station list, the list of the daily files or some daily file; or it isn't taken, and
-- is compared with these lists and each daily file, and found to be none of them
abbrev pub IsInUse : {A : Type 0} → Sharing → Holding → List ℕ → Option (List ℕ) → List (String A) → Bool → Type 0
IsInUse shares holds stations list files true = IsTaken shares holds true ⊎ shares stations true
    ⊎ IsList shares list true ⊎ Any (λ file. shares (string_bytes file) true) files
IsInUse shares holds stations list files false = IsTaken shares holds false × shares stations false
    × IsList shares list false × All (λ file. shares (string_bytes file) false) files

-- it is taken, or found to be a report or a certificate of some part; or it isn't taken, and is compared with those of
-- each part, and found to be none of them
abbrev pub IsPaperOrOutput : Sharing → Holding → List Part → Bool → Type 0
IsPaperOrOutput shares holds parts true = IsTaken shares holds true ⊎ Any (λ part. IsPaper shares part true) parts
IsPaperOrOutput shares holds parts false =
    IsTaken shares holds false × All (λ part. IsPaper shares part false) parts

-- a writer holds no byte, if its bytes are known
abbrev pub IsBlank : Option (List ℕ) → Type 0
IsBlank None = ⊤
IsBlank (Some bytes) = bytes ≡ []

-- how opening the file of a path may change a target, if the file is opened and if it isn't
abbrev pub TargetOpening : Type 0 → Type 1
TargetOpening T = T → List ℕ → Bool → T → Type 0

-- how giving up what wasn't written whole may change a target
abbrev pub Abandoning : Type 0 → Type 1
Abandoning T = T → T → Type 0

-- the bytes that a target was given, if they are known
abbrev pub Given : Type 0 → Type 0
Given T = T → Option (List ℕ)

-- the file of a path was opened, and was given these bytes and nothing else
pub record IsPutWhole {T : Type 0} (opens : TargetOpening T) (contents : Given T) (path bytes : List ℕ)
    (before after : T) : Type 0 where
  pub between : T
  pub opened : opens before path true between
  pub blank : IsBlank (contents between)
  pub given : Appends (contents between) (contents after) bytes

-- the file of a path was opened, was given a beginning of these bytes and nothing else, and was abandoned
pub record IsPutInPart {T : Type 0} (opens : TargetOpening T) (abandons : Abandoning T) (contents : Given T)
    (path bytes : List ℕ) (before after : T) : Type 0 where
  pub between : T
  pub written : T
  pub opened : opens before path true between
  pub blank : IsBlank (contents between)
  pub given : HasBeginning bytes (contents between) (contents written)
  pub abandoned : abandons written after

-- the file of a path couldn't be opened, and nothing was written
pub record IsNotOpened {T : Type 0} (opens : TargetOpening T) (contents : Given T) (path : List ℕ)
    (before after : T) : Type 0 where
  pub failed : opens before path false after
  pub kept : contents after ≡ contents before

-- bytes are put into the file of a path whole, or they aren't; without a path the target stays as it was
abbrev pub IsPut : {T : Type 0} → TargetOpening T → Abandoning T → Given T → T → T → Option (List ℕ) → List ℕ → Bool
    → Type 0
IsPut opens abandons contents before after None bytes true = after ≡ before
IsPut opens abandons contents before after None bytes false = ⊥
IsPut opens abandons contents before after (Some path) bytes true = IsPutWhole opens contents path bytes before after
IsPut opens abandons contents before after (Some path) bytes false =
    IsNotOpened opens contents path before after ⊎ IsPutInPart opens abandons contents path bytes before after

-- which bytes are put into the file of a path, and whether they are put there whole
abbrev pub Putting : Type 1
Putting = Option (List ℕ) → List ℕ → Bool → Type 0

-- no file is opened for a certificate, and nothing is written to one
abbrev pub PutsNothing : Putting → Type 0
PutsNothing puts = puts None [] true

-- a file: its path, and its bytes
abbrev pub NewFile : Type 0
NewFile = List ℕ × List ℕ

-- new files were made one after the other, and each was given its bytes and nothing else
abbrev pub ArePutWhole : {T : Type 0} → TargetOpening T → Abandoning T → Given T → T → List NewFile → T → Type 0
ArePutWhole creates abandons contents =
    FoldsTo (λ before file after. IsPut creates abandons contents before after (Some file.0) file.1 true)

-- so they were, until one wasn't made, or was given a beginning of its bytes and abandoned
pub record ArePutUntil {T : Type 0} (creates : TargetOpening T) (abandons : Abandoning T) (contents : Given T)
    (before : T) (files : List NewFile) (failed : NewFile) (after : T) : Type 0 where
  pub between : T
  pub whole : ArePutWhole creates abandons contents before files between
  pub failing : IsPut creates abandons contents between after (Some failed.0) failed.1 false

-- new files were put whole, in order, and then another one wasn't, if there is one
abbrev pub ArePut : {T : Type 0} → TargetOpening T → Abandoning T → Given T → T → T → List NewFile → Option NewFile
    → Type 0
ArePut creates abandons contents before after files None = ArePutWhole creates abandons contents before files after
ArePut creates abandons contents before after files (Some failed) =
    ArePutUntil creates abandons contents before files failed after

-- which files are put whole, in order, and which one after them isn't, if there is one
abbrev pub Storing : Type 1
Storing = List NewFile → Option NewFile → Type 0

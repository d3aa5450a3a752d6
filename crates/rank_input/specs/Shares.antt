-- Daily files that are taken whole, and bytes of one of them.
use Rattle.std.specs.Prelude.{◌≡◌, ℕ, ◌+◌, true, List, [], ◌∷◌, ◌++◌, take, drop, map, IfSome}
use Rattle.std.specs.Prelude.{Option, None, Some, String, string_bytes}
use Rattle.std.specs.List.{slice_get}
use Rattle.std.specs.Option.{option_map}
use denote.Bor.{Bor}
use Rattle.ghcn_files.specs.declared.element.Keep.{Keep}
use Rattle.ghcn_series.specs.Fed.{Files, ended_files}
use Rattle.ghcn_series.specs.LinesRead.{Reading}
use Rattle.rank_input.specs.declared.claimed.Taken.{Taken}
use Rattle.rank_input.specs.declared.intake.Intake.{Intake}
use Rattle.rank_input.specs.declared.question.Question.{Question}
use Rattle.rank_input.specs.Feeding.{AreAllOf, AreFilesOf, AreOpened, Opening}
use Rattle.rank_input.specs.Takes as takes
use Rattle.rank_input.specs.Takes.{file_input}
use Rattle.rank_input.specs.Taken.{given, HasTaken}

-- the bytes of the files of some paths, if they are known
abbrev pub bytes_at : {A : Type 0} → (List ℕ → Option (List ℕ)) → List (String A) → List (Option (List ℕ))
bytes_at bytes_of paths = map (λ path. bytes_of (string_bytes path)) paths

-- the files of these paths were opened, and an intake was given the station list and all of their bytes, in order
pub record TakesWhole {L A : Type 0} (has_read : Reading L) (bytes_of : List ℕ → Option (List ℕ)) (opens : Opening)
    (keep : Keep) (stations : List ℕ) (paths : List (String A)) (t : Intake L) : Type 0 where
  pub opened : AreOpened opens (map string_bytes paths)
  pub files : List (List ℕ)
  pub all : AreFilesOf (bytes_at bytes_of paths) files
  pub taken : takes.HasTaken has_read t (file_input keep stations files)

-- the paths of some shares, one share after the other
abbrev pub paths_of : {A : Type 0} → List (Bor (List (String A))) → List (String A)
paths_of [] = []
paths_of (share ∷ shares) = share.now ++ paths_of shares

-- an intake was given the station list and the files of the share at its place, if there is one
abbrev pub TakesShare : {L A : Type 0} → Reading L → (List ℕ → Option (List ℕ)) → Opening → Keep → List ℕ
    → List (Bor (List (String A))) → Taken L → Type 0
TakesShare has_read bytes_of opens keep stations shares t = IfSome (slice_get shares t.place)
    (λ share. TakesWhole has_read bytes_of opens keep stations share.now t.intake)

-- the bytes of a file from one on: this many, or all
abbrev pub stretch_of : ℕ → Option ℕ → List ℕ → List ℕ
stretch_of from None bytes = drop from bytes
stretch_of from (Some count) bytes = take count (drop from bytes)

-- from a cut to a byte of the file there are this many bytes; if they go to the file's end, there is no such byte and no
-- number
abbrev pub RestsFrom : Option ℕ → ℕ → Option ℕ → Type 0
RestsFrom None cut count = count ≡ None
RestsFrom (Some until) cut None = ⊥
RestsFrom (Some until) cut (Some count) = until ≡ cut + count

-- the bytes of one file that were taken: the file is ended if they go to its end
abbrev pub one_file : Option ℕ → List ℕ → Files
one_file None bytes = ended_files (bytes ∷ [])
one_file (Some count) bytes = record { ended = []; current = bytes }

-- the file of a path was opened, and an intake was given the station list and these bytes of it, from one on
pub record TakesStretch {L : Type 0} (has_read : Reading L) (bytes_of : List ℕ → Option (List ℕ)) (opens : Opening)
    (keep : Keep) (stations path : List ℕ) (from : ℕ) (count : Option ℕ) (t : Intake L) : Type 0 where
  pub opened : opens path true
  pub bytes : List ℕ
  pub all : AreAllOf (option_map (λ bytes. stretch_of from count bytes) (bytes_of path)) bytes
  pub taken : takes.HasTaken has_read t
      (record { keep = keep; stations = stations; files = one_file count bytes })

-- the files of these paths were opened, and a question was given its text, the station list and all of their bytes, in
-- order
pub record AsksWhole {A : Type 0} (bytes_of : List ℕ → Option (List ℕ)) (opens : Opening) (query stations : List ℕ)
    (paths : List (String A)) (t : Question) : Type 0 where
  pub opened : AreOpened opens (map string_bytes paths)
  pub files : List (List ℕ)
  pub all : AreFilesOf (bytes_at bytes_of paths) files
  pub taken : HasTaken t (given query stations files)

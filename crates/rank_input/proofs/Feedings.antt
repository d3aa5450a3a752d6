-- Bytes of a file that are fed one after the other.
use Rattle.std.proofs.Common.{◌≡◌, ℕ, zero, suc, ◌+◌, ◌<◌, ◌≤◌, List, [], ◌∷◌, ◌++◌, length, map, take, get_or}
use Rattle.std.proofs.Common.{Option, None, Some, refl, sym, ap, ◌∙◌, subst, append_assoc, add-one, arith}
use Rattle.std.specs.Io.KnownBytes.{Consumes, Keeps, IsAtEnd}
use Rattle.std.proofs.lemmas.List.{append-nil}
use Rattle.ghcn_files.specs.declared.element.Keep.{Keep}
use Rattle.ghcn_series.specs.LinesRead.{Reading}
use Rattle.rank_input.specs.declared.intake.Intake.{Intake}
use Rattle.rank_input.specs.Takes.{FileInput, file_input, with_bytes, HasTaken, HasTakenSome, TakesBytes, TakesFileEnd}
use Rattle.rank_input.specs.Feeding.{AreAllOf, AreFilesOf, with_file, with_files, FeedsBytes, FeedsFile, FeedsFiles}

-- of all bytes that a source had, some were fed, and these are left
pub record IsFedTo {L : Type 0} (has_read : Reading L) (old new : Intake L) (all left : Option (List ℕ)) : Type 0 where
  pub bytes : List ℕ
  pub parts : Consumes all left bytes
  pub taken : (s : FileInput) → HasTaken has_read old s → HasTaken has_read new (with_bytes s bytes)

-- nothing is read at first
pub consumes-nil : (all : Option (List ℕ)) → Consumes all all []
consumes-nil None = tt
consumes-nil (Some xs) = refl

-- more bytes are read
pub consumes-more : (all left next : Option (List ℕ)) (bytes more : List ℕ) → Consumes all left bytes
    → Consumes left next more
    → Consumes all next (bytes ++ more)
consumes-more None left next bytes more was is = tt
consumes-more (Some xs) None next bytes more was is = absurd was
consumes-more (Some xs) (Some ys) None bytes more was is = absurd is
consumes-more (Some xs) (Some ys) (Some zs) bytes more was is =
    was ∙ ap (λ (t : List ℕ). bytes ++ t) is ∙ sym (append_assoc bytes more zs)

-- nothing more is read
pub consumes-kept : (all left next : Option (List ℕ)) (bytes : List ℕ) → Consumes all left bytes → Keeps left next
    → Consumes all next bytes
consumes-kept None left next bytes was is = tt
consumes-kept (Some xs) None next bytes was is = absurd was
consumes-kept (Some xs) (Some ys) None bytes was is = absurd is
consumes-kept (Some xs) (Some ys) (Some zs) bytes was is = was ∙ ap (λ (t : List ℕ). bytes ++ t) (sym is)

-- at the end all is read
pub all-read : (all left next : Option (List ℕ)) (bytes : List ℕ) → Consumes all left bytes → Consumes left next []
    → IsAtEnd next → AreAllOf all bytes
all-read None left next bytes was is ends = tt
all-read (Some xs) None next bytes was is ends = absurd was
all-read (Some xs) (Some ys) None bytes was is ends = absurd is
all-read (Some xs) (Some ys) (Some zs) bytes was is ends =
    sym (was ∙ ap (λ (t : List ℕ). bytes ++ t) (is ∙ ends) ∙ append-nil bytes)

-- with these bytes of the current file
abbrev with_current : FileInput → List ℕ → FileInput
with_current s current = record {
  keep = s.keep;
  stations = s.stations;
  files = record { ended = s.files.ended; current = current };
}

-- one file after some others
with_files-one : (s : FileInput) (files : List (List ℕ)) (bytes : List ℕ)
    → with_files s (files ++ bytes ∷ []) ≡ with_file (with_files s files) bytes
with_files-one s [] bytes = refl
with_files-one s (f ∷ fs) bytes = with_files-one (with_file s f) fs bytes

-- one file more has all of its bytes
files_of-one : (known : List (Option (List ℕ))) (files : List (List ℕ)) (one : Option (List ℕ)) (bytes : List ℕ)
    → AreFilesOf known files → AreAllOf one bytes → AreFilesOf (known ++ one ∷ []) (files ++ bytes ∷ [])
files_of-one [] [] one bytes all is = (is, tt)
files_of-one [] (f ∷ fs) one bytes all is = absurd all
files_of-one (k ∷ ks) [] one bytes all is = absurd all
files_of-one (k ∷ ks) (f ∷ fs) one bytes all is = (all.0, files_of-one ks fs one bytes all.1 is)

-- files that are fed to an intake that was given whole files
pub input-files : (keep : Keep) (stations : List ℕ) (ended files : List (List ℕ))
    → with_files (file_input keep stations ended) files ≡ file_input keep stations (ended ++ files)
input-files keep stations ended [] = ap (file_input keep stations) (sym (append-nil ended))
input-files keep stations ended (f ∷ fs) =
    input-files keep stations (ended ++ f ∷ []) fs ∙ ap (file_input keep stations) (append_assoc ended (f ∷ []) fs)

-- what is known of the first files, and of one more
pub known-more : {X : Type 0} (f : X → Option (List ℕ)) (xs : List X) (i : ℕ) (d : X) → i < length xs
    → map f (take (i + 1) xs) ≡ map f (take i xs) ++ f (get_or xs i d) ∷ []
known-more {X} f xs i d lt = ap (λ k. map f (take k xs)) (add-one i) ∙ go xs i d lt
  where
    go : (xs : List X) (i : ℕ) (d : X) → i < length xs
        → map f (take (suc i) xs) ≡ map f (take i xs) ++ f (get_or xs i d) ∷ []
    go [] i d lt = absurd (omega arith)
    go (x ∷ xs) zero d lt = refl
    go (x ∷ xs) (suc i) d lt = ap (λ (ks : List (Option (List ℕ))). f x ∷ ks) (go xs i d (omega arith))

-- what is known of the first files, if these are all
pub known-all : {X : Type 0} (f : X → Option (List ℕ)) (xs : List X) (i : ℕ) → length xs ≤ i
    → map f (take i xs) ≡ map f xs
known-all f [] zero le = refl
known-all f [] (suc i) le = refl
known-all f (x ∷ xs) zero le = absurd (omega arith)
known-all f (x ∷ xs) (suc i) le = ap (λ (ks : List (Option (List ℕ))). f x ∷ ks) (known-all f xs i (omega arith))

module _ {L : Type 0} (has_read : Reading L) where
  -- with no bytes more
  with_bytes-nil : (t : Intake L) (s : FileInput) → HasTaken has_read t s → HasTaken has_read t (with_bytes s [])
  with_bytes-nil t s is =
      subst (λ (current : List ℕ). HasTaken has_read t (with_current s current)) (sym (append-nil s.files.current)) is

  -- nothing is fed at first
  pub fed-nothing : (t : Intake L) (all : Option (List ℕ)) → IsFedTo has_read t t all all
  fed-nothing t all = record { bytes = []; parts = consumes-nil all; taken = λ s is. with_bytes-nil t s is }

  -- a piece more is fed
  pub fed-more : (old mid new : Intake L) (all left next : Option (List ℕ)) (piece : List ℕ)
      → IsFedTo has_read old mid all left → Consumes left next piece → TakesBytes has_read mid new piece
      → IsFedTo has_read old new all next
  fed-more old mid new all left next piece was is takes = record {
    bytes = was.bytes ++ piece;
    parts = consumes-more all left next was.bytes piece was.parts is;
    taken = λ s has.
        subst (λ (current : List ℕ). HasTaken has_read new (with_current s current))
        (append_assoc s.files.current was.bytes piece) (takes.holds (with_bytes s was.bytes) (was.taken s has));
  }

  -- a read that returned nothing
  pub fed-kept : (old new : Intake L) (all left next : Option (List ℕ)) → IsFedTo has_read old new all left
      → Keeps left next → IsFedTo has_read old new all next
  fed-kept old new all left next was is = record {
    bytes = was.bytes;
    parts = consumes-kept all left next was.bytes was.parts is;
    taken = was.taken;
  }

  -- all is fed if a read returned nothing
  pub fed-end : (old new : Intake L) (all left next : Option (List ℕ)) (n : ℕ) (buffer : List ℕ)
      → IsFedTo has_read old new all left
      → n ≡ 0 → Consumes left next (take n buffer) × (n ≡ 0 → 0 < length buffer → IsAtEnd next) → 0 < length buffer
      → FeedsBytes has_read old new all
  fed-end old new all left next n buffer was none is some = record {
    bytes = was.bytes;
    all = all-read all left next was.bytes was.parts (subst (λ k. Consumes left next (take k buffer)) none is.0)
        (is.1 none some);
    taken = was.taken;
  }

  -- the end of a file is fed after all of its bytes
  pub fed-whole : (old mid new : Intake L) (all : Option (List ℕ)) → FeedsBytes has_read old mid all
      → TakesFileEnd has_read mid new → FeedsFile has_read old new all
  fed-whole old mid new all was takes = record {
    bytes = was.bytes;
    all = was.all;
    taken = λ s has. takes.holds (with_bytes s was.bytes) (was.taken s has);
  }

  -- something was given if something was before
  pub fed-some : (old new : Intake L) (all left : Option (List ℕ)) → HasTakenSome has_read old
      → IsFedTo has_read old new all left → HasTakenSome has_read new
  fed-some old new all left some was = (with_bytes some.0 was.bytes, was.taken some.0 some.1)

  -- no file is fed
  pub files-none : (t : Intake L) → FeedsFiles has_read t t []
  files-none t = record { files = []; all = tt; taken = λ i is. is }

  -- one file more is fed
  pub files-more : (old mid new : Intake L) (known : List (Option (List ℕ))) (one : Option (List ℕ))
      → FeedsFiles has_read old mid known
      → FeedsFile has_read mid new one → FeedsFiles has_read old new (known ++ one ∷ [])
  files-more old mid new known one was is = record {
    files = was.files ++ is.bytes ∷ [];
    all = files_of-one known was.files one is.bytes was.all is.all;
    taken = λ s has.
        subst (HasTaken has_read new) (sym (with_files-one s was.files is.bytes))
        (is.taken (with_files s was.files) (was.taken s has));
  }

  -- one file more of a list is fed
  pub files-next : {X : Type 0} (old mid new : Intake L) (f : X → Option (List ℕ)) (xs : List X) (i : ℕ) (x : X)
      (known : Option (List ℕ)) → i < length xs → get_or xs i x ≡ x → known ≡ f x
      → FeedsFiles has_read old mid (map f (take i xs))
      → FeedsFile has_read mid new known → FeedsFiles has_read old new (map f (take (i + 1) xs))
  files-next old mid new f xs i x known lt at same was is =
      subst (FeedsFiles has_read old new) (sym (known-more f xs i x lt ∙ ap (λ y. map f (take i xs) ++ f y ∷ []) at))
      (files-more old mid new (map f (take i xs)) (f x) was (subst (FeedsFile has_read mid new) same is))

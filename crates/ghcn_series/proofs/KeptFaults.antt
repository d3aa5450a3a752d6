-- What a cutter knows that has taken a piece or a file's end, and what it returns when all files are ended.
use Rattle.ghcn_series.proofs.Cited.{◌≡◌, ℕ, true, false, ◌+◌, ◌<◌, ◌≤◌, ◌^◌, List, [], length, Option, None, Some}
use Rattle.ghcn_series.proofs.Cited.{refl, sym, ap, ◌∙◌, subst, length-append, arith, is_none, Result, OnOk, IfErr}
use Rattle.ghcn_series.proofs.Cited.{result_err, ltb-true, nat_tests, append-nil, nil_from_length, IfOk-weaker}
use Rattle.ghcn_series.proofs.Cited.{IfErr-weaker, IsRefusal, Cutter, DataFault, HaveCounted, IsCutFile, lines_to}
use Rattle.ghcn_series.proofs.Cited.{HasReadFed, HasLineFault, HasCounted, HasFed, HasFedSome, EndsFile, LooksAtLines}
use Rattle.ghcn_series.proofs.Cited.{daily_lines, is_memory, Files, Fed, ended_files, more, with_end, with_files}
use Rattle.ghcn_series.proofs.Cited.{files_of, IsLineRefusal, HasReadSome, in_64_bits, data_of}
use Rattle.std.proofs.lemmas.Bool.{leb-true, ltb-false}
use Rattle.ghcn_series.specs.declared.cutter.Cut.{Cut}
use Rattle.ghcn_series.specs.Cut.{TakesPiece, HoldsFed, RefusesFed, CountsFew}
use Rattle.ghcn_series.specs.Cut.{ReadsBytes, RefusesBytes, ReadsEnd, RefusesEnd}
use Rattle.ghcn_series.specs.LinesRead.{Reading}
use Rattle.ghcn_series.proofs.AlikeBeginnings.{begin-some}
use Rattle.ghcn_series.proofs.ReadFiles.{data_of-refused, first_refusal}
use Rattle.ghcn_series.proofs.FedCounts.{and_current-some, counted-more, counted-end, at_file, at_place, may_be_read}
use Rattle.ghcn_series.proofs.FedCounts.{few_before, few_at_end}
use Rattle.ghcn_series.proofs.FedPieces.{same_read, kept_fault, without_fault, with_fault, fault-more, fault-end}

-- if lines are looked at, there is no error, and the files are few
pub looking : {L : Type 0} (c : Cutter L) (files : Files) → LooksAtLines c true → HasCounted c files
    → (is_none c.fault ≡ true) × (length (files_of files) ≤ 2 ^ 20)
looking c files looks counted = grind (arith, nat_tests, looks.is files counted)

-- if they aren't, few files have an error
passing : {L : Type 0} (c : Cutter L) (files : Files) → LooksAtLines c false → HasCounted c files
    → length (files_of files) ≤ 2 ^ 20 → is_none c.fault ≡ false
passing c files looks counted few = grind (arith, nat_tests, looks.is files counted)

-- a cutter whose current file has a byte
abbrev pub with_byte : {L : Type 0} → Cutter L → Cutter L
with_byte c = record c { begun = true }

-- a cutter that keeps this error, or none
abbrev pub keeping : {L : Type 0} → Cutter L → Option DataFault → Cutter L
keeping c fault = record c { fault = fault }

-- a cutter that has ended that many files
abbrev pub ending : {L : Type 0} → Cutter L → ℕ → Cutter L
ending c ended = record c { ended = ended; begun = false }

-- a cutter has ended the files that another was fed
pub record HasEnded {L : Type 0} (has_read : Reading L) (old new : Cutter L) : Type 0 where
  pub holds : (fed : Fed) → HasFed has_read old fed
      → HasFed has_read new (with_files fed (ended_files (files_of fed.files)))

-- no byte of ended files is left
none_left : (files : List (List ℕ)) (whole rest : List ℕ) → IsCutFile (ended_files files) whole rest → whole ≡ []
none_left files whole rest cut = nil_from_length whole (omega (arith, ap length cut.parts, length-append whole rest))

-- so their lines are all that was read
pub lines-all : (files : List (List ℕ)) (whole rest : List ℕ) → IsCutFile (ended_files files) whole rest
    → lines_to (ended_files files) whole ≡ daily_lines files
lines-all files whole rest cut = rw (none_left files whole rest cut) (append-nil (daily_lines files))

module _ {L : Type 0} {has_read : Reading L} where
  -- what was read of the files that came, and at which file the cutter is
  pub read_on : (c : Cutter L) (fed : Fed) → LooksAtLines c true → HasFed has_read c fed
      → HasReadFed has_read c fed × (c.ended ≡ length fed.files.ended)
  read_on c fed looks is =
      let few = looking c fed.files looks is.counted in
      (without_fault c fed few.0 (is.fault few.1), at_file c fed.files few.1 is.counted)

  -- ---- a piece

  -- the bytes are counted
  byte_counted : (c : Cutter L) (fed : Fed) (bytes : List ℕ) → 0 < length bytes → HasFed has_read c fed
      → HasCounted (with_byte c) (more fed.files bytes)
  byte_counted c fed bytes some is = counted-more c (with_byte c) fed.files bytes some refl refl is.counted

  -- a piece that is looked at belongs to a file with a number
  pub piece-few : (c : Cutter L) (bytes : List ℕ) → 0 < length bytes → LooksAtLines (with_byte c) true
      → HasFedSome has_read c → c.ended < 2 ^ 20
  piece-few c bytes some looks fed =
      let counted = byte_counted c fed.0 bytes some fed.1 in
      may_be_read (with_byte c) (more fed.0.files bytes)
      (looking (with_byte c) (more fed.0.files bytes) looks counted).1
      (omega (arith, some, length-append fed.0.files.current bytes)) counted

  -- before a piece that is looked at, lines were read
  pub piece-some : (c : Cutter L) (bytes : List ℕ) → 0 < length bytes → LooksAtLines (with_byte c) true
      → HasFedSome has_read c → HasReadSome has_read c.reader
  piece-some c bytes some looks fed =
      let at = looking (with_byte c) (more fed.0.files bytes) looks (byte_counted c fed.0 bytes some fed.1) in
      let read = without_fault c fed.0 at.0 (fed.1.fault (few_before fed.0.files bytes at.1)) in
      (fed.0.stations, (fed.0.keep, (lines_to fed.0.files read.whole, read.read)))

  -- a piece that is read
  pub takes-read : (old after : Cutter L) (bytes : List ℕ) (result : Result (Unit {0}) DataFault)
      (fault : Option DataFault) → 0 < length bytes → LooksAtLines (with_byte old) true → after.ended ≡ old.ended
      → after.begun ≡ true → OnOk result (ReadsBytes has_read (with_byte old) after bytes)
      → IfErr result (RefusesBytes has_read (with_byte old) bytes) → fault ≡ result_err result
      → TakesPiece has_read old (keeping after fault) bytes
  takes-read old after bytes result fault some looks ended begun reads refuses kept = record {
    holds = λ fed is.
        let files = more fed.files bytes in let counted = byte_counted old fed bytes some is in
        let none = (looking (with_byte old) files looks counted).0 in
        record {
          counted = counted-more old (keeping after fault) fed.files bytes some ended begun is.counted;
          fault = λ few.
              let at : old.ended ≡ length fed.files.ended = at_file (with_byte old) files few counted in
              let before : HasReadFed has_read (with_byte old) fed =
              same_read old (with_byte old) fed refl refl refl refl
              (without_fault old fed none (is.fault (few_before fed.files bytes few))) in
              rw kept (kept_fault has_read after (keeping after fault) (with_files fed files) result refl refl refl refl
              (IfOk-weaker result _ _ (λ _ step. step.holds fed at before) reads)
              (IfErr-weaker result _ _ (λ f step. step.found fed at before) refuses));
        };
  }

  -- a piece that isn't looked at
  pub takes-passed : (old : Cutter L) (bytes : List ℕ) → 0 < length bytes → LooksAtLines (with_byte old) false
      → TakesPiece has_read old (with_byte old) bytes
  takes-passed old bytes some looks = record {
    holds = λ fed is.
        let files = more fed.files bytes in let counted = byte_counted old fed bytes some is in
        record {
          counted = counted;
          fault = λ few. with_fault has_read old (with_byte old) fed (with_files fed files) old.fault
              (λ f has. fault-more fed f bytes has)
              (passing (with_byte old) files looks counted few) (is.fault (few_before fed.files bytes few));
        };
  }

  -- what was fed goes on with a piece
  pub going-piece : (old new : Cutter L) (bytes : List ℕ) → TakesPiece has_read old new bytes
      → HasFedSome has_read old → HasFedSome has_read new
  going-piece old new bytes takes fed = (with_files fed.0 (more fed.0.files bytes), takes.holds fed.0 fed.1)

  -- ---- the end of a file

  -- a last line without its feed belongs to a file with a number
  pub end-few : (c : Cutter L) → LooksAtLines c true → HasFedSome has_read c → 0 < length c.rest.items
      → c.ended < 2 ^ 20
  end-few c looks fed some =
      let at = looking c fed.0.files looks fed.1.counted in
      let read = without_fault c fed.0 at.0 (fed.1.fault at.1) in
      let some_rest = begin-some read.rest c.rest.items read.kept some in
      may_be_read c fed.0.files at.1
      (omega (arith, ap length read.cut.parts, length-append read.whole read.rest)) fed.1.counted

  -- the place of a file whose end is looked at is one of the first
  pub end-place : (c : Cutter L) → LooksAtLines c true → HasFedSome has_read c → c.ended ≤ 2 ^ 20
  end-place c looks fed = at_place c fed.0.files (looking c fed.0.files looks fed.1.counted).1 fed.1.counted

  -- before a file's end that is looked at, lines were read
  pub end-some : (c : Cutter L) → LooksAtLines c true → HasFedSome has_read c → HasReadSome has_read c.reader
  end-some c looks fed =
      let read = (read_on c fed.0 looks fed.1).0 in
      (fed.0.stations, (fed.0.keep, (lines_to fed.0.files read.whole, read.read)))

  -- a file that is read to its end
  pub ends-read : (old after : Cutter L) (result : Result (Unit {0}) DataFault) (fault : Option DataFault)
      (ended : ℕ) → LooksAtLines old true → after.ended ≡ old.ended → OnOk result (ReadsEnd has_read old after)
      → IfErr result (RefusesEnd has_read old) → fault ≡ result_err result → ended ≡ in_64_bits (after.ended + 1)
      → EndsFile has_read old (ending (keeping after fault) ended)
  ends-read old after result fault ended looks same reads refuses kept one_more = record {
    holds = λ fed is.
        let new = ending (keeping after fault) ended in
        let now = read_on old fed looks is in
        record {
          counted = counted-end old new fed.files (one_more ∙ ap (λ n. in_64_bits (n + 1)) same) refl is.counted;
          fault = λ few.
              rw kept (kept_fault has_read after new (with_files fed (with_end fed.files)) result refl refl refl refl
              (IfOk-weaker result _ _ (λ _ step. step.holds fed now.1 now.0) reads)
              (IfErr-weaker result _ _ (λ f step. step.found fed now.1 now.0) refuses));
        };
  }

  -- a file whose end isn't looked at
  pub ends-passed : (old : Cutter L) (ended : ℕ) → LooksAtLines old false → ended ≡ in_64_bits (old.ended + 1)
      → EndsFile has_read old (ending old ended)
  ends-passed old ended looks one_more = record {
    holds = λ fed is. record {
      counted = counted-end old (ending old ended) fed.files one_more refl is.counted;
      fault = λ few.
          let few_now = few_at_end fed.files few in
          with_fault has_read old (ending old ended) fed (with_files fed (with_end fed.files)) old.fault
          (λ f has. fault-end fed f has) (passing old fed.files looks is.counted few_now) (is.fault few_now);
    };
  }

  -- what was fed goes on with a file's end
  pub going-end : (old new : Cutter L) → EndsFile has_read old new → HasFedSome has_read old → HasFedSome has_read new
  going-end old new ends fed = (with_files fed.0 (with_end fed.0.files), ends.holds fed.0 fed.1)

  -- ---- when all files are ended

  -- the current file had a byte, and is ended
  pub ended-begun : (old new : Cutter L) → old.begun ≡ true → EndsFile has_read old new → HasEnded has_read old new
  ended-begun old new begun ends = record {
    holds = λ fed is.
        let some : 0 < length fed.files.current =
        ltb-true 0 (length fed.files.current) (sym is.counted.begun ∙ begun) in
        rw (and_current-some fed.files.ended fed.files.current some) (ends.holds fed is);
  }

  -- or it had none
  pub ended-unbegun : (c : Cutter L) → c.begun ≡ false → HasEnded has_read c c
  ended-unbegun c begun = record {
    holds = λ fed is.
        let none : fed.files.current ≡ [] = nil_from_length fed.files.current
        (omega (arith, ltb-false 0 (length fed.files.current) (sym is.counted.begun ∙ begun))) in
        let P : List ℕ → Type 0 = λ current.
        HasFed has_read c (with_files fed (more (ended_files fed.files.ended) current)) in rw none (subst P none is);
  }

  -- all that was fed is read
  pub holds_fed : (old c : Cutter L) (all : Cut L) → HasEnded has_read old c → CountsFew c true → c.fault ≡ None
      → all.reader ≡ c.reader → all.files ≡ c.ended → all.counts ≡ c.counts → HoldsFed has_read old all
  holds_fed old c all ended counts none reader number counted = record {
    is = λ fed is.
        let files = files_of fed.files in let now = ended.holds fed is in
        let few = leb-true (length files) (2 ^ 20) (sym (counts.is (ended_files files) now.counted)) in
        let read = without_fault c (with_files fed (ended_files files)) (ap is_none none) (now.fault few) in
        record {
          few = few;
          read = rw reader (subst (has_read c.reader fed.stations fed.keep)
              (lines-all files read.whole read.rest read.cut) read.read);
          number = number ∙ at_file c (ended_files files) few now.counted;
          counted = rw counted (subst (HaveCounted c.counts files)
              (none_left files read.whole read.rest read.cut) read.counted);
        };
  }

  -- and its reader has read something
  pub some_fed : (c : Cutter L) (all : Cut L) → HoldsFed has_read c all → HasFedSome has_read c
      → HasReadSome has_read all.reader
  some_fed c all holds fed =
      let read = (holds.is fed.0 fed.1).read in
      (fed.0.stations, (fed.0.keep, (daily_lines (files_of fed.0.files), read)))

  -- the error that is kept of all that was fed
  pub refuses_kept : (old c : Cutter L) (f : DataFault) → HasEnded has_read old c → CountsFew c true
      → c.fault ≡ Some f → RefusesFed has_read old f
  refuses_kept old c f ended counts kept =
      let refuses : (fed : Fed) → HasFed has_read old fed → (length (files_of fed.files) ≤ 2 ^ 20)
      × IsRefusal is_memory f (data_of fed.stations (files_of fed.files)) = λ fed is.
      let files = files_of fed.files in let now = ended.holds fed is in
      let few = leb-true (length files) (2 ^ 20) (sym (counts.is (ended_files files) now.counted)) in
      let has : HasLineFault (with_files fed (ended_files files)) f = rw kept at (now.fault few) in (
        few,
        data_of-refused fed.stations files f few
            (subst (λ ls. IsLineRefusal fed.stations ls f) (lines-all files has.whole has.rest has.cut) has.first),
      ) in
      record {
        is = λ fed is. (refuses fed is).1;
        first = λ fed is. first_refusal fed.stations (files_of fed.files) f (refuses fed is).0 (refuses fed is).1;
      }

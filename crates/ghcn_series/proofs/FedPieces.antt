-- A cutter that has read one line more, one file's end more, or part of a line.
use Rattle.ghcn_series.proofs.Cited.{◌≡◌, ℕ, ◌+◌, ◌<◌, List, [], ◌∷◌, ◌++◌, length, inl, inr, refl, sym, ap, ◌∙◌, subst}
use Rattle.ghcn_series.proofs.Cited.{append_assoc, length-append, arith, ◌==◌, true, false, is_none, Option, None, Some}
use Rattle.ghcn_series.proofs.Cited.{Result, Ok, Err, OnOk, IfErr, enumerate_from, result_err, strip_carriage_return}
use Rattle.ghcn_series.proofs.Cited.{append-nil, lines, HasNoLineFeed, lines-append, Cutter, DataFault, Memory}
use Rattle.ghcn_series.proofs.Cited.{BeginAlike, HaveCounted, IsCutFile, lines_to, HasReadFed, HasLineFault, not_blank}
use Rattle.ghcn_series.proofs.Cited.{daily_lines, Files, Fed, more, with_end, with_files, IsLineRefusal}
use Rattle.ghcn_files.proofs.LineLaws.{lines-one, lines-unended}
use Rattle.ghcn_series.specs.Cut.{HasFault, AddsLine, RefusesLine}
use Rattle.ghcn_series.specs.DailyFaults.{one_line}
use Rattle.ghcn_series.specs.Fed.{IsOfMemory}
use Rattle.ghcn_series.specs.LinesRead.{Reading}
use Rattle.ghcn_series.proofs.AlikeBeginnings.{begin-same, begin-alike, begin-more, begin-some, begin-none}
use Rattle.ghcn_series.proofs.CountedLines.{counted-line}
use Rattle.ghcn_series.proofs.ListFacts.{each-append}
use Rattle.ghcn_series.proofs.ReadLines.{refused_among}
use Rattle.ghcn_series.proofs.FedLines.{file_lines-append, daily_lines-one}

-- ---- files that are cut

-- the current file, cut after one line more
cut_behind : (files : Files) (whole rest line behind : List ℕ) → IsCutFile files whole rest
    → IsCutFile (more files (line ++ 10 ∷ behind)) (whole ++ ((rest ++ line) ++ 10 ∷ [])) behind
cut_behind files whole rest line behind cut = record {
  parts = rw cut.parts (simp append_assoc);
  ends = inr (whole ++ (rest ++ line), sym (append_assoc whole (rest ++ line) (10 ∷ [])));
}

-- a line and its line feed, of which a first part was there
lines-fed : (rest line : List ℕ) → HasNoLineFeed rest → HasNoLineFeed line
    → lines ((rest ++ line) ++ 10 ∷ []) ≡ strip_carriage_return (rest ++ line) ∷ []
lines-fed rest line none none_too =
    lines-one (rest ++ line) (each-append (λ (b : ℕ). (b == 10) ≡ false) rest line none none_too)

-- what is left of a file is its last line
lines-rest : (rest : List ℕ) → 0 < length rest → HasNoLineFeed rest
    → lines rest ≡ strip_carriage_return (rest ++ []) ∷ []
lines-rest [] some none = absurd (omega arith)
lines-rest (b ∷ bs) some none = rw (append-nil bs) (lines-unended b bs none)

-- no whole line of the current file is cut off
uncut : (files : Files) → IsCutFile files [] files.current
uncut files = record { parts = refl; ends = inl refl }

-- the lines of the files, when the current one is ended
lines_at_end : (files : Files) → lines_to (with_end files) [] ≡ lines_to files files.current
lines_at_end files =
    append-nil (daily_lines (files.ended ++ files.current ∷ [])) ∙ daily_lines-one files.ended files.current

-- an error of the lines of the files, when the current one is ended
found_at_end : (fed : Fed) (whole : List ℕ) (f : DataFault) → fed.files.current ≡ whole
    → IsLineRefusal fed.stations (lines_to fed.files whole) f → HasLineFault (with_files fed (with_end fed.files)) f
found_at_end fed whole f all first =
    record { whole = []; rest = []; cut = uncut (with_end fed.files); first = rw (lines_at_end fed.files, all) first }

-- more bytes after change no error
pub fault-more : (fed : Fed) (f : DataFault) (bytes : List ℕ) → HasLineFault fed f
    → HasLineFault (with_files fed (more fed.files bytes)) f
fault-more fed f bytes is = record {
  whole = is.whole;
  rest = is.rest ++ bytes;
  cut = record { parts = rw is.cut.parts (append_assoc is.whole is.rest bytes); ends = is.cut.ends };
  first = is.first;
}

-- nor does the end of the file
pub fault-end : (fed : Fed) (f : DataFault) → HasLineFault fed f → HasLineFault (with_files fed (with_end fed.files)) f
fault-end fed f is =
    let after = not_blank (length fed.files.ended + 1) (enumerate_from (1 + length (lines is.whole)) (lines is.rest)) in
    found_at_end fed (is.whole ++ is.rest) f is.cut.parts
    (rw (file_lines-append (length fed.files.ended + 1) is.whole is.rest is.cut.ends, ← append_assoc)
    (refused_among fed.stations (lines_to fed.files is.whole) after f is.first))

-- out of memory can be found anywhere
pub memory-found : (fed : Fed) (f : DataFault) → IsOfMemory f → HasLineFault fed f
memory-found fed (Memory m) is = record { whole = []; rest = fed.files.current; cut = uncut fed.files; first = tt }
memory-found fed f is = absurd is

-- how far a piece is read: some of its lines are done
pub record IsWithinPiece {L : Type 0} (has_read : Reading L) (now : Cutter L) (before : Fed) (left bytes : List ℕ)
    : Type 0 where
  pub done : List ℕ
  pub parts : done ++ left ≡ bytes
  pub read : HasReadFed has_read now (with_files before (more before.files done))

module _ {L : Type 0} {has_read : Reading L} where
  -- ---- a line

  -- the cutter's own number of a line is that in the files
  numbered : (c : Cutter L) (fed : Fed) (tail line : List ℕ) (read : HasReadFed has_read c fed)
      → c.ended ≡ length fed.files.ended → lines tail ≡ strip_carriage_return (read.rest ++ line) ∷ []
      → lines_to fed.files read.whole ++ one_line (c.ended + 1) (c.line + 1) (read.rest ++ line)
      ≡ lines_to fed.files (read.whole ++ tail)
  numbered c fed tail line is at one =
      let next : 1 + length (lines is.whole) ≡ length (lines is.whole) + 1 = omega arith in
      rw (at, is.numbered, file_lines-append (length fed.files.ended + 1) is.whole tail is.cut.ends, one, next)
      (append_assoc (daily_lines fed.files.ended) _ _)

  -- and its counts are those of the files
  counted : (old new : Cutter L) (fed : Fed) (tail line : List ℕ) (read : HasReadFed has_read old fed)
      → old.ended ≡ length fed.files.ended → lines tail ≡ strip_carriage_return (read.rest ++ line) ∷ []
      → AddsLine has_read old new line → HaveCounted new.counts fed.files.ended (read.whole ++ tail)
  counted old new fed tail line is at one adds =
      counted-line old.counts new.counts fed.files.ended is.whole (is.whole ++ tail)
      (strip_carriage_return (is.rest ++ line)) (record { file = old.ended; line = old.line + 1 })
      (lines-append is.whole tail is.cut.ends ∙ ap (λ (ls : List (List ℕ)). lines is.whole ++ ls) one)
      (numbered old fed tail line is at one) (adds.counted is.rest is.kept) is.counted

  -- ---- a piece

  -- nothing of a piece is read yet
  pub piece-begun : (c : Cutter L) (bytes : List ℕ) (fed : Fed) → HasReadFed has_read c fed
      → IsWithinPiece has_read c fed bytes bytes
  piece-begun c bytes fed is = record { done = []; parts = refl; read = rw (append-nil fed.files.current) is }

  -- a line more of a piece
  pub piece-line : (old new : Cutter L) (line behind left bytes : List ℕ) (fed : Fed) → left ≡ line ++ 10 ∷ behind
      → HasNoLineFeed line → old.ended ≡ length fed.files.ended → AddsLine has_read old new line
      → IsWithinPiece has_read old fed left bytes → IsWithinPiece has_read new fed behind bytes
  piece-line old new line behind left bytes fed parts none at adds within =
      let so_far = with_files fed (more fed.files within.done) in let is = within.read in
      let tail = (is.rest ++ line) ++ 10 ∷ [] in let one = lines-fed is.rest line is.unended none in
      record {
        done = within.done ++ (line ++ 10 ∷ []);
        parts = simp append_assoc (rw parts at within.parts);
        read = rw (← append_assoc fed.files.current within.done (line ++ 10 ∷ [])) (record {
          whole = is.whole ++ tail;
          rest = [];
          cut = cut_behind so_far.files is.whole is.rest line [] is.cut;
          unended = tt;
          kept = rw adds.rest (begin-same []);
          numbered = rw (lines-append is.whole tail is.cut.ends, one)
              (omega (arith, adds.numbered, is.numbered, length-append {A = List ℕ}));
          counted = counted old new so_far tail line is at one adds;
          read = subst (has_read new.reader fed.stations fed.keep) (numbered old so_far tail line is at one)
              ((adds.read is.rest is.kept).holds fed.stations fed.keep (lines_to so_far.files is.whole) is.read);
        });
      }

  -- the error of a line of a piece
  pub piece-found : (old : Cutter L) (line behind left bytes : List ℕ) (fed : Fed) (f : DataFault)
      → left ≡ line ++ 10 ∷ behind → HasNoLineFeed line → old.ended ≡ length fed.files.ended
      → RefusesLine has_read old line f → IsWithinPiece has_read old fed left bytes
      → HasLineFault (with_files fed (more fed.files bytes)) f
  piece-found old line behind left bytes fed f parts none at refuses within =
      let so_far = with_files fed (more fed.files within.done) in let is = within.read in
      let one = lines-fed is.rest line is.unended none in
      rw (← within.parts, parts, ← append_assoc fed.files.current within.done (line ++ 10 ∷ behind)) (record {
        whole = is.whole ++ ((is.rest ++ line) ++ 10 ∷ []);
        rest = behind;
        cut = cut_behind so_far.files is.whole is.rest line behind is.cut;
        first = rw (← numbered old so_far ((is.rest ++ line) ++ 10 ∷ []) line is at one)
            ((refuses.found is.rest is.kept).first fed.stations fed.keep (lines_to so_far.files is.whole) is.read);
      })

  -- the last bytes of a piece, which no line feed ends
  pub piece-part : (old new : Cutter L) (left bytes : List ℕ) (fed : Fed) → HasNoLineFeed left → new.reader ≡ old.reader
      → new.counts ≡ old.counts → new.line ≡ old.line → BeginAlike (old.rest.items ++ left) new.rest.items
      → IsWithinPiece has_read old fed left bytes → HasReadFed has_read new (with_files fed (more fed.files bytes))
  piece-part old new left bytes fed none reader counts line kept within = let is = within.read in
      record {
        whole = is.whole;
        rest = is.rest ++ left;
        cut = record {
          parts = rw (← within.parts, ← append_assoc, is.cut.parts) (simp append_assoc);
          ends = is.cut.ends;
        };
        unended = each-append (λ (b : ℕ). (b == 10) ≡ false) is.rest left is.unended none;
        kept = begin-alike (is.rest ++ left) (old.rest.items ++ left) new.rest.items
            (begin-more is.rest old.rest.items left is.kept) kept;
        numbered = line ∙ is.numbered;
        counted = rw counts is.counted;
        read = rw reader is.read;
      }

  -- ---- the end of a file

  -- the current file is ended, and its lines were read
  file-read : (new : Cutter L) (fed : Fed) (whole : List ℕ) → fed.files.current ≡ whole → new.line ≡ 0
      → new.rest.items ≡ [] → HaveCounted new.counts (fed.files.ended ++ whole ∷ []) []
      → has_read new.reader fed.stations fed.keep (lines_to fed.files whole)
      → HasReadFed has_read new (with_files fed (with_end fed.files))
  file-read new fed whole all line empty counts read = record {
    whole = [];
    rest = [];
    cut = uncut (with_end fed.files);
    unended = tt;
    kept = rw empty (begin-same []);
    numbered = line;
    counted = rw all counts;
    read = rw (lines_at_end fed.files, all) read;
  }

  -- the current file is ended, after its last line feed
  pub end-read : (old new : Cutter L) (fed : Fed) → old.ended ≡ length fed.files.ended → old.rest.items ≡ []
      → new.reader ≡ old.reader
      → ((ended : List (List ℕ)) (whole : List ℕ) → old.ended ≡ length ended → old.line ≡ length (lines whole)
      → HaveCounted old.counts ended whole → HaveCounted new.counts (ended ++ whole ∷ []) [])
      → new.line ≡ 0 → new.rest.items ≡ [] → HasReadFed has_read old fed
      → HasReadFed has_read new (with_files fed (with_end fed.files))
  end-read old new fed at none reader counts line empty is =
      let all : fed.files.current ≡ is.whole =
      rw (is.cut.parts, begin-none is.rest old.rest.items is.kept none) (append-nil is.whole) in
      file-read new fed is.whole all line empty (counts fed.files.ended is.whole at is.numbered is.counted)
      (rw reader is.read)

  -- the current file is ended in its last line
  pub last-read : (old mid new : Cutter L) (fed : Fed) → old.ended ≡ length fed.files.ended
      → 0 < length old.rest.items → AddsLine has_read old mid [] → mid.ended ≡ old.ended → new.reader ≡ mid.reader
      → ((ended : List (List ℕ)) (whole : List ℕ) → mid.ended ≡ length ended → mid.line ≡ length (lines whole)
      → HaveCounted mid.counts ended whole → HaveCounted new.counts (ended ++ whole ∷ []) [])
      → new.line ≡ 0 → new.rest.items ≡ [] → HasReadFed has_read old fed
      → HasReadFed has_read new (with_files fed (with_end fed.files))
  last-read old mid new fed at some adds same reader counts line empty is =
      let one = lines-rest is.rest (begin-some is.rest old.rest.items is.kept some) is.unended in
      let number : mid.line ≡ length (lines (is.whole ++ is.rest)) =
      rw (lines-append is.whole is.rest is.cut.ends, one)
      (omega (arith, adds.numbered, is.numbered, length-append {A = List ℕ})) in
      file-read new fed (is.whole ++ is.rest) is.cut.parts line empty (counts fed.files.ended (is.whole ++ is.rest)
      (same ∙ at) number (counted old mid fed is.rest [] is at one adds))
      (rw (reader, ← numbered old fed is.rest [] is at one)
      ((adds.read is.rest is.kept).holds fed.stations fed.keep (lines_to fed.files is.whole) is.read))

  -- the error of a file's last line is found at the file's end
  pub last-found : (old : Cutter L) (fed : Fed) (f : DataFault) → old.ended ≡ length fed.files.ended
      → 0 < length old.rest.items → RefusesLine has_read old [] f → HasReadFed has_read old fed
      → HasLineFault (with_files fed (with_end fed.files)) f
  last-found old fed f at some refuses is =
      let one = lines-rest is.rest (begin-some is.rest old.rest.items is.kept some) is.unended in
      found_at_end fed (is.whole ++ is.rest) f is.cut.parts (rw (← numbered old fed is.rest [] is at one)
      ((refuses.found is.rest is.kept).first fed.stations fed.keep (lines_to fed.files is.whole) is.read))

  -- ---- errors that are kept

  -- what was read depends on the lines alone
  pub same_read : (old new : Cutter L) (fed : Fed) → new.reader ≡ old.reader → new.counts ≡ old.counts
      → new.line ≡ old.line → new.rest ≡ old.rest → HasReadFed has_read old fed → HasReadFed has_read new fed
  same_read old new fed reader counts line rest is =
      rw (append-nil fed.files.current) at (piece-part old new [] [] fed tt reader counts line
      (rw (rest, append-nil old.rest.items) (begin-same old.rest.items)) (piece-begun old [] fed is))

  -- no error is kept
  pub without_fault : (c : Cutter L) (fed : Fed) → is_none c.fault ≡ true → HasFault has_read c fed c.fault
      → HasReadFed has_read c fed
  without_fault c fed none has =
      elim c.fault as (λ f. is_none f ≡ true → HasFault has_read c fed f → HasReadFed has_read c fed) [
        | None ↦ λ e is. is
        | Some f ↦ λ e is. absurd cc
      ] none has

module _ {L : Type 0} (has_read : Reading L) where
  -- what a cutter keeps that has read on: the error that was found, or none
  pub kept_fault : (after new : Cutter L) (fed : Fed) (result : Result (Unit {0}) DataFault)
      → new.reader ≡ after.reader → new.counts ≡ after.counts → new.line ≡ after.line → new.rest ≡ after.rest
      → OnOk result (HasReadFed has_read after fed) → IfErr result (HasLineFault fed)
      → HasFault has_read new fed (result_err result)
  kept_fault after new fed (Ok x) reader counts line rest read found =
      same_read after new fed reader counts line rest read
  kept_fault after new fed (Err f) reader counts line rest read found = found

  -- an error that is kept stays, with more bytes or with the file's end
  pub with_fault : (old new : Cutter L) (fed after : Fed) (kept : Option DataFault)
      → ((f : DataFault) → HasLineFault fed f → HasLineFault after f) → is_none kept ≡ false
      → HasFault has_read old fed kept → HasFault has_read new after kept
  with_fault old new fed after None stays e has = absurd cc
  with_fault old new fed after (Some f) stays e has = stays f has

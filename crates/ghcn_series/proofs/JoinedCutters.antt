-- A cutter that goes on after another one.
use Rattle.ghcn_series.proofs.Cited.{◌≡◌, ℕ, ◌+◌, ◌^◌, ◌<◌, Bool, true, false, List, [], ◌∷◌, ◌++◌, length, None, inl}
use Rattle.ghcn_series.proofs.Cited.{inr, refl, sym, ap, ◌∙◌, append_assoc, length-append, arith, ◌&&◌, ◌||◌, not}
use Rattle.ghcn_series.proofs.Cited.{nat_le, nat_lt, if◌then◌else◌, enumerate_from, filter_map, and-false, or-false}
use Rattle.ghcn_series.proofs.Cited.{or_left, false≢true, nat_tests, append-nil, filter_map-append, list_any-append}
use Rattle.ghcn_series.proofs.Cited.{lines, EndsLine, lines-append, StationId, Cutter, HaveCounted, JoinsCounts}
use Rattle.ghcn_series.proofs.Cited.{CutsForeign, IsCutFile, lines_to, HasReadFed, HasFed, HasFedSome, LooksAtLines}
use Rattle.ghcn_series.proofs.Cited.{FileLine, not_blank, file_lines, daily_lines, month_on, Files, Fed, with_files}
use Rattle.ghcn_series.proofs.Cited.{files_of, followed_by, going_on, and_current, has_month_of, line_texts, JoinsLines}
use Rattle.ghcn_series.proofs.Cited.{ReadOneStation, in_64_bits}
use Rattle.ghcn_series.specs.Cut.{WereFedAlike, Joins, StayApart, HasReadOn, GoOn}
use Rattle.ghcn_series.specs.LinesRead.{Reading, HaveReadAlike}
use Rattle.ghcn_series.proofs.AlikeBeginnings.{begin-none, begin-some}
use Rattle.ghcn_series.proofs.FedLines.{daily_lines-one, file_lines-append}
use Rattle.ghcn_series.proofs.FedPieces.{without_fault}
use Rattle.ghcn_series.proofs.JoinedLines.{lines_on, texts-on, ends-followed, parts-followed, ended-followed}
use Rattle.ghcn_series.proofs.JoinedLines.{length-followed, lines-followed, nothing_left}
use Rattle.ghcn_series.proofs.KeptFaults.{read_on, lines-all}

-- files that came: some that were ended, and the bytes of the one after them
abbrev files_at : List (List ℕ) → List ℕ → Files
files_at ended current = record { ended = ended; current = current }

-- ---- months of a station

-- lines with a month of a station have it with more lines after them
has_more : (ls behind : List FileLine) (id : StationId) → has_month_of (filter_map month_on ls) id ≡ true
    → has_month_of (filter_map month_on (ls ++ behind)) id ≡ true
has_more ls behind id has = simp (filter_map-append, list_any-append)
    (or_left (has_month_of (filter_map month_on ls) id) (has_month_of (filter_map month_on behind) id) has)

-- so have all lines of the files that came
has_in_all : (ended : List (List ℕ)) (current whole rest : List ℕ) (id : StationId)
    → IsCutFile (files_at ended current) whole rest
    → has_month_of (filter_map month_on (lines_to (files_at ended current) whole)) id ≡ true
    → has_month_of (filter_map month_on (daily_lines (and_current ended current))) id ≡ true
has_in_all ended [] whole rest id cut has = rw (lines-all ended whole rest cut) at has
has_in_all ended (b ∷ bs) whole rest id cut has =
    let n = length ended + 1 in
    let behind = not_blank n (enumerate_from (1 + length (lines whole)) (lines rest)) in
    let all : daily_lines (ended ++ (b ∷ bs) ∷ []) ≡ lines_to (files_at ended (b ∷ bs)) whole ++ behind =
    daily_lines-one ended (b ∷ bs) ∙ ap (λ (t : List ℕ). daily_lines ended ++ file_lines (n, t)) cut.parts
    ∙ rw (file_lines-append n whole rest cut.ends) (simp append_assoc) in
    rw all (has_more (lines_to (files_at ended (b ∷ bs)) whole) behind id has)

-- ---- the current file of both

-- one of two numbers isn't 0 if their sum isn't
one_some : (a b : ℕ) → (nat_lt 0 a || (nat_lt 0 b && true)) ≡ nat_lt 0 (b + a)
one_some a b = grind (arith, nat_tests)

-- it has begun if the last part of it has a byte, or if an earlier part has one and it didn't end
begun-followed : (files : Files) (others : List (List ℕ)) (bytes : List ℕ) (ends : Bool)
    → ends ≡ nat_lt 0 (length others) → (nat_lt 0 (length bytes) || (nat_lt 0 (length files.current) && not ends))
    ≡ nat_lt 0 (length (going_on files others bytes).current)
begun-followed files [] bytes ends is =
    rw (is, length-append files.current bytes) (one_some (length bytes) (length files.current))
begun-followed files (file ∷ others) bytes ends is =
    let some : ends ≡ true = is ∙ grind (arith, nat_tests) in
    rw (some, and-false (nat_lt 0 (length files.current))) (or-false (nat_lt 0 (length bytes)))

-- its lines are those of its parts that didn't end before
numbered-followed : (files : Files) (others : List (List ℕ)) (whole : List ℕ) (ends : Bool) → EndsLine files.current
    → ends ≡ nat_lt 0 (length others) → (if not ends then length (lines files.current) else 0) + length (lines whole)
    ≡ length (lines (going_on files others whole).current)
numbered-followed files [] whole ends line is = rw (is, lines-append files.current whole line)
    (omega (arith, length-append (lines files.current) (lines whole)))
numbered-followed files (file ∷ others) whole ends line is =
    let some : ends ≡ true = is ∙ grind (arith, nat_tests) in rw some (omega arith)

-- ---- cutters

-- a cutter has read the current file as whole lines
record HasReadWhole {L : Type 0} (has_read : Reading L) (c : Cutter L) (fed : Fed) : Type 0 where
  pub ends : EndsLine fed.files.current
  pub numbered : c.line ≡ length (lines fed.files.current)
  pub counted : HaveCounted c.counts fed.files.ended fed.files.current
  pub read : has_read c.reader fed.stations fed.keep (lines_to fed.files fed.files.current)

module _ {L : Type 0} {has_read : Reading L} where
  -- what was read of the files that came, by a cutter without an error
  read_well : (c : Cutter L) (fed : Fed) → HasReadOn c fed.files → HasFed has_read c fed → HasReadFed has_read c fed
  read_well c fed on is = without_fault c fed (rw on.right refl) (is.fault on.few)

  -- if nothing is left of a line, the current file is whole lines
  read_whole : (c : Cutter L) (fed : Fed) (read : HasReadFed has_read c fed) → read.rest ≡ []
      → HasReadWhole has_read c fed
  read_whole c fed read none =
      let whole : fed.files.current ≡ read.whole =
      read.cut.parts ∙ ap (λ (t : List ℕ). read.whole ++ t) none ∙ append-nil read.whole in
      record {
        ends = rw whole read.cut.ends;
        numbered = rw whole read.numbered;
        counted = rw whole read.counted;
        read = rw whole read.read;
      }

  -- two readers have read lines for the same stations
  pub readers-alike : (first next : Cutter L) → LooksAtLines first true → LooksAtLines next true
      → WereFedAlike has_read first next → HaveReadAlike has_read first.reader next.reader
  readers-alike first next looks looks_too alike =
      let one = (read_on first alike.fed looks alike.of_first).0 in
      let two = (read_on next (with_files alike.fed alike.files) looks_too alike.of_next).0 in
      record {
        stations = alike.fed.stations;
        keep = alike.fed.keep;
        lines = lines_to alike.fed.files one.whole;
        more = lines_to alike.files two.whole;
        of_first = one.read;
        of_next = two.read;
      }

  -- a cutter with what both have read was fed the files of both
  pub cutters_joined : (first next both : Cutter L) (ends : Bool) → LooksAtLines first true → LooksAtLines next true
      → first.rest.items ≡ [] → CutsForeign first.counts next.counts false
      → JoinsLines has_read first.reader next.reader both.reader → ends ≡ nat_lt 0 next.ended
      → JoinsCounts first.counts next.counts both.counts first.ended first.line ends
      → both.ended ≡ in_64_bits (first.ended + next.ended) → both.begun ≡ (next.begun || (first.begun && not ends))
      → both.line ≡ (if not ends then first.line else 0) + next.line
      → both.rest ≡ next.rest → both.fault ≡ None → Joins has_read first next both
  cutters_joined first next both ends looks looks_too empty cuts reads ended counts number begun line rest none =
      record {
        holds = λ fed files is of.
            let one = read_on first fed looks is in
            let two = read_on next (with_files fed files) looks_too of in
            let all = read_whole first fed one.0 (begin-none one.0.rest first.rest.items one.0.kept empty) in
            let others = files.ended in let whole = two.0.whole in
            let both_files = going_on fed.files others whole in
            let count : ℕ = length (lines fed.files.current) in
            let at_end : ends ≡ nat_lt 0 (length others) = ended ∙ ap (nat_lt 0) two.1 in
            let same : (followed_by fed.files files).ended ≡ both_files.ended =
            ended-followed fed.files others files.current whole in
            let uncut = sym (cuts.is fed.files (files_at others whole) all.counted two.0.counted) in
            record {
              counted = record {
                ended = number
                    ∙ ap in_64_bits (omega (arith, one.1, two.1, length-followed fed.files others files.current));
                begun = begun ∙ rw (is.counted.begun, of.counted.begun)
                    (begun-followed fed.files others files.current ends at_end);
              };
              fault = λ few. rw none (record {
                whole = both_files.current;
                rest = two.0.rest;
                cut = record {
                  parts = ap (λ (t : List ℕ). (going_on fed.files others t).current) two.0.cut.parts
                      ∙ parts-followed fed.files others whole two.0.rest;
                  ends = ends-followed fed.files others whole all.ends two.0.cut.ends;
                };
                unended = two.0.unended;
                kept = rw rest two.0.kept;
                numbered = line ∙ ap (λ (n : ℕ). (if not ends then n else 0) + next.line) all.numbered
                    ∙ ap (λ (n : ℕ). (if not ends then count else 0) + n) two.0.numbered
                    ∙ numbered-followed fed.files others whole ends all.ends at_end;
                counted = rw same (counts.holds fed.files (files_at others whole) all.ends uncut one.1 all.numbered
                    at_end all.counted two.0.counted);
                read = rw (same, lines-followed fed.files others whole all.ends)
                    (reads.holds fed.stations fed.keep (lines_to fed.files fed.files.current) (lines_to files whole)
                    (lines_on (length fed.files.ended + 1) count (others ++ whole ∷ [])) all.read two.0.read
                    (texts-on (length fed.files.ended) count (others ++ whole ∷ [])
                    ∙ ap line_texts (daily_lines-one others whole)));
              });
            };
      }

  -- and can be fed more
  pub going-joined : (first next both : Cutter L) → Joins has_read first next both → WereFedAlike has_read first next
      → HasFedSome has_read both
  going-joined first next both joins alike =
      let fed = with_files alike.fed (followed_by alike.fed.files alike.files) in
      (fed, joins.holds alike.fed alike.files alike.of_first alike.of_next)

  -- ---- cutters that stay apart

  -- lines aren't looked at if there is an error, or if there are too many files
  not_read : (c : Cutter L) (fed : Fed) → LooksAtLines c false → HasFed has_read c fed → HasReadOn c fed.files → ⊥
  not_read c fed passed is on =
      let few : nat_le (length (files_of fed.files)) (2 ^ 20) ≡ true = grind (arith, nat_tests, on.few) in
      false≢true (passed.is fed.files is.counted ∙ rw (on.right, few) refl)

  -- the first cutter doesn't look at lines
  pub apart-passed : (first next : Cutter L) → LooksAtLines first false → StayApart has_read first next
  apart-passed first next passed =
      record { why = λ fed files is of on on_too ends. absurd (not_read first fed passed is on) }

  -- or the next one doesn't
  pub apart-passed_next : (first next : Cutter L) → LooksAtLines next false → StayApart has_read first next
  apart-passed_next first next passed =
      record { why = λ fed files is of on on_too ends. absurd (not_read next (with_files fed files) passed of on_too) }

  -- nothing is left of a line if the current file ends one
  none_of_line : (c : Cutter L) (fed : Fed) (read : HasReadFed has_read c fed) → EndsLine fed.files.current
      → read.rest ≡ []
  none_of_line c fed read ends = nothing_left read.whole read.rest (rw read.cut.parts at ends) read.unended

  -- the first cutter was left within a line
  pub apart-within : (first next : Cutter L) → 0 < length first.rest.items → StayApart has_read first next
  apart-within first next some = record {
    why = λ fed files is of on on_too ends.
        let read = read_well first fed on is in
        let left = begin-some read.rest first.rest.items read.kept some in
        absurd (omega (arith, left, ap length (none_of_line first fed read ends)));
  }

  -- a listed station has months in both
  pub apart-shared : (first next : Cutter L) → ReadOneStation has_read first.reader next.reader
      → StayApart has_read first next
  apart-shared first next shares = record {
    why = λ fed files is of on on_too ends.
        let read = read_well first fed on is in let two = read_well next (with_files fed files) on_too of in
        let one = shares.share fed.stations fed.keep (lines_to fed.files read.whole) (lines_to files two.whole)
        read.read two.read in
        inl (record {
          station = one.station;
          listed = one.listed;
          has = has_in_all fed.files.ended fed.files.current read.whole read.rest one.station.id read.cut one.has;
          has_too = has_in_all files.ended files.current two.whole two.rest one.station.id two.cut one.has_too;
        });
  }

module _ {L : Type 0} (has_read : Reading L) where
  -- a next cutter can go on with the files of a first one, or a part of the file that goes on is foreign
  pub goes-on : (first next : Cutter L) (cuts : Bool) → LooksAtLines first true → LooksAtLines next true
      → first.rest.items ≡ [] → CutsForeign first.counts next.counts cuts → GoOn has_read first next (not cuts)
  goes-on first next true looks looks_too empty cuts = record {
    why = λ fed files is of on on_too ends.
        let read = read_well first fed on is in let two = read_well next (with_files fed files) on_too of in
        let all = read_whole first fed read (none_of_line first fed read ends) in
        inr (sym (cuts.is fed.files (files_at files.ended two.whole) all.counted two.counted));
  }
  goes-on first next false looks looks_too empty cuts = (looks, looks_too, empty, cuts)

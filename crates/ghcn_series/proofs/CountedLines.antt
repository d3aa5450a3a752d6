-- What is counted of one line more, or of one file more.
use Rattle.ghcn_series.proofs.Cited.{◌≡◌, ℕ, ◌+◌, ◌≤◌, true, false, Bool, cond, List, [], ◌∷◌, ◌++◌, length, map}
use Rattle.ghcn_series.proofs.Cited.{Option, None, Some, refl, sym, ap, ◌∙◌, length-append, arith, ◌-◌, ◌^◌, ◌&&◌, ◌||◌}
use Rattle.ghcn_series.proofs.Cited.{◌==◌, not, if◌then◌else◌, take, drop, replicate, or-false, list_any, count_by}
use Rattle.ghcn_series.proofs.Cited.{find, slice_get, is_some, option_map, option_or, eqb-true, and_parts, append-nil}
use Rattle.ghcn_series.proofs.Cited.{map-append, take-append-drop, filter-append, list_any-append, list_all-append}
use Rattle.ghcn_series.proofs.Cited.{find-append, sum_by-append, sum_by_push, flat_map-append, is_blank, columns, lines}
use Rattle.ghcn_series.proofs.Cited.{enumerate_from-append, element_of, Foreign, LinePlace, LineCounts, Blank}
use Rattle.ghcn_series.proofs.Cited.{OfElement, Other, Odd, HaveCounted, FileLine, file_line, not_blank, file_lines}
use Rattle.ghcn_series.proofs.Cited.{daily_lines, all_lines, has_element, is_foreign, line_kind, foreign_places}
use Rattle.ghcn_series.proofs.Cited.{foreign_of, is_odd, odd_among}
use Rattle.std.proofs.lemmas.List.Sums.{count_by-le-length}
use Rattle.ghcn_series.specs.declared.counts.LineKind.{LineKind}
use Rattle.ghcn_series.specs.Counted.{CountsLine, AddsForeign, with_odd}
use Rattle.ghcn_series.specs.LineKinds.{has_form, place_of, warnings_of}
use Rattle.ghcn_series.proofs.FedLines.{daily_lines-one}

-- ---- odd lines

-- a line more that is odd, or isn't, after that many odd ones and the first of them
odd_step : (odd : Bool) (n : ℕ) (first : Option FileLine) (l : FileLine)
    → (if odd then with_odd (record { count = n; first = option_map place_of first }) (place_of l)
    else record { count = n; first = option_map place_of first })
    ≡ record { count = n + cond odd 1 0; first = option_map place_of (option_or first (cond odd (Some l) None)) }
odd_step true n None l = refl
odd_step true n (Some x) l = refl
odd_step false n None l = let same : n ≡ n + 0 = omega arith in cc
odd_step false n (Some x) l = let same : n ≡ n + 0 = omega arith in cc

-- among a line more that is odd, or isn't, or is blank
odd_more : (blank : Bool) (before : List FileLine) (place : LinePlace) (line : List ℕ) → is_blank line ≡ blank
    → (if is_odd line then with_odd (odd_among before) place else odd_among before)
    ≡ odd_among (before ++ not_blank (place.file + 1) ((place.line, line) ∷ []))
odd_more true before place line is = rw (is, append-nil before) refl
odd_more false before place line is = let l : FileLine = file_line (place.file + 1) (place.line, line) in
    let file : place.file + 1 - 1 ≡ place.file = omega arith in
    let alone : not_blank (place.file + 1) ((place.line, line) ∷ []) ≡ l ∷ [] = rw is refl in
    rw (alone, sum_by_push (λ (x : FileLine). cond (is_odd x.bytes) 1 0) before l)
    (rw (find-append (λ (x : FileLine). is_odd x.bytes) before (l ∷ []))
    (rw file at (odd_step (is_odd line) (count_by (λ x. is_odd x.bytes) before) (find (λ x. is_odd x.bytes) before) l)))

-- ---- a line

-- a test that some of these lines pass, or one line more
any-more : (p : List ℕ → Bool) (ls : List (List ℕ)) (more line : List ℕ) {so_far : Bool}
    → lines more ≡ ls ++ line ∷ [] → so_far ≡ list_any p ls → (so_far || p line) ≡ list_any p (lines more)
any-more p ls more line all is = rw (is, all, list_any-append p ls (line ∷ []), or-false (p line)) refl

-- a line more of the current file is counted
pub counted-line : (old new : LineCounts) (ended : List (List ℕ)) (whole more line : List ℕ) (place : LinePlace)
    → lines more ≡ lines whole ++ line ∷ []
    → (daily_lines ended ++ file_lines (length ended + 1, whole)) ++ not_blank (place.file + 1) ((place.line, line) ∷ [])
    ≡ daily_lines ended ++ file_lines (length ended + 1, more) → CountsLine old new place line
    → HaveCounted old ended whole → HaveCounted new ended more
counted-line old new ended whole more line place all behind adds is = record {
  number = adds.number ∙ is.number;
  blank = rw all (omega (arith, adds.blank, is.blank, sum_by_push (λ l. cond (is_blank l) 1 0) (lines whole) line));
  foreign = adds.foreign ∙ is.foreign;
  odd = adds.odd ∙ rw is.odd
      (odd_more (is_blank line) (daily_lines ended ++ file_lines (length ended + 1, whole)) place line refl)
      ∙ ap odd_among behind;
  has_line = adds.has_line ∙ any-more (λ l. not (is_blank l)) (lines whole) more line all is.has_line;
  has_element = adds.has_element ∙ any-more has_element (lines whole) more line all is.has_element;
}

-- ---- what is on a line

-- blanks name no element
no_element : (bytes : List ℕ) → is_blank bytes ≡ true → is_some (element_of bytes) ≡ false
no_element [] blank = refl
no_element (b ∷ bytes) blank =
    let first : b ≡ 32 = eqb-true b 32 (and_parts (b == 32) (is_blank bytes) blank).0 in rw first refl

-- of blanks the first ones and the others are blanks
blank_parts : (n : ℕ) (bytes : List ℕ) → is_blank bytes ≡ true
    → (is_blank (take n bytes) ≡ true) × (is_blank (drop n bytes) ≡ true)
blank_parts n bytes blank =
    and_parts _ _ (sym (list_all-append (λ b. b == 32) (take n bytes) (drop n bytes))
    ∙ ap is_blank (take-append-drop n bytes) ∙ blank)

-- a blank line has no element
pub blank_line : (line : List ℕ) → is_blank line ≡ true → has_element line ≡ false
blank_line line blank = let whole = line ++ replicate 21 32 in
    let all : is_blank whole ≡ true = list_all-append (λ b. b == 32) line (replicate 21 32) ∙ rw blank refl in
    no_element (columns 18 21 line) (blank_parts 4 (drop 17 whole) (blank_parts 17 whole all).1).0

-- what a kind says of a line: whether it is blank, has an element, and is odd
abbrev pub kind_tests : LineKind → Bool × (Bool × Bool)
kind_tests Blank = (true, (false, false))
kind_tests OfElement = (false, (true, false))
kind_tests Other = (false, (false, false))
kind_tests Odd = (false, (false, true))

-- by the tests that find the kind, of which a blank line passes one alone
of_kind : (b e f : Bool) (k : LineKind) → (b ≡ true → e ≡ false)
    → k ≡ (if b then Blank else if e then OfElement else if f then Other else Odd)
    → (b ≡ (kind_tests k).0) × ((e ≡ (kind_tests k).1.0) × ((not b && not e && not f) ≡ (kind_tests k).1.1))
of_kind true e f k none is = rw is (refl, (none refl, refl))
of_kind false true f k none is = rw is (refl, (refl, refl))
of_kind false false true k none is = rw is (refl, (refl, refl))
of_kind false false false k none is = rw is (refl, (refl, refl))

-- so it is with a line of this kind
pub line_of_kind : (line : List ℕ) (k : LineKind) → k ≡ line_kind line → (is_blank line ≡ (kind_tests k).0)
    × ((has_element line ≡ (kind_tests k).1.0) × (is_odd line ≡ (kind_tests k).1.1))
line_of_kind line k is = of_kind (is_blank line) (has_element line) (has_form line) k (blank_line line) is

-- ---- the end of a file

-- the places of the foreign files, with one file more
places-more : (ended : List (List ℕ)) (whole : List ℕ) → foreign_places (ended ++ whole ∷ [])
    ≡ foreign_places ended ++ map (λ (f : ℕ × List ℕ). f.0) (cond (is_foreign whole) ((length ended, whole) ∷ []) [])
places-more ended whole = simp (enumerate_from-append, filter-append, map-append)
    (ap (λ n. foreign_places ended ++ map (λ (f : ℕ × List ℕ). f.0) (cond (is_foreign whole) ((n, whole) ∷ []) []))
    (omega arith))

-- the first of some places, with one more
first-more : (places : List ℕ) (place : ℕ)
    → slice_get (places ++ place ∷ []) 0 ≡ option_or (slice_get places 0) (Some place)
first-more [] place = refl
first-more (p ∷ places) place = refl

-- a foreign file is added
pub foreign-added : (old new : Foreign) (ended : List (List ℕ)) (whole : List ℕ) (place : ℕ) → place ≡ length ended
    → place ≤ 2 ^ 20 → is_foreign whole ≡ true → old ≡ foreign_of ended → AddsForeign old new place
    → new ≡ foreign_of (ended ++ whole ∷ [])
foreign-added old new ended whole place at few foreign is adds =
    let one = rw foreign at (sum_by_push (λ f. cond (is_foreign f) 1 0) ended whole) in
    let count : new.count ≡ count_by is_foreign (ended ++ whole ∷ []) =
    omega (arith, adds.count, one, ap (λ (f : Foreign). f.count) is, count_by-le-length is_foreign ended, at, few) in
    let first : new.first ≡ slice_get (foreign_places (ended ++ whole ∷ [])) 0 =
    adds.first
    ∙ rw (is, at, places-more ended whole, foreign) (sym (first-more (foreign_places ended) (length ended))) in
    rw (← count, ← first) refl

-- any other file adds nothing
pub foreign-same : (ended : List (List ℕ)) (whole : List ℕ) → is_foreign whole ≡ false
    → foreign_of ended ≡ foreign_of (ended ++ whole ∷ [])
foreign-same ended whole none =
    let count : count_by is_foreign (ended ++ whole ∷ []) ≡ count_by is_foreign ended =
    sum_by-append (λ f. cond (is_foreign f) 1 0) ended (whole ∷ []) ∙ rw none (omega arith) in
    rw (count, places-more ended whole, none, append-nil (foreign_places ended)) refl

-- what was noted of a file says whether it is foreign
pub same_test : (c : LineCounts) (ended : List (List ℕ)) (whole : List ℕ) → HaveCounted c ended whole
    → is_foreign whole ≡ (c.has_line && not c.has_element)
same_test c ended whole is = rw (is.has_line, is.has_element) refl

-- the counts of the lines of one file more
pub counted-end : (old : LineCounts) (n : ℕ) (foreign : Foreign) (ended : List (List ℕ)) (whole : List ℕ)
    → n ≡ old.lines + length (lines whole) → foreign ≡ foreign_of (ended ++ whole ∷ [])
    → HaveCounted old ended whole → HaveCounted (record old {
      lines = n;
      warnings = record old.warnings { foreign = foreign };
      has_line = false;
      has_element = false;
    }) (ended ++ whole ∷ []) []
counted-end old n foreign ended whole more same is =
    let all : all_lines (ended ++ whole ∷ []) ≡ all_lines ended ++ lines whole =
    rw (flat_map-append lines ended (whole ∷ []), append-nil (lines whole)) refl in
    record {
      number = omega (arith, more, is.number, ap length all, length-append (all_lines ended) (lines whole));
      blank = rw all
          (omega (arith, is.blank, sum_by-append (λ l. cond (is_blank l) 1 0) (all_lines ended) (lines whole)));
      foreign = same;
      odd = rw (daily_lines-one ended whole, append-nil (daily_lines ended ++ file_lines (length ended + 1, whole)))
          is.odd;
      has_line = refl;
      has_element = refl;
    }

-- what was counted of files that are ended is what a run warns of
pub warned : (c : LineCounts) (files : List (List ℕ)) → HaveCounted c files [] → c.warnings ≡ warnings_of files
warned c files is =
    let odd : c.warnings.odd ≡ odd_among (daily_lines files) = rw (append-nil (daily_lines files)) at is.odd in
    rw (← is.foreign, ← odd) refl

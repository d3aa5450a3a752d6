-- What is counted of files, and of others that go on with the current one.
use Rattle.ghcn_series.proofs.Cited.{◌≡◌, ℕ, ◌+◌, Bool, true, false, cond, not, List, [], ◌∷◌, ◌++◌, length, Option}
use Rattle.ghcn_series.proofs.Cited.{None, Some, inl, inr, refl, sym, ap, ◌∙◌, append_assoc, length-append, arith, ◌&&◌}
use Rattle.ghcn_series.proofs.Cited.{◌||◌, ◌==◌, get_or, if◌then◌else◌, nat_lt, count_by, list_any, slice_get}
use Rattle.ghcn_series.proofs.Cited.{option_map, and-true, and-false, or-false, cases_Bool, ne_eqb, nat_tests}
use Rattle.ghcn_series.proofs.Cited.{list_any-append, sum_by-append, slice_get-map, flat_map-append, is_blank, lines}
use Rattle.ghcn_series.proofs.Cited.{EndsLine, lines-append, LineCounts, JoinsForeign, JoinsOdd, JoinsCounts}
use Rattle.ghcn_series.proofs.Cited.{CutsForeign, lines_to, Files, going_on, all_lines, has_element, is_foreign}
use Rattle.ghcn_series.proofs.Cited.{foreign_of, odd_among}
use Rattle.std.proofs.Math.Bool.{or_comm, and-or_distrib_left}
use Rattle.ghcn_series.specs.LineKinds.{blank_lines}
use Rattle.ghcn_series.proofs.FedLines.{daily_lines-one}
use Rattle.ghcn_series.proofs.JoinedCounts.{places_from, places_from-later, foreign-followed, odd_joined}
use Rattle.ghcn_series.proofs.JoinedLines.{lines-followed}

-- ---- numbers of lines

module _ (files : Files) where
  -- the lines of files, one of which is in two parts
  lines-gone_on : (rest : List ℕ) (others : List (List ℕ)) → EndsLine files.current
      → all_lines (files.ended ++ (files.current ++ rest) ∷ others)
      ≡ all_lines files.ended ++ (lines files.current ++ all_lines (rest ∷ others))
  lines-gone_on rest others line = simp (flat_map-append, lines-append files.current rest line, append_assoc)

  -- the lines of the ended files of both: those of the first, and of the current one if it ends among the others
  number-followed : (others : List (List ℕ)) (whole : List ℕ) (ends : Bool) → EndsLine files.current
      → ends ≡ nat_lt 0 (length others) → length (all_lines (going_on files others whole).ended)
      ≡ length (all_lines files.ended) + (if ends then length (lines files.current) else 0) + length (all_lines others)
  number-followed [] whole ends line is = rw is (omega arith)
  number-followed (rest ∷ others) whole ends line is = let some : ends ≡ true = is ∙ grind (arith, nat_tests) in
      rw (some, lines-gone_on rest others line) (simp length-append (omega arith))

  -- how many lines of both are blank
  blank-followed : (others : List (List ℕ)) (whole : List ℕ) → EndsLine files.current
      → (blank_lines files.ended + count_by is_blank (lines files.current))
      + (blank_lines others + count_by is_blank (lines whole)) ≡ blank_lines (going_on files others whole).ended
      + count_by is_blank (lines (going_on files others whole).current)
  blank-followed [] whole line =
      rw (lines-append files.current whole line)
      (omega (arith, sum_by-append (λ l. cond (is_blank l) 1 0) (lines files.current) (lines whole)))
  blank-followed (rest ∷ others) whole line = let later : List (List ℕ) = all_lines (rest ∷ others) in
      let all = sum_by-append (λ l. cond (is_blank l) 1 0) (all_lines files.ended) (lines files.current ++ later) in
      let behind = sum_by-append (λ l. cond (is_blank l) 1 0) (lines files.current) later in
      rw (lines-gone_on rest others line) (omega (arith, all, behind))

-- whether a line of the current file passes a test, which goes on if it doesn't end
any-followed : (p : List ℕ → Bool) (files : Files) (others : List (List ℕ)) (whole : List ℕ) (ends : Bool)
    → EndsLine files.current → ends ≡ nat_lt 0 (length others)
    → (list_any p (lines whole) || (list_any p (lines files.current) && not ends))
    ≡ list_any p (lines (going_on files others whole).current)
any-followed p files [] whole ends line is =
    rw (is, lines-append files.current whole line, list_any-append, and-true)
    (or_comm (list_any p (lines whole)) (list_any p (lines files.current)))
any-followed p files (rest ∷ others) whole ends line is = let some : ends ≡ true = is ∙ grind (arith, nat_tests) in
    rw (some, and-false (list_any p (lines files.current))) (or-false (list_any p (lines whole)))

-- the counts of both
pub counts_joined : (these others both : LineCounts) (place line : ℕ) (ends : Bool)
    → both.lines ≡ these.lines + (if ends then line else 0) + others.lines → both.blank ≡ these.blank + others.blank
    → JoinsForeign these.warnings.foreign others.warnings.foreign place both.warnings.foreign
    → JoinsOdd these.warnings.odd others.warnings.odd place line both.warnings.odd
    → both.has_line ≡ (others.has_line || (these.has_line && not ends))
    → both.has_element ≡ (others.has_element || (these.has_element && not ends))
    → JoinsCounts these others both place line ends
counts_joined these others both place line ends number blank foreign odd told_line told_element = record {
  holds = λ files more whole cut here count ended is of. record {
    number = number ∙ rw (is.number, of.number, count)
        (sym (number-followed files more.ended more.current ends whole ended));
    blank = blank ∙ rw (is.blank, of.blank) (blank-followed files more.ended more.current whole);
    foreign = foreign-followed these.warnings.foreign others.warnings.foreign both.warnings.foreign files more.ended
        more.current whole cut is.foreign of.foreign (rw here at foreign);
    odd = odd_joined these.warnings.odd others.warnings.odd both.warnings.odd (lines_to files files.current)
        (more.ended ++ more.current ∷ []) place line is.odd
        (of.odd ∙ ap odd_among (sym (daily_lines-one more.ended more.current))) odd
        ∙ rw (here, count) (ap odd_among (sym (lines-followed files more.ended more.current whole)));
    has_line = told_line ∙ rw (is.has_line, of.has_line)
        (any-followed (λ l. not (is_blank l)) files more.ended more.current ends whole ended);
    has_element = told_element ∙ rw (is.has_element, of.has_element)
        (any-followed has_element files more.ended more.current ends whole ended);
  };
}

-- ---- parts that are foreign by themselves

-- a place is that of the first file
abbrev pub is_first : Option ℕ → Bool
is_first None = false
is_first (Some n) = n == 0

-- a later place isn't
later-first : (place : Option ℕ) → is_first (option_map (λ n. n + 1) place) ≡ false
later-first None = refl
later-first (Some n) = ne_eqb (n + 1) 0 (λ e. absurd (omega (arith, e)))

-- the first foreign file is the first file if that is foreign
first-foreign : (files : List (List ℕ)) → is_first (foreign_of files).first ≡ is_foreign (get_or files 0 [])
first-foreign [] = refl
first-foreign (file ∷ files) = elim (cases_Bool (is_foreign file)) [
  | inl holds ↦ rw holds refl
  | inr fails ↦ rw (fails, places_from-later 0 1 files, slice_get-map (λ (n : ℕ). n + 1) (places_from 0 files) 0)
      (later-first (slice_get (places_from 0 files) 0))
]

-- what was noted of the current file, and of the first of the others, says whether a part of it is foreign
pub cuts-noted : (these others : LineCounts) (cuts : Bool)
    → cuts ≡ (these.has_line && (not these.has_element || is_first others.warnings.foreign.first))
    → CutsForeign these others cuts
cuts-noted these others cuts noted = record {
  is = λ files more is of. noted
      ∙ rw (is.has_line, is.has_element, of.foreign, first-foreign more.ended)
      (and-or_distrib_left (list_any (λ l. not (is_blank l)) (lines files.current))
      (not (list_any has_element (lines files.current))) (is_foreign (get_or more.ended 0 [])));
}

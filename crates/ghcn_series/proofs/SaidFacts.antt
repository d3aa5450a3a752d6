-- If no line has an error, the facts of listed stations that daily files say are those of the months that are read.
use Rattle.ghcn_series.proofs.Cited.{◌≡◌, ◌↔◌, ◌⊎◌, inl, inr, ℕ, ◌+◌, ◌*◌, Bool, true, false, not, List, [], ◌++◌, map}
use Rattle.ghcn_series.proofs.Cited.{Option, None, Some, Ok, refl, sym, ap, ap₂, ◌∙◌, subst, arith, ℤ, pos, ◌≤ℤ◌, ◌≤◌}
use Rattle.ghcn_series.proofs.Cited.{◌||◌, ◌-◌, get_or, int_le, unsigned_abs, AllByRecursion, Contains, enumerate_from}
use Rattle.ghcn_series.proofs.Cited.{flat_map, range_with_len, is_some, option_map, and_from, and_parts, cases_Bool}
use Rattle.ghcn_series.proofs.Cited.{not-false, not-true, ints, same_Some, days_in_month_bounds, Field, Number}
use Rattle.ghcn_series.proofs.Cited.{is_blank, same_bytes, day_number, columns, lines, is_bad, Element, LineWhy, Month}
use Rattle.ghcn_series.proofs.Cited.{Reading, Station, StationId, code_of, may_be_negative, elements, element_of}
use Rattle.ghcn_series.proofs.Cited.{days_of_group, month_of, month_why, reading, number_of, unless_missing, FileLine}
use Rattle.ghcn_series.proofs.Cited.{daily_fault, daily_lines, is_listed, IsSaid, facts_said, month_said, months_said}
use Rattle.ghcn_series.proofs.Cited.{Fact, data_of, fact_of, facts_of, is_usable, Data}
use Rattle.std.proofs.Common.{true≢false}
use Rattle.std.proofs.lemmas.Bool.Decides.{Decides-or, Decides-eqb}
use Rattle.std.proofs.lemmas.List.Elements.{Contains-get_or}
use Rattle.std.proofs.lemmas.List.FromFn.{get_or-range_with_len, length-range_with_len}
use Rattle.std.proofs.lemmas.Slice.Eq.{slice_eq-Decides}
use Rattle.ghcn_fields.proofs.FieldNumbers.{int_field-number}
use Rattle.ghcn_fields.proofs.WholeDays.{day_number-law}
use Rattle.ghcn_files.specs.Months.{is_flagged, month_field, month_head_tests, value_field, value_test, year_field}
use Rattle.ghcn_series.specs.Meaning.Said.{SaysFact}
use Rattle.ghcn_series.proofs.CountedLines.{blank_line}
use Rattle.ghcn_series.proofs.FactsOfMonths.{fact_parts}
use Rattle.ghcn_series.proofs.Members.{In, all_in, contains-in, in-contains, in_all, in_kept, in_made, in_map, kept_in}
use Rattle.ghcn_series.proofs.Members.{made_in, map_in, of_one, found_in}
use Rattle.ghcn_series.proofs.MonthDays.{has_number}
use Rattle.ghcn_series.proofs.SaidLines.{IsFineLine, all_met, each_after, files-shown, no_fault, on_said, shown}
use Rattle.ghcn_series.proofs.SaidNumbers.{int-value, int_field-has, positive-is}

-- ---- elements

-- the element of a code has it
code-of : (bytes : List ℕ) (e : Element) → element_of bytes ≡ Some e → code_of e ≡ bytes
code-of bytes e found = (slice_eq-Decides Decides-eqb (code_of e) bytes (same_bytes (code_of e) bytes) refl).0
    (found_in (λ e. same_bytes (code_of e) bytes) elements e found).1

-- an element is found by its code
of-code : (e : Element) → element_of (code_of e) ≡ Some e
of-code e = grind arith

-- ---- the days of a month

-- what is made of the days of a line is numbered by them
numbered_days : {X : Type 0} (f : ℕ → X) → enumerate_from 1 (map f days_of_group) ≡ map (λ j. (j, f j)) days_of_group
unfolding days_of_group
numbered_days f = refl

-- the days of a month are in its line
in_group : (j : ℕ) → 1 ≤ j → j ≤ 31 → In days_of_group j
unfolding days_of_group
in_group j low high =
    let at : get_or (range_with_len 1 31) (j - 1) 0 ≡ j =
    get_or-range_with_len 1 31 (j - 1) 0 (omega arith) ∙ omega arith in
    subst (In (range_with_len 1 31)) at (contains-in (range_with_len 1 31) _
    (Contains-get_or (range_with_len 1 31) (j - 1) 0 (omega (arith, length-range_with_len 1 31))))

-- ---- a line

module _ (e : Element) (line : List ℕ) (code : code_of e ≡ columns 18 21 line) (none : month_why line ≡ None) where
  -- the month of the line
  abbrev m : Month
  m = month_of e line

  -- the tests of the line are met
  fine : AllByRecursion (λ (t : Bool × LineWhy). t.0 ≡ true)
      (month_head_tests line ++ map (value_test line) days_of_group)
  fine = all_met (month_head_tests line ++ map (value_test line) days_of_group) none

  -- so no value of its days is bad
  good : (j : ℕ) → In days_of_group j → is_bad (value_field line j) ≡ false
  good j h = not-true (is_bad (value_field line j))
      (of_one (λ (t : Bool × LineWhy). t.0 ≡ true) (map (value_test line) days_of_group) (value_test line j)
      fine.1.1.1.1.1 (in_map (value_test line) days_of_group j h))

  -- a day of the line, with its reading
  abbrev at_day : ℕ → ℕ × Reading
  at_day j = (j, reading line j)

  -- its year and its month are numbers
  year_is : year_field line ≡ Number (pos m.year)
  year_is = positive-is 9999 (year_field line) fine.1.1.1.0

  month_is : month_field line ≡ Number (pos m.month)
  month_is = positive-is 12 (month_field line) fine.1.1.1.1.0

  -- a fact that is read is said
  fact_says : (f : Fact) → In (facts_of m) f → SaysFact line f
  fact_says f h =
      let found = made_in (fact_of m) (enumerate_from 1 m.days) f h in
      let at = map_in at_day days_of_group found.0
      (subst (λ (xs : List (ℕ × Reading)). In xs found.0) (numbered_days (reading line)) found.1) in
      let j : ℕ = at.0 in
      let parts = fact_parts m (is_flagged line j) (day_number m.year m.month j) (unless_missing (value_field line j)) f
      (ap (fact_of m) at.2 ∙ found.2) in
      let day = (day_number-law m.year m.month j f.day).0 parts.1 in
      let value = (int-value (columns (14 + 8 * j) (18 + 8 * j) line) f.value (good j at.1)).0 parts.2 in record {
        id = ap (λ (i : StationId). i.0) parts.3;
        element = ap code_of parts.4 ∙ code;
        in_calendar = day.0;
        date = (m.year, m.month, j);
        of_day = day.1;
        year = ((int_field-number (columns 12 15 line) (pos m.year)).0 year_is).0;
        month = ((int_field-number (columns 16 17 line) (pos m.month)).0 month_is).0;
        value = value.0;
        there = value.1;
        unflagged = not-false (is_blank (columns (20 + 8 * j) (20 + 8 * j) line)) parts.0;
      }

  -- a fact that is said is read
  says_fact : (f : Fact) → f.element ≡ e → SaysFact line f → In (facts_of m) f
  says_fact f of_element says =
      let date : ℕ × ℕ × ℕ = says.date in let j : ℕ = date.2 in
      let year : m.year ≡ date.0 = ap (λ (x : Field). unsigned_abs (number_of x))
      (int_field-has (columns 12 15 line) (pos date.0) says.year (ap is_bad year_is)) in
      let month : m.month ≡ date.1 = ap (λ (x : Field). unsigned_abs (number_of x))
      (int_field-has (columns 16 17 line) (pos date.1) says.month (ap is_bad month_is)) in
      let own : day_number date.0 date.1 j ≡ Some f.day =
      (day_number-law date.0 date.1 j f.day).1 (says.in_calendar, says.of_day) in
      let day : day_number m.year m.month j ≡ Some f.day = ap₂ (λ (y k : ℕ). day_number y k j) year month ∙ own in
      let limits = (has_number date.0 date.1 j f.day own).0.day in
      let there : In days_of_group j = in_group j limits.0
      (omega (arith, limits.1, (days_in_month_bounds (pos date.0) date.1).0)) in
      let value : unless_missing (value_field line j) ≡ Some f.value =
      (int-value (columns (14 + 8 * j) (18 + 8 * j) line) f.value (good j there)).1 (says.value, says.there) in
      let read : fact_of m (j, reading line j) ≡ Some f =
      rw (says.unflagged, day, value) (λ i. Some (record {
        id = record { 0 = sym says.id i };
        element = sym of_element i;
        day = f.day;
        value = f.value;
      })) in
      in_made (fact_of m) (enumerate_from 1 m.days) (j, reading line j) f
      (subst (λ (xs : List (ℕ × Reading)). In xs (j, reading line j)) (sym (numbered_days (reading line)))
      (in_map at_day days_of_group j there)) read

-- ---- the facts of files

-- a value that its element can have
counts-is : (negative : Bool) (v : ℤ) → ((negative || int_le (pos 0) v) ≡ true) ↔ ((negative ≡ true) ⊎ (pos 0 ≤ℤ v))
counts-is negative v = Decides-or {P = negative ≡ true} {Q = pos 0 ≤ℤ v} negative (int_le (pos 0) v) (λ e. e, λ e. e)
    (λ e. grind (arith, ints), λ le. grind (arith, ints))

-- the element and the month of a line that says one
month_parts : (o : Option Element) (line : List ℕ) (m : Month) → option_map (λ e. month_of e line) o ≡ Some m
    → (e : Element) × (o ≡ Some e) × (month_of e line ≡ m)
month_parts None line m is = absurd cc
month_parts (Some e) line m is = (e, refl, same_Some (month_of e line) m is)

module _ (stations : List Station) (files : List (List ℕ)) (held : Data)
    (is : data_of stations files ≡ Ok held) where
  -- no line of an element fails a test
  line_fine : (line : List ℕ) → In (flat_map lines files) line → IsFineLine line
  line_fine line h =
      let all = subst (AllByRecursion IsFineLine) (files-shown 1 files)
      (each_after (daily_fault stations) (λ (l : FileLine). l.bytes) IsFineLine
      (λ earlier l fits. (on_said stations earlier l fits).1) [] (daily_lines files)
      (no_fault stations files held is)) in
      elim (cases_Bool (is_blank line)) [
        | inl blank ↦ λ e named. absurd (true≢false (sym (ap is_some named) ∙ blank_line line blank))
        | inr some ↦ of_one IsFineLine (shown (flat_map lines files)) line all
            (in_kept (λ (l : List ℕ). not (is_blank l)) (flat_map lines files) line h (ap not some))
      ]

  -- a month that is said is that of a line of an element
  pub month_line : (m : Month) → In (months_said files) m
      → (line : List ℕ) × (e : Element) × In (flat_map lines files) line
      × (element_of (columns 18 21 line) ≡ Some e) × (month_of e line ≡ m) × (month_why line ≡ None)
  month_line m h =
      let line = made_in month_said (flat_map lines files) m h in
      let parts = month_parts (element_of (columns 18 21 line.0)) line.0 m line.2 in
      (line.0, parts.0, line.1, parts.1, parts.2, line_fine line.0 line.1 parts.0 parts.1)

  -- the facts of listed stations that count are those that the files say: one that is read is said, and back
  pub facts-said : (f : Fact) → is_listed stations f.id ≡ true → Contains (facts_said stations files) f ↔ IsSaid files f
  facts-said f listed = (
    λ h. let kept = kept_in (is_usable stations) (flat_map facts_of (months_said files)) f (contains-in _ f h) in
        let month = all_in facts_of (months_said files) f kept.0 in let at = month_line month.0 month.1 in record {
          line = at.0;
          among = in-contains (flat_map lines files) at.0 at.2;
          says = fact_says at.1 at.0 (code-of (columns 18 21 at.0) at.1 at.3) at.5 f
              (subst (λ (m : Month). In (facts_of m) f) (sym at.4) month.2);
          counts = (counts-is (may_be_negative f.element) f.value).0
              (and_parts (is_listed stations f.id) (may_be_negative f.element || int_le (pos 0) f.value) kept.1).1;
        },
    λ said. let line : List ℕ = said.line in let e : Element = f.element in
        let there = contains-in (flat_map lines files) line said.among in
        let named : element_of (columns 18 21 line) ≡ Some e = ap element_of (sym said.says.element) ∙ of-code e in
        let read = says_fact e line said.says.element (line_fine line there e named) f refl said.says in
        let month = in_made month_said (flat_map lines files) line (month_of e line) there
        (ap (option_map (λ x. month_of x line)) named) in
        in-contains (facts_said stations files) f
        (in_kept (is_usable stations) (flat_map facts_of (months_said files)) f
        (in_all facts_of (months_said files) (month_of e line) f month read)
        (and_from (is_listed stations f.id) (may_be_negative e || int_le (pos 0) f.value) listed
        ((counts-is (may_be_negative e) f.value).1 said.counts))),
  )

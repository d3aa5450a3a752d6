-- Each line is counted once.
use Rattle.std.proofs.Common.{◌≡◌, ℕ, ◌+◌, Bool, true, false, cond, List, [], ◌∷◌, ◌++◌, length, Option, Some}
use Rattle.std.proofs.Common.{None, Err, refl, sym, ap, ◌∙◌, append_assoc, arith}
use Rattle.std.specs.Prelude.{◌&&◌, not, filter, nat_lt}
use Rattle.std.specs.List.{flat_map, filter_map, count_by, sum_by, enumerate_from, cons_option}
use Rattle.std.specs.Option.{is_some, option_map}
use Rattle.std.proofs.lemmas.List.{length-map, length-append}
use Rattle.std.proofs.lemmas.List.Sums.{sum_by-cons, sum_by-append}
use Rattle.ghcn_fields.specs.Meaning.Bytes.{is_blank}
use Rattle.ghcn_fields.specs.Meaning.Lines.{columns, lines}
use Rattle.ghcn_fields.specs.Lines.{numbered_lines}
use Rattle.ghcn_files.specs.declared.element.Element.{Element}
use Rattle.ghcn_files.specs.declared.element.Element.TheVariants.{Prcp, Snow, Snwd, Tmax, Tmin}
use Rattle.ghcn_files.specs.declared.fault.LineWhy.TheVariants.{Short}
use Rattle.ghcn_files.specs.declared.station.Station.{Station}
use Rattle.ghcn_files.specs.declared.month.Month.{Month}
use Rattle.ghcn_files.specs.Meaning.Elements.{elements}
use Rattle.ghcn_files.specs.Elements.{same_element, element_of}
use Rattle.ghcn_files.specs.Months.{month_of, month_if, month_why, unless}
use Rattle.ghcn_series.specs.declared.fault.DailyWhy.{DailyWhy}
use Rattle.ghcn_series.specs.declared.fault.DataFault.TheVariants.{DailyLine}
use Rattle.ghcn_series.specs.DailyFaults.{FileLine, month_on, month_if_ok, is_listed, daily_fault, daily_lines}
use Rattle.ghcn_series.specs.DailyFaults.{daily_why, file_lines, file_line}
use Rattle.ghcn_series.specs.LineKinds.{all_lines, blank_lines}
use Rattle.ghcn_description.specs.Lines.{other_lines, is_other, is_listed_of}
use Rattle.ghcn_description.specs.Laws.{LinesAddUp}

-- ---- blank lines

-- a line is blank or is added to the others
blank_or_added : (b : Bool) (l : ℕ × List ℕ) (ls : List (ℕ × List ℕ)) (n : ℕ) →
    length (cond (not b) (l ∷ ls) ls) + (cond b 1 0 + n) ≡ 1 + (length ls + n)
blank_or_added true l ls n = omega arith
blank_or_added false l ls n = omega arith

-- of some lines, those that are blank and the others are all
blank_or_not : (n : ℕ) (ls : List (List ℕ)) →
    length (filter (λ l. not (is_blank l.1)) (enumerate_from n ls)) + count_by is_blank ls ≡ length ls
blank_or_not n [] = refl
blank_or_not n (l ∷ ls) =
    let others : List (ℕ × List ℕ) = filter (λ l. not (is_blank l.1)) (enumerate_from (n + 1) ls) in
    let blanks : ℕ = count_by is_blank ls in
    omega (
      arith,
      sum_by-cons (λ x. cond (is_blank x) 1 0) l ls,
      blank_or_added (is_blank l) (n, l) others blanks,
      blank_or_not (n + 1) ls,
    )

-- so are those of all files
all_of_files : (n : ℕ) (files : List (List ℕ)) →
    length (flat_map file_lines (enumerate_from n files)) + blank_lines files ≡ length (all_lines files)
all_of_files n [] = refl
all_of_files n (f ∷ files) =
    let here : List (ℕ × List ℕ) = filter (λ l. not (is_blank l.1)) (numbered_lines f) in
    let more : List FileLine = flat_map file_lines (enumerate_from (n + 1) files) in
    let others : length (file_lines (n, f) ++ more) ≡ length here + length more =
    length-append (file_lines (n, f)) more ∙ ap (λ k. k + length more) (length-map here (file_line n)) in
    let blanks : count_by is_blank (lines f ++ all_lines files) ≡ count_by is_blank (lines f) + blank_lines files =
    sum_by-append (λ l. cond (is_blank l) 1 0) (lines f) (all_lines files) in
    let all : length (lines f ++ all_lines files) ≡ length (lines f) + length (all_lines files) =
    length-append (lines f) (all_lines files) in
    omega (arith, others, blanks, all, blank_or_not 1 (lines f), all_of_files (n + 1) files)

-- ---- lines that aren't blank

-- a line without an error has another code or is a month
other_or_month : (stations : List Station) (before : List FileLine) (e : Option Element) (short : Bool) (line : List ℕ)
    (ms : List Month) → daily_why stations before (cond short (Err Short) (month_if e line)) ≡ None
    → cond (not (is_some e)) 1 0 + length (cons_option (month_if_ok (cond short (Err Short) (month_if e line))) ms)
    ≡ 1 + length ms
other_or_month stations before e true line ms right = absurd cc
other_or_month stations before None false line ms right = omega arith
other_or_month stations before (Some x) false line ms right =
    elim (month_why line) as
    (λ w. daily_why stations before (unless w (Some (month_of x line))) ≡ None
    → 0 + length (cons_option (month_if_ok (unless w (Some (month_of x line)))) ms) ≡ 1 + length ms) [
      | None ↦ λ right. omega arith
      | Some why ↦ λ right. absurd cc
    ] right

-- if no error was found, there is none
no_why : (l : FileLine) (why : Option DailyWhy) → option_map (λ w. DailyLine l.file l.line w) why ≡ None → why ≡ None
no_why l None none = refl
no_why l (Some why) none = absurd cc

-- lines without an error after others have another code or are months
others_and_months : (stations : List Station) (before ls : List FileLine)
    → ((b : List FileLine) (l : FileLine) (r : List FileLine) → before ++ ls ≡ b ++ l ∷ r
    → daily_fault stations b l ≡ None) → other_lines ls + length (filter_map month_on ls) ≡ length ls
others_and_months stations before [] none = refl
others_and_months stations before (l ∷ ls) none =
    let ms : List Month = filter_map month_on ls in
    let rest = others_and_months stations (before ++ l ∷ []) ls
    (λ b x r is. none b x r (sym (append_assoc before (l ∷ []) ls) ∙ is)) in
    let here : cond (is_other l) 1 0 + length (filter_map month_on (l ∷ ls)) ≡ 1 + length ms =
    other_or_month stations before (element_of (columns 18 21 l.bytes)) (nat_lt (length l.bytes) 21) l.bytes ms
    (no_why l _ (none before l ls refl)) in
    let first : other_lines (l ∷ ls) ≡ cond (is_other l) 1 0 + other_lines ls =
    sum_by-cons (λ x. cond (is_other x) 1 0) l ls in
    omega (arith, here, first, rest)

-- ---- months

-- a month of a listed station counts for one element, and any other month for none
one_element : (listed : Bool) (e : Element) →
    cond (listed && same_element e Prcp) 1 0 + cond (listed && same_element e Snow) 1 0
    + cond (listed && same_element e Snwd) 1 0 + cond (listed && same_element e Tmax) 1 0
    + cond (listed && same_element e Tmin) 1 0 + cond (not listed) 1 0 ≡ 1
one_element false e = refl
one_element true Prcp = refl
one_element true Snow = refl
one_element true Snwd = refl
one_element true Tmax = refl
one_element true Tmin = refl

-- months of listed stations, by element, and those of others are all
months_by_element : (stations : List Station) (ms : List Month) →
    sum_by (λ e. count_by (is_listed_of stations e) ms) elements
    + count_by (λ m. not (is_listed stations m.id)) ms ≡ length ms
months_by_element stations [] = refl
months_by_element stations (m ∷ ms) =
    let more : (e : Element) → count_by (is_listed_of stations e) (m ∷ ms)
    ≡ cond (is_listed stations m.id && same_element m.element e) 1 0 + count_by (is_listed_of stations e) ms =
    λ e. sum_by-cons (λ x. cond (is_listed_of stations e x) 1 0) m ms in
    let other : count_by (λ x. not (is_listed stations x.id)) (m ∷ ms)
    ≡ cond (not (is_listed stations m.id)) 1 0 + count_by (λ x. not (is_listed stations x.id)) ms =
    sum_by-cons (λ x. cond (not (is_listed stations x.id)) 1 0) m ms in
    omega (
      arith,
      more Prcp,
      more Snow,
      more Snwd,
      more Tmax,
      more Tmin,
      other,
      one_element (is_listed stations m.id) m.element,
      months_by_element stations ms,
    )

-- ---- all lines

-- each line is counted once
pub lines-add_up : LinesAddUp
lines-add_up stations files right =
    let ls : List FileLine = daily_lines files in
    let ms : List Month = filter_map month_on ls in
    omega (arith, all_of_files 1 files, others_and_months stations [] ls right.none, months_by_element stations ms)

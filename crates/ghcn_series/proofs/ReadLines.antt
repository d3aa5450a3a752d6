-- A reader that has read one line more.
use Rattle.ghcn_series.proofs.Cited.{◌≡◌, ℕ, true, false, Bool, cond, List, [], ◌∷◌, ◌++◌, length, Option, None, Some}
use Rattle.ghcn_series.proofs.Cited.{Ok, Err, refl, sym, ap, ◌∙◌, append_assoc, ◌&&◌, nat_lt, filter_map, cons_option}
use Rattle.ghcn_series.proofs.Cited.{is_some, append-nil, filter_map-append, not-true, not-false, columns}
use Rattle.ghcn_series.proofs.Cited.{no_fault-more, Station, Month, Element, Keep, LineWhy, Short, element_of}
use Rattle.ghcn_series.proofs.Cited.{read_month, month_if, month_why, month_of, unless, Line, DuplicateMonth, DataFault}
use Rattle.ghcn_series.proofs.Cited.{DailyLine, TooManyFiles, Memory, Reader, FileLine, month_on, month_if_ok, repeats}
use Rattle.ghcn_series.proofs.Cited.{is_listed, daily_fault, HasReadFor, IsLineRefusal, has_element, line_texts}
use Rattle.ghcn_series.proofs.Cited.{ReadsMonth}
use Rattle.std.specs.Option.{option_to_list}
use Rattle.ghcn_series.specs.declared.fault.DailyWhy.{DailyWhy}

-- one line more adds the month that it is
months-more : (before : List FileLine) (l : FileLine) (o : Option Month) → month_on l ≡ o
    → filter_map month_on (before ++ l ∷ []) ≡ filter_map month_on before ++ option_to_list o
months-more before l None is = rw (filter_map-append month_on before (l ∷ []), is) refl
months-more before l (Some m) is = rw (filter_map-append month_on before (l ∷ []), is) refl

-- the month that a line's text is
abbrev month_in : List ℕ → Option Month
month_in bytes = month_if_ok (read_month bytes)

-- the months of lines are those of their texts
months_in : (ls : List FileLine) → filter_map month_on ls ≡ filter_map month_in (line_texts ls)
months_in [] = refl
months_in (l ∷ ls) = ap (cons_option (month_on l)) (months_in ls)

-- so lines with the same texts have the same months
pub months-texts : (ls others : List FileLine) → line_texts ls ≡ line_texts others
    → filter_map month_on ls ≡ filter_map month_on others
months-texts ls others same = months_in ls ∙ ap (filter_map month_in) same ∙ sym (months_in others)

-- ---- one line more

-- a line of none of the elements is skipped
pub read-passed : (r : Reader) (l : FileLine) → read_month l.bytes ≡ Ok None → (stations : List Station) (keep : Keep)
    (before : List FileLine) → HasReadFor r stations keep before → HasReadFor r stations keep (before ++ l ∷ [])
read-passed r l is stations keep before for = record {
  listed = for.listed;
  kept = for.kept;
  read = record {
    months = rw (months-more before l None (ap month_if_ok is), append-nil (filter_map month_on before))
        for.read.months;
    right = no_fault-more (daily_fault r.stations) before l for.read.right (rw is refl);
  };
}

-- a line that is a new month is read
pub read-month : (old new : Reader) (l : FileLine) (m : Month) → read_month l.bytes ≡ Ok (Some m)
    → new.stations ≡ old.stations → new.keep ≡ old.keep → ReadsMonth old new m true → (stations : List Station)
    (keep : Keep) (before : List FileLine) → HasReadFor old stations keep before
    → HasReadFor new stations keep (before ++ l ∷ [])
read-month old new l m is same kept adds stations keep before for =
    let none : daily_fault old.stations before l ≡ None =
    rw (is, not-true (is_listed old.stations m.id && repeats before m) (sym (adds.is_new _ for.read.months))) refl in
    record {
      listed = same ∙ for.listed;
      kept = kept ∙ for.kept;
      read = record {
        months = rw (months-more before l (Some m) (ap month_if_ok is)) (adds.holds _ for.read.months);
        right = rw same (no_fault-more (daily_fault old.stations) before l for.read.right none);
      };
    }

-- a line with an error after lines without one is the first with an error
refused : (r : Reader) (l : FileLine) (why : DailyWhy) (stations : List Station) (keep : Keep) (before : List FileLine)
    → HasReadFor r stations keep before → daily_fault r.stations before l ≡ Some (DailyLine l.file l.line why)
    → IsLineRefusal stations (before ++ l ∷ []) (DailyLine l.file l.line why)
refused r l why stations keep before for is = rw (← for.listed)
    (l, record { before = before; behind = []; place = refl; here = is; none_before = for.read.right })

-- a line that fails a test is refused
pub refused-line : (r : Reader) (l : FileLine) (why : LineWhy) → read_month l.bytes ≡ Err why
    → (stations : List Station) (keep : Keep) (before : List FileLine) → HasReadFor r stations keep before
    → IsLineRefusal stations (before ++ l ∷ []) (DailyLine l.file l.line (Line why))
refused-line r l why is stations keep before for = refused r l (Line why) stations keep before for (rw is refl)

-- so is a line that is a month of an earlier line
pub refused-month : (old new : Reader) (l : FileLine) (m : Month) → read_month l.bytes ≡ Ok (Some m)
    → ReadsMonth old new m false → (stations : List Station) (keep : Keep) (before : List FileLine)
    → HasReadFor old stations keep before
    → IsLineRefusal stations (before ++ l ∷ []) (DailyLine l.file l.line DuplicateMonth)
refused-month old new l m is adds stations keep before for = refused old l DuplicateMonth stations keep before for
    (rw (is, not-false (is_listed old.stations m.id && repeats before m) (sym (adds.is_new _ for.read.months))) refl)

-- ---- what is on a line

-- a line has one of the elements if it is of a month, and none if it is skipped
code_read : (short : Bool) (e : Option Element) (line : List ℕ) (o : Option Month)
    → cond short (Err Short) (month_if e line) ≡ Ok o → is_some e ≡ is_some o
code_read true e line o is = absurd cc
code_read false None line o is = let none : None ≡ o = cc in ap is_some none
code_read false (Some x) line o is =
    elim (month_why line) as (λ w. unless w (Some (month_of x line)) ≡ Ok o → true ≡ is_some o) [
      | None ↦ λ is. let some : Some (month_of x line) ≡ o = cc in ap is_some some
      | Some why ↦ λ is. absurd cc
    ] is

-- so a line that is skipped has none
pub other_code : (line : List ℕ) → read_month line ≡ Ok None → false ≡ has_element line
other_code line is = sym (code_read (nat_lt (length line) 21) (element_of (columns 18 21 line)) line None is)

-- and a line of a month has one
pub element_code : (line : List ℕ) (m : Month) → read_month line ≡ Ok (Some m) → true ≡ has_element line
element_code line m is = sym (code_read (nat_lt (length line) 21) (element_of (columns 18 21 line)) line (Some m) is)

-- ---- lines after

-- more lines after change no error
pub refused_among : (stations : List Station) (ls more : List FileLine) (f : DataFault) → IsLineRefusal stations ls f
    → IsLineRefusal stations (ls ++ more) f
refused_among stations ls more (Memory m) is = tt
refused_among stations ls more TooManyFiles is = absurd is
refused_among stations ls more (DailyLine file line why) is = (
  is.0,
  record {
    before = is.1.before;
    behind = is.1.behind ++ more;
    place = ap (λ (l : List FileLine). l ++ more) is.1.place ∙ append_assoc is.1.before (is.0 ∷ is.1.behind) more;
    here = is.1.here;
    none_before = is.1.none_before;
  },
)

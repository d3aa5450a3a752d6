-- Lines that two readers have read, joined: those of the second one have other numbers then.
use Rattle.ghcn_series.proofs.Cited.{◌≡◌, ◌+◌, Bool, true, false, cond, List, [], ◌∷◌, ◌++◌, length, Option, None, Some}
use Rattle.ghcn_series.proofs.Cited.{Result, Ok, Err, refl, sym, ap, ◌∙◌, append_assoc, subst, arith, ◌&&◌, ◌||◌}
use Rattle.ghcn_series.proofs.Cited.{filter_map, list_any, Contains, option_map, or_right, append-nil, map-append}
use Rattle.ghcn_series.proofs.Cited.{filter_map-append, list_any-append, HaveNoFault, no_fault-more, Station, Keep}
use Rattle.ghcn_series.proofs.Cited.{Month, LineWhy, read_month, DuplicateMonth, DailyLine, Reader, FileLine, month_on}
use Rattle.ghcn_series.proofs.Cited.{month_if_ok, same_month, is_listed, repeats, daily_why, daily_fault, HasReadFor}
use Rattle.ghcn_series.proofs.Cited.{has_month_of, line_texts, JoinsLines, ReadOneStation, in_64_bits, JoinStations}
use Rattle.ghcn_series.proofs.Cited.{OneHasBoth}
use Rattle.ghcn_series.proofs.JoinedMonths.{not_among, read_joined}
use Rattle.ghcn_series.proofs.ListFacts.{map_split}
use Rattle.ghcn_series.proofs.ReadMonths.{as_many_gathered}
use Rattle.ghcn_series.proofs.Places.{same_id-refl}
use Rattle.ghcn_series.proofs.ReadLines.{months-texts}

-- lines without an error, and more lines, none of which has one after what is before it
no_fault-append : {L W : Type 0} (fault : List L → L → Option W) (ls more : List L) → HaveNoFault fault ls
    → ((before : List L) (l : L) (rest : List L) → more ≡ before ++ l ∷ rest → fault (ls ++ before) l ≡ None)
    → HaveNoFault fault (ls ++ more)
no_fault-append fault ls [] all none = rw (append-nil ls) all
no_fault-append fault ls (x ∷ xs) all none =
    let here : fault ls x ≡ None = rw (append-nil ls) at (none [] x xs refl) in
    subst (HaveNoFault fault) (append_assoc ls (x ∷ []) xs)
    (no_fault-append fault (ls ++ x ∷ []) xs (no_fault-more fault ls x all here) (λ before l rest e.
    rw (append_assoc ls (x ∷ []) before) (none (x ∷ before) l rest (ap (λ (ys : List _). x ∷ ys) e))))

-- nothing in another form is nothing
nothing_mapped : {A B : Type 0} (f : A → B) (o : Option A) → option_map f o ≡ None → o ≡ None
nothing_mapped f o e = grind arith

-- no reason if a test fails
test_failed : {A : Type 0} (b : Bool) (x : A) → cond b (Some x) None ≡ None → b ≡ false
test_failed b x e = grind arith

-- a line that isn't refused after some lines isn't after others, unless these have its month
why_none : (stations : List Station) (before others : List FileLine) (read : Result (Option Month) LineWhy)
    → ((m : Month) → read ≡ Ok (Some m) → (is_listed stations m.id && repeats before m) ≡ false
    → (is_listed stations m.id && repeats others m) ≡ false)
    → daily_why stations before read ≡ None → daily_why stations others read ≡ None
why_none stations before others (Err why) keeps none = absurd cc
why_none stations before others (Ok None) keeps none = refl
why_none stations before others (Ok (Some m)) keeps none =
    rw (keeps m refl (test_failed (is_listed stations m.id && repeats before m) DuplicateMonth none)) refl

-- a month of a listed station that neither the first lines have nor those after them
still_new : (listed first more : Bool) → (listed ≡ true → first ≡ false) → (listed && more) ≡ false
    → (listed && (first || more)) ≡ false
still_new listed first more apart none = grind arith

-- the month of a line is among those of its lines
is_among : (before : List FileLine) (l : FileLine) (rest : List FileLine) (m : Month) → month_on l ≡ Some m
    → has_month_of (filter_map month_on (before ++ l ∷ rest)) m.id ≡ true
is_among before l rest m is = rw (filter_map-append month_on before (l ∷ rest), list_any-append, is, same_id-refl m.id)
    (or_right (has_month_of (filter_map month_on before) m.id) true refl)

-- lines without an error, and others without an error under other numbers, have none together, if no listed station has
-- months in both
pub no_fault-joined : (stations : List Station) (ls more numbered : List FileLine)
    → line_texts numbered ≡ line_texts more
    → ((m : Month) → is_listed stations m.id ≡ true → has_month_of (filter_map month_on more) m.id ≡ true
    → list_any (same_month m) (filter_map month_on ls) ≡ false)
    → HaveNoFault (daily_fault stations) ls → HaveNoFault (daily_fault stations) more
    → HaveNoFault (daily_fault stations) (ls ++ numbered)
no_fault-joined stations ls more numbered same apart is of =
    no_fault-append (daily_fault stations) ls numbered is (λ front l rest e.
    let at = map_split (λ (x : FileLine). x.bytes) more (line_texts front) l.bytes (line_texts rest)
    (sym same ∙ ap line_texts e ∙ map-append (λ (x : FileLine). x.bytes) front (l ∷ rest)) in
    let none = nothing_mapped (λ why. DailyLine at.1.file at.1.line why) (daily_why stations at.0 (read_month at.1.bytes))
    (of.none at.0 at.1 at.2 at.3) in
    let kept = why_none stations at.0 (ls ++ front) (read_month at.1.bytes) (λ m read new.
    let some : has_month_of (filter_map month_on more) m.id ≡ true =
    rw at.3 (is_among at.0 at.1 at.2 m (ap month_if_ok read)) in
    rw (filter_map-append month_on ls front, ← months-texts at.0 front at.4, list_any-append)
    (still_new (is_listed stations m.id) (list_any (same_month m) (filter_map month_on ls))
    (list_any (same_month m) (filter_map month_on at.0)) (λ listed. apart m listed some) new)) none in
    rw (ap read_month (sym at.5), kept) refl)

-- ---- readers

-- two readers have as many stations
pub as_many : (first next : Reader) (stations : List Station) (keep : Keep) (ls others : List FileLine)
    → HasReadFor first stations keep ls → HasReadFor next stations keep others
    → length next.gathered.stations ≡ length first.gathered.stations
as_many first next stations keep ls others is of =
    as_many_gathered _ next of.read.months ∙ ap length (of.listed ∙ sym is.listed)
    ∙ sym (as_many_gathered _ first is.read.months)

-- what two readers have read is read by one
pub reads_joined : (first next both : Reader) → both.keep ≡ first.keep → both.stations ≡ first.stations
    → both.unlisted ≡ in_64_bits (first.unlisted + next.unlisted)
    → JoinStations first.gathered.stations next.gathered.stations both.gathered.stations → JoinsLines HasReadFor first next both
reads_joined first next both keep stations unlisted joins = record {
  holds = λ list asked ls more numbered is of same.
      let ms = filter_map month_on ls in let others = filter_map month_on more in
      let same_list : next.stations ≡ first.stations = of.listed ∙ sym is.listed in
      let same_keep : next.keep ≡ first.keep = of.kept ∙ sym is.kept in
      let apart = joins.apart first.keep ms others first.stations is.read.months.gathered
      (rw (same_keep, same_list) at of.read.months.gathered) in
      record {
        listed = stations ∙ is.listed;
        kept = keep ∙ is.kept;
        read = record {
          months = rw (filter_map-append month_on ls numbered, months-texts numbered more same)
              (read_joined first next both ms others same_keep same_list keep stations unlisted joins
              is.read.months of.read.months);
          right = rw stations (no_fault-joined first.stations ls more numbered same
              (λ m listed some. not_among ms others first.stations m apart listed some) is.read.right
              (rw same_list at of.read.right));
        };
      };
}

-- or a listed station has months in both
pub reads-apart : (first next : Reader) → OneHasBoth first.gathered.stations next.gathered.stations
    → ReadOneStation HasReadFor first next
reads-apart first next both = record {
  share = λ list asked ls more is of.
      let same_list : next.stations ≡ first.stations = of.listed ∙ sym is.listed in
      let same_keep : next.keep ≡ first.keep = of.kept ∙ sym is.kept in
      let found = both.one first.keep (filter_map month_on ls) (filter_map month_on more) first.stations
      is.read.months.gathered (rw (same_keep, same_list) at of.read.months.gathered) in
      record {
        station = found.0;
        listed = subst (λ (ss : List Station). Contains ss found.0) is.listed found.1;
        has = found.2.has;
        has_too = found.2.has_too;
      };
}

-- Files of reports that are read one after the other, and the table of these.
use Rattle.std.proofs.Common.{◌≡◌, ℕ, zero, suc, ◌+◌, ◌<◌, ◌≤◌, List, [], ◌∷◌, ◌++◌, length, map, take, get_or, refl, sym, ap, ◌∙◌, subst, add-one, arith}
use Rattle.std.proofs.lemmas.Bool.{OnFalse_at, OnFalse_from}
use Rattle.std.proofs.lemmas.List.{map-append}
use Rattle.std.specs.List.{AllByRecursion, AllZip}
use Rattle.std.specs.Prelude.{Option, None, Some, Result, Ok, Err, String, string_bytes, IfOk, IfErr}
use Rattle.command_line.specs.declared.asked.TableArguments.{TableArguments}
use Rattle.ghcn_fields.specs.declared.memory.Memory.{Memory as WantOfMemory}
use Rattle.ghcn_fields.specs.Refusals.{IsRefusal}
use Rattle.ghcn_files.specs.declared.fault.StationsFault.{StationsFault}
use Rattle.ghcn_files.specs.declared.station.Station.{Station}
use Rattle.ghcn_files.specs.Listed as listed
use Rattle.rank_input.specs.Feeding.{AreAllOf, AreFilesOf, AreOpened, IsTried, Opening, StopsAt}
use Rattle.rank_input.proofs.Openings.{opened-both, opened-for, stops-first}
use Rattle.rank_table.specs.declared.fault.TableFault.{TableFault}
use Rattle.rank_table.specs.declared.fault.TableFault.TheVariants.{BadReport, NotListed, Memory}
use Rattle.rank_table.specs.Reading as reading
use Rattle.rank_table.specs.Laws.{IsBadRow, IsThere}
use Rattle.rank_table.specs.Reports.{Placed, AreReportsOf, IsBadText, IsFirstBadText}
use Rattle.rank_table.specs.Tables.{rows_of, table_of}
use Rattle.extremes.specs.declared.table.TableText.{TableText}
use Rattle.extremes.specs.declared.table.TablingFault.{TablingFault}
use Rattle.extremes.specs.declared.table.TablingFault.TheVariants.{Stations, Reports}
use Rattle.extremes.specs.Merges.{Known}
use Rattle.extremes.specs.Tables.{IsFirstUnlistedOf, IsListOf, IsTableOf, IsTableOrError, SaysWrong, TablesFiles, is_memory}
use Rattle.extremes.specs.Tables.{known_report, list_paths, listed_if_any, of_reports, report_paths, table_of_reports, table_of_texts}
use Rattle.extremes.specs.Tables.{table_with, tabling_paths}

-- one file more has all of its bytes
files-more : (known : List (Option (List ℕ))) (texts : List (List ℕ)) (one : Option (List ℕ)) (text : List ℕ)
    → AreFilesOf known texts → AreAllOf one text → AreFilesOf (known ++ one ∷ []) (texts ++ text ∷ [])
files-more [] [] one text all is = (is, tt)
files-more [] (t ∷ ts) one text all is = absurd all
files-more (k ∷ ks) [] one text all is = absurd all
files-more (k ∷ ks) (t ∷ ts) one text all is = (all.0, files-more ks ts one text all.1 is)

module _ {X V : Type 0} (f : X → Option (List ℕ)) (bytes : V → List ℕ) where
  -- what is known of the first files, and of one more
  first-more : (xs : List X) (i : ℕ) (d : X) → i < length xs
      → map f (take (suc i) xs) ≡ map f (take i xs) ++ f (get_or xs i d) ∷ []
  first-more [] i d lt = absurd (omega arith)
  first-more (x ∷ xs) zero d lt = refl
  first-more (x ∷ xs) (suc i) d lt = ap (λ (ks : List (Option (List ℕ))). f x ∷ ks) (first-more xs i d (omega arith))

  -- one file more is read
  pub next-text : (xs : List X) (i : ℕ) (x : X) (texts : List V) (text : V) → i < length xs → get_or xs i x ≡ x
      → AreFilesOf (map f (take i xs)) (map bytes texts) → AreAllOf (f x) (bytes text)
      → AreFilesOf (map f (take (i + 1) xs)) (map bytes (texts ++ text ∷ []))
  next-text xs i x texts text lt at was is =
      subst (λ (ks : List (Option (List ℕ))). AreFilesOf ks (map bytes (texts ++ text ∷ [])))
      (sym (ap (λ k. map f (take k xs)) (add-one i) ∙ first-more xs i x lt
      ∙ ap (λ y. map f (take i xs) ++ f y ∷ []) at))
      (subst (λ (ts : List (List ℕ)). AreFilesOf (map f (take i xs) ++ f x ∷ []) ts)
      (sym (map-append bytes texts (text ∷ [])))
      (files-more (map f (take i xs)) (map bytes texts) (f x) (bytes text) was is))

-- some texts have all the bytes that are known
some_text : (known : Option (List ℕ)) → (text : List ℕ) × AreAllOf known text
some_text None = ([], tt)
some_text (Some bytes) = (bytes, refl)

some_texts : (known : List (Option (List ℕ))) → (texts : List (List ℕ)) × AreFilesOf known texts
some_texts [] = ([], tt)
some_texts (k ∷ ks) =
    let one = some_text k in let rest = some_texts ks in (one.0 ∷ rest.0, (one.1, rest.1))

-- so has some list
some_list : {A : Type 0} (bytes_of : Known) (path : Option (String A)) → (text : Option
    (List ℕ)) × IsListOf bytes_of path text
some_list bytes_of None = (None, tt)
some_list bytes_of (Some path) = let one = some_text (bytes_of (string_bytes path)) in (Some one.0, one.1)

-- out of memory may be returned for any files
pub tables-memory : (bytes_of : Known) (opens : Opening) (asked : TableArguments) (m : WantOfMemory)
    → TablesFiles bytes_of opens asked (Err (Reports (Memory m)))
tables-memory bytes_of opens asked m =
    let list = some_list bytes_of asked.stations in
    let texts = some_texts (map (known_report bytes_of) asked.reports.items) in
    record {
      opened = tt;
      stations = list.0;
      whole = list.1;
      texts = texts.0;
      all = texts.1;
      tabled = (tt, tt);
    }

-- reading a station list stops at it
pub list-stops : {A : Type 0} (opens : Opening) (path : Option (String A)) (named : String A) (at : List ℕ)
    → path ≡ Some named → at ≡ string_bytes named → IsTried opens (string_bytes named)
    → StopsAt opens (list_paths path) at
list-stops {A} opens path named at is same tried =
    subst (λ (p : List ℕ). StopsAt opens (list_paths path) p) (sym same)
    (subst (λ (o : Option (String A)). StopsAt opens (list_paths o) (string_bytes named)) (sym is)
    (stops-first opens (string_bytes named) [] tried))

-- ---- errors

-- the error of a station list is that of the table
pub refused-list : (stations : Option (List ℕ)) (texts : List (List ℕ)) (cause : StationsFault)
    → IsRefusal listed.is_memory cause (listed_if_any stations)
    → IsRefusal is_memory (Stations cause) (table_of_texts stations texts)
refused-list stations texts cause is =
    OnFalse_from (listed.is_memory cause) _ (λ no. ap (λ l. table_with l texts) (OnFalse_at no is))

-- so is that of texts, if the list has none
pub refused-texts : (stations : Option (List ℕ)) (list : Option (List Station)) (lent texts : List (List ℕ))
    (why : TableFault) → listed_if_any stations ≡ Ok list → lent ≡ texts
    → IsRefusal reading.is_memory why (reading.reports_from 1 lent)
    → IsRefusal is_memory (Reports why) (table_of_texts stations texts)
refused-texts stations list lent texts why lists same is =
    OnFalse_from (reading.is_memory why) _ (λ no. ap (λ l. table_with l texts) lists
    ∙ ap (λ (r : Result (List Placed) TableFault). of_reports (table_of_reports list r))
    (subst (λ (ts : List (List ℕ)). reading.reports_from 1 ts ≡ Err why) same (OnFalse_at no is)))

-- and that of rows, if the texts have none
pub refused-rows : (stations : Option (List ℕ)) (list : Option (List Station)) (lent texts : List (List ℕ))
    (reports : List Placed) (why : TableFault) → listed_if_any stations ≡ Ok list → lent ≡ texts
    → reading.reports_from 1 lent ≡ Ok reports → IsRefusal reading.is_memory why (table_of list (rows_of reports))
    → IsRefusal is_memory (Reports why) (table_of_texts stations texts)
refused-rows stations list lent texts reports why lists same read is =
    OnFalse_from (reading.is_memory why) _ (λ no. ap (λ l. table_with l texts) lists
    ∙ ap (λ (r : Result (List Placed) TableFault). of_reports (table_of_reports list r))
    (subst (λ (ts : List (List ℕ)). reading.reports_from 1 ts ≡ Ok reports) same read)
    ∙ ap of_reports (OnFalse_at no is))

-- a bad line of lent texts is one of these texts
pub bad-text : (stations : Option (List ℕ)) (lent texts : List (List ℕ)) (why : TableFault) → lent ≡ texts
    → IsBadText lent why → SaysWrong stations texts (Reports why)
bad-text stations lent texts (BadReport file line) same is =
    subst (λ (ts : List (List ℕ)). IsFirstBadText ts file line) same is
bad-text stations lent texts (NotListed file line) same is = absurd is
bad-text stations lent texts (Memory m) same is = tt

-- and the first unlisted row of lent texts is one of these
pub bad-row : (stations : Option (List ℕ)) (list : Option (List Station)) (lent texts : List (List ℕ))
    (reports : List Placed) (why : TableFault) → listed_if_any stations ≡ Ok list → lent ≡ texts
    → AreReportsOf lent reports → AllByRecursion (IsThere lent) (rows_of reports) → IsBadRow list (rows_of reports) why
    → SaysWrong stations texts (Reports why)
bad-row stations list lent texts reports (BadReport file line) lists same held there is = absurd is
bad-row stations list lent texts reports (NotListed file line) lists same held there is =
    subst (λ (ts : List (List ℕ)). IsFirstUnlistedOf stations ts file line) same (record {
      list = list;
      listed = lists;
      reports = reports;
      held = held;
      there = there;
      first = is;
    })
bad-row stations list lent texts reports (Memory m) lists same held there is = tt

-- ---- what is returned

-- the table of texts, or the first error
table_or_error : (stations : Option (List ℕ)) (texts : List (List ℕ)) (answer : Result TableText TablingFault)
    → IfOk answer (λ made. IsTableOf stations texts made.bytes.items)
    → IfErr answer (λ fault. IsRefusal is_memory fault (table_of_texts stations texts))
    → IfErr answer (SaysWrong stations texts) → IsTableOrError stations texts answer
table_or_error stations texts (Ok made) ok err wrong = ok
table_or_error stations texts (Err fault) ok err wrong = (err, wrong)

-- what is returned for the texts of files that were read, by what was made of the lent ones
pub tables-files : (bytes_of : Known) (opens : Opening) (asked : TableArguments) (stations : Option (List ℕ))
    (texts : List (List ℕ)) (lent_list : Option (List ℕ)) (lent : List (List ℕ)) (answer : Result TableText TablingFault)
    → lent_list ≡ stations → lent ≡ texts → IsListOf bytes_of asked.stations stations
    → AreFilesOf (map (known_report bytes_of) asked.reports.items) texts → AreOpened opens (list_paths asked.stations)
    → AreOpened opens (report_paths asked.reports.items)
    → IfOk answer (λ made. IsTableOf lent_list lent made.bytes.items)
    → IfErr answer (λ fault. IsRefusal is_memory fault (table_of_texts lent_list lent))
    → IfErr answer (SaysWrong lent_list lent) → TablesFiles bytes_of opens asked answer
tables-files bytes_of opens asked stations texts lent_list lent answer same_list same list files first rest ok err wrong =
    record {
      opened = opened-for is_memory opens (tabling_paths asked) answer
          (opened-both opens (list_paths asked.stations) (report_paths asked.reports.items) first rest);
      stations = stations;
      whole = list;
      texts = texts;
      all = files;
      tabled = subst (λ (ts : List (List ℕ)). IsTableOrError stations ts answer) same
          (subst (λ (s : Option (List ℕ)). IsTableOrError s lent answer) same_list
          (table_or_error lent_list lent answer ok err wrong));
    }

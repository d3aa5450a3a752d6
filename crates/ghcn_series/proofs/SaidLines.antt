-- If no line has an error, a station list and daily files hold what their lines say.
use Rattle.ghcn_series.proofs.Cited.{◌≡◌, ℕ, ◌+◌, Bool, true, false, cond, not, List, [], ◌∷◌, ◌++◌, map, filter}
use Rattle.ghcn_series.proofs.Cited.{length, Option, None, Some, Ok, Err, refl, sym, ap, ap₂, ◌∙◌, subst, arith}
use Rattle.ghcn_series.proofs.Cited.{append_assoc, nat_lt, nat_le, ◌^◌, AllByRecursion, filter_map, flat_map}
use Rattle.ghcn_series.proofs.Cited.{cons_option, enumerate_from, option_or, option_map, is_some, append-nil}
use Rattle.ghcn_series.proofs.Cited.{map-append, filter-append, map-map, first_fault, is_blank, columns, lines, Element}
use Rattle.ghcn_series.proofs.Cited.{Short, Month, Station, element_of, Numbered, is_repeated, listed, station_fault}
use Rattle.ghcn_series.proofs.Cited.{station_lines, stations_of, read_month, month_if, month_of, month_why, id_of}
use Rattle.ghcn_series.proofs.Cited.{line_why, station_of, DataFault, DailyLine, TooManyFiles, FileLine, file_line}
use Rattle.ghcn_series.proofs.Cited.{file_lines, daily_lines, month_on, month_if_ok, daily_fault, daily_why, line_texts}
use Rattle.ghcn_series.proofs.Cited.{stations_said, month_said, months_said, contents, contents_unless, data_of}
use Rattle.ghcn_series.proofs.Cited.{Data}
use Rattle.ghcn_fields.specs.Faults.{first_failing, first_fault_after}
use Rattle.ghcn_files.specs.declared.fault.StationWhy.TheVariants.{Duplicate}
use Rattle.ghcn_files.specs.declared.fault.StationsFault.{StationsFault}
use Rattle.ghcn_files.specs.declared.fault.StationsFault.TheVariants.{StationLine, TooManyStations}
use Rattle.ghcn_files.specs.Listed.{listed_unless}
use Rattle.ghcn_files.proofs.Months.{unless_ok}
use Rattle.ghcn_series.specs.SaidLists.{said_by}
use Rattle.ghcn_series.proofs.CountedLines.{blank_line}
use Rattle.ghcn_series.proofs.JoinedFiles.{data-held}

-- ---- a line

-- a line of one of the elements fails no test
abbrev pub IsFineLine : List ℕ → Type 0
IsFineLine line = (e : Element) → element_of (columns 18 21 line) ≡ Some e → month_why line ≡ None

-- the month that is read of a line is the one that it says, and a line of an element that is read fails no test
said_of : (short : Bool) (o : Option Element) (line : List ℕ) (m : Option Month)
    → cond short (Err Short) (month_if o line) ≡ Ok m
    → (m ≡ option_map (λ x. month_of x line) o) × ((e : Element) → o ≡ Some e → month_why line ≡ None)
said_of true o line m is = absurd cc
said_of false None line m is = (cc, λ e named. absurd cc)
said_of false (Some x) line m is =
    let read = unless_ok (month_why line) (Some (month_of x line)) m refl is in (read.1, λ e named. read.0)

-- a line without an error is read as what it says, and fails no test if it is of an element
pub on_said : (stations : List Station) (earlier : List FileLine) (l : FileLine)
    → daily_fault stations earlier l ≡ None → (month_on l ≡ month_said l.bytes) × IsFineLine l.bytes
on_said stations earlier l none = elim (read_month l.bytes) as (λ r. read_month l.bytes ≡ r
    → option_map (λ why. DailyLine l.file l.line why) (daily_why stations earlier r) ≡ None
    → (month_if_ok r ≡ month_said l.bytes) × IsFineLine l.bytes) [
      | Ok m ↦ λ is e. said_of (nat_lt (length l.bytes) 21) (element_of (columns 18 21 l.bytes)) l.bytes m is
      | Err why ↦ λ is e. absurd cc
    ] refl none

-- no element is named by none
no_month : {X : Type 0} (e : Option Element) (f : Element → X) → is_some e ≡ false → option_map f e ≡ None
no_month e f none = grind arith

-- a blank line says nothing
blank_said : (line : List ℕ) → is_blank line ≡ true → month_said line ≡ None
blank_said line blank = no_month (element_of (columns 18 21 line)) (λ x. month_of x line) (blank_line line blank)

-- ---- lines in turn

-- if none of some lines has an error, the first has none, and nor has any after it
no_first : {L W : Type 0} (l : L) (o : Option W) (rest : Option (L × W))
    → option_or (option_map (λ w. (l, w)) o) rest ≡ None → (o ≡ None) × (rest ≡ None)
no_first l o rest e = grind arith

-- what is true of what is on each line without an error is true of all that is on lines of which none has one
pub each_after : {L W Y : Type 0} (fault : List L → L → Option W) (on : L → Y) (P : Y → Type 0)
    → ((before : List L) (l : L) → fault before l ≡ None → P (on l)) → (before ls : List L)
    → first_fault_after fault before ls ≡ None → AllByRecursion P (map on ls)
each_after fault on P each before [] none = tt
each_after fault on P each before (l ∷ ls) none =
    let first = no_first l (fault before l) (first_fault_after fault (before ++ l ∷ []) ls) none in
    (each before l first.0, each_after fault on P each (before ++ l ∷ []) ls first.1)

-- what stays true with each line without an error stays true with lines of which none has one
pub kept_after : {L W : Type 0} (fault : List L → L → Option W) (P : List L → Type 0)
    → ((before : List L) (l : L) → fault before l ≡ None → P before → P (before ++ l ∷ [])) → (before ls : List L)
    → first_fault_after fault before ls ≡ None → P before → P (before ++ ls)
kept_after fault P step before [] none kept = subst P (sym (append-nil before)) kept
kept_after fault P step before (l ∷ ls) none kept =
    let first = no_first l (fault before l) (first_fault_after fault (before ++ l ∷ []) ls) none in
    subst P (append_assoc before (l ∷ []) ls)
    (kept_after fault P step (before ++ l ∷ []) ls first.1 (step before l first.0 kept))

-- ---- the lines of files

-- lines without an error are read as what their texts say
lines_said : (stations : List Station) (earlier ls : List FileLine)
    → first_fault_after (daily_fault stations) earlier ls ≡ None
    → filter_map month_on ls ≡ filter_map month_said (line_texts ls)
lines_said stations earlier [] none = refl
lines_said stations earlier (l ∷ ls) none =
    let first = no_first l (daily_fault stations earlier l) _ none in
    ap₂ (λ (o : Option Month) (ms : List Month). cons_option o ms) (on_said stations earlier l first.0).0
    (lines_said stations (earlier ++ l ∷ []) ls first.1)

-- the lines that aren't blank
abbrev pub shown : List (List ℕ) → List (List ℕ)
shown ls = filter (λ l. not (is_blank l)) ls

-- the same with their numbers, from this one on
abbrev pub numbered : ℕ → List (List ℕ) → List (ℕ × List ℕ)
numbered n ls = filter (λ l. not (is_blank l.1)) (enumerate_from n ls)

-- the numbers make no difference to what passes a test
pub numbered-kept : {X : Type 0} (p : X → Bool) (n : ℕ) (xs : List X)
    → map (λ (x : ℕ × X). x.1) (filter (λ x. p x.1) (enumerate_from n xs)) ≡ filter p xs
numbered-kept p n [] = refl
numbered-kept p n (x ∷ xs) = grind (arith, numbered-kept p (n + 1) xs)

-- nor do those of files
pub files-shown : (n : ℕ) (files : List (List ℕ))
    → line_texts (flat_map file_lines (enumerate_from n files)) ≡ shown (flat_map lines files)
files-shown n [] = refl
files-shown n (file ∷ files) =
    map-append (λ (l : FileLine). l.bytes) (file_lines (n, file)) (flat_map file_lines (enumerate_from (n + 1) files))
    ∙ ap₂ (λ (xs ys : List (List ℕ)). xs ++ ys)
    (map-map (λ (l : FileLine). l.bytes) (file_line n) (numbered 1 (lines file))
    ∙ numbered-kept (λ (l : List ℕ). not (is_blank l)) 1 (lines file)) (files-shown (n + 1) files)
    ∙ sym (filter-append (λ (l : List ℕ). not (is_blank l)) (lines file) (flat_map lines files))

-- of what nothing is made it makes no difference whether it is there
left_out : {X Y : Type 0} (f : X → Option Y) (p : X → Bool) → ((x : X) → p x ≡ true → f x ≡ None) → (xs : List X)
    → filter_map f (filter (λ x. not (p x)) xs) ≡ filter_map f xs
left_out f p none [] = refl
left_out f p none (x ∷ xs) = grind (arith, none x, left_out f p none xs)

-- ---- what is held

-- no error is found if there is something
none_of_few : (few : Bool) (o : Option (FileLine × DataFault)) (c d : Data)
    → cond few (contents_unless o c) (Err TooManyFiles) ≡ Ok d → o ≡ None
none_of_few few o c d e = grind arith

-- files that hold something have no line with an error
pub no_fault : (stations : List Station) (files : List (List ℕ)) (held : Data) → data_of stations files ≡ Ok held
    → first_fault (daily_fault stations) (daily_lines files) ≡ None
no_fault stations files held is =
    none_of_few (nat_le (length files) (2 ^ 20)) (first_fault (daily_fault stations) (daily_lines files))
    (contents stations (daily_lines files)) held is

-- if no line has an error, the months that are read are those that the files say
pub months-are : (stations : List Station) (files : List (List ℕ))
    → first_fault (daily_fault stations) (daily_lines files) ≡ None
    → filter_map month_on (daily_lines files) ≡ months_said files
months-are stations files none = lines_said stations [] (daily_lines files) none
    ∙ ap (filter_map month_said) (files-shown 1 files) ∙ left_out month_said is_blank blank_said (flat_map lines files)

-- files without an error hold what they say
pub held-said : (stations : List Station) (files : List (List ℕ)) (held : Data)
    → data_of stations files ≡ Ok held → held ≡ said_by stations files
held-said stations files held is =
    sym (data-held stations files held is) ∙ rw (months-are stations files (no_fault stations files held is)) refl

-- ---- the stations

-- if lines are listed, they have no error and are those
pub are_listed : (o : Option (Numbered × StationsFault)) (ls : List Numbered) (stations : List Station)
    → listed_unless o ls ≡ Ok stations → (o ≡ None) × (stations_of ls ≡ stations)
are_listed None ls stations e = (refl, cc)
are_listed (Some f) ls stations e = absurd cc

-- so the list of a text is that of the stations that its lines say
pub listed-said : (text : List ℕ) (list : List Station) → listed text ≡ Ok list → list ≡ stations_said text
listed-said text list is =
    sym (are_listed (first_fault station_fault (station_lines text)) (station_lines text) list is).1
    ∙ sym (map-map station_of (λ (l : ℕ × List ℕ). l.1) (numbered 1 (lines text)))
    ∙ ap (map station_of) (numbered-kept (λ (l : List ℕ). not (is_blank l)) 1 (lines text))

-- what is found of a line that isn't refused
met_tests : {A B : Type 0} (o : Option A) (f : A → B) (a : A) (b : B) (again room : Bool)
    → option_or (option_map f (option_or o (cond again (Some a) None))) (cond room None (Some b)) ≡ None
    → (o ≡ None) × (again ≡ false) × (room ≡ true)
met_tests o f a b again room e = grind arith

-- a line of a station that isn't refused has no error by itself, repeats none, and there is room for it
pub own_tests : (earlier : List Numbered) (l : Numbered) → station_fault earlier l ≡ None
    → (line_why l.1 ≡ None) × (is_repeated earlier (id_of l.1) ≡ false) × (nat_lt (length earlier) (2 ^ 20) ≡ true)
own_tests earlier l none =
    met_tests (line_why l.1) (λ why. StationLine l.0 why) Duplicate TooManyStations (is_repeated earlier (id_of l.1))
    (nat_lt (length earlier) (2 ^ 20)) none

-- tests of which none fails are met
pub all_met : {W : Type 0} (ts : List (Bool × W)) → first_failing ts ≡ None
    → AllByRecursion (λ (t : Bool × W). t.0 ≡ true) ts
all_met [] none = tt
all_met (t ∷ ts) none = grind (arith, all_met ts)

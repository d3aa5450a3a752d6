-- Two texts of station lists, one after the other: their lines, and the stations that they list.
use Rattle.std.proofs.Common.{◌≡◌, ℕ, ◌+◌, ◌^◌, Bool, true, false, cond, List, [], ◌∷◌, ◌++◌, length, take, drop, get_or}
use Rattle.std.proofs.Common.{Option, Some, None, Ok, refl, sym, ap, subst, ◌∙◌}
use Rattle.std.specs.Prelude.{not, nat_lt}
use Rattle.std.specs.List.{All, AllByRecursion, enumerate_from}
use Rattle.std.specs.Option.{option_or, option_map}
use Rattle.std.proofs.lemmas.List.{take-append-drop, drop_more}
use Rattle.std.proofs.lemmas.List.Elements.{All-append, All-from_recursion, recursion_from_All}
use Rattle.ghcn_fields.specs.Meaning.Bytes.{is_blank}
use Rattle.ghcn_fields.specs.Meaning.Lines.{lines}
use Rattle.ghcn_fields.specs.Lines.{numbered_lines, EndsLine}
use Rattle.ghcn_fields.specs.Faults.{first_fault, HaveNoFault}
use Rattle.ghcn_files.specs.declared.station.Station.{Station}
use Rattle.ghcn_files.specs.declared.fault.StationWhy.{StationWhy}
use Rattle.ghcn_files.specs.declared.fault.StationsFault.{StationsFault}
use Rattle.ghcn_files.specs.declared.fault.StationWhy.TheVariants.{Duplicate}
use Rattle.ghcn_files.specs.declared.fault.StationsFault.TheVariants.{StationLine, TooManyStations}
use Rattle.ghcn_files.specs.StationLines.{id_of, line_why, station_of}
use Rattle.ghcn_files.specs.Listed.{AreListed, Numbered, listed, listed_unless, station_fault, station_lines, stations_of}
use Rattle.ghcn_files.specs.Listed.{ListTogether, is_repeated}
use Rattle.ghcn_files.proofs.FaultLaws.{first_fault-none, no_fault-from_none}
use Rattle.ghcn_files.proofs.Gathered.{IsRight, no_faults, stations-append}
use Rattle.ghcn_files.proofs.LineLaws.{enumerate_from-append, lines-append}
use Rattle.ghcn_files.proofs.ReadLines.{filter-append, not_blank}

-- ---- a text that has no error

-- what has no error after some lines has none by itself
right_after : (earlier : List Numbered) (l : Numbered) → station_fault earlier l ≡ None → IsRight l
right_after earlier l none =
    by (line_why l.1) (cond (is_repeated earlier (id_of l.1)) (Some Duplicate) None)
    (cond (nat_lt (length earlier) (2 ^ 20)) None (Some TooManyStations)) none
  where
    by : (own twice : Option StationWhy) (full : Option StationsFault)
        → option_or (option_map (λ why. StationLine l.0 why) (option_or own twice)) full ≡ None → own ≡ None
    by None twice full e = refl
    by (Some why) twice full e = absurd cc

-- lines without an error have none by themselves
right_lines : (ls : List Numbered) → HaveNoFault station_fault ls → All IsRight ls
right_lines ls free k d lt =
    let l : Numbered = get_or ls k d in
    let parts : ls ≡ take k ls ++ l ∷ drop (k + 1) ls =
    sym (take-append-drop k ls) ∙ ap (λ (rest : List Numbered). take k ls ++ rest) (drop_more ls k d lt) in
    right_after (take k ls) l (free.none (take k ls) l (drop (k + 1) ls) parts)

-- the stations of a text are those of its lines, which have no error by themselves
pub listed_means : (text : List ℕ) (held : List Station) → listed text ≡ Ok held
    → All IsRight (station_lines text) × (held ≡ stations_of (station_lines text))
listed_means text held e = by (first_fault station_fault (station_lines text)) refl e
  where
    by : (o : Option (Numbered × StationsFault)) → first_fault station_fault (station_lines text) ≡ o
        → listed_unless o (station_lines text) ≡ Ok held
        → All IsRight (station_lines text) × (held ≡ stations_of (station_lines text))
    by None is ok =
        let same : stations_of (station_lines text) ≡ held = cc in
        (right_lines (station_lines text) (no_fault-from_none station_fault (station_lines text) is), sym same)
    by (Some f) is ok = absurd cc

-- ---- lines with other numbers

-- lines that are right stay so
pub right_again : (n m : ℕ) (ls : List (List ℕ)) → AllByRecursion IsRight (not_blank (enumerate_from n ls))
    → AllByRecursion IsRight (not_blank (enumerate_from m ls))
right_again n m [] right = tt
right_again n m (l ∷ ls) right =
    by (not (is_blank l)) (not_blank (enumerate_from (n + 1) ls)) (not_blank (enumerate_from (m + 1) ls))
    (right_again (n + 1) (m + 1) ls) right
  where
    by : (shown : Bool) (xs ys : List Numbered) → (AllByRecursion IsRight xs → AllByRecursion IsRight ys)
        → AllByRecursion IsRight (cond shown ((n, l) ∷ xs) xs) → AllByRecursion IsRight (cond shown ((m, l) ∷ ys) ys)
    by true xs ys more h = (h.0, more h.1)
    by false xs ys more h = more h

-- and have the same stations
pub stations_again : (n m : ℕ) (ls : List (List ℕ))
    → stations_of (not_blank (enumerate_from n ls)) ≡ stations_of (not_blank (enumerate_from m ls))
stations_again n m [] = refl
stations_again n m (l ∷ ls) =
    by (not (is_blank l)) (not_blank (enumerate_from (n + 1) ls)) (not_blank (enumerate_from (m + 1) ls))
    (stations_again (n + 1) (m + 1) ls)
  where
    by : (shown : Bool) (xs ys : List Numbered) → stations_of xs ≡ stations_of ys
        → stations_of (cond shown ((n, l) ∷ xs) xs) ≡ stations_of (cond shown ((m, l) ∷ ys) ys)
    by true xs ys more = ap (λ (ss : List Station). station_of l ∷ ss) more
    by false xs ys more = more

-- ---- both texts

-- if the stations of two texts, of which the first ends a line, are listed together, they are those of both texts
pub listed_together : (text rest : List ℕ) (first next : List Station) → EndsLine text → listed text ≡ Ok first
    → listed rest ≡ Ok next → AreListed (first ++ next) → listed (text ++ rest) ≡ Ok (first ++ next)
listed_together text rest first next ends one two are =
    let n : ℕ = 1 + length (lines text) in
    let others : List Numbered = not_blank (enumerate_from n (lines rest)) in
    let all : List Numbered = station_lines text ++ others in
    let whole : station_lines (text ++ rest) ≡ all =
    ap (λ (ls : List (List ℕ)). not_blank (enumerate_from 1 ls)) (lines-append text rest ends)
    ∙ ap not_blank (enumerate_from-append 1 (lines text) (lines rest))
    ∙ filter-append (numbered_lines text) (enumerate_from n (lines rest)) in
    let a = listed_means text first one in
    let b = listed_means rest next two in
    let right : All IsRight all = All-append IsRight (station_lines text) others a.0
    (All-from_recursion IsRight others
    (right_again 1 n (lines rest) (recursion_from_All IsRight (station_lines rest) b.0))) in
    let held : first ++ next ≡ stations_of all =
    ap (λ (ss : List Station). ss ++ next) a.1
    ∙ ap (λ (ss : List Station). stations_of (station_lines text) ++ ss) (b.1 ∙ stations_again 1 n (lines rest))
    ∙ sym (stations-append (station_lines text) others) in
    let none : first_fault station_fault all ≡ None =
    first_fault-none station_fault all (no_faults all right (subst AreListed held are)) in
    ap (λ (ls : List Numbered). listed_unless (first_fault station_fault ls) ls) whole
    ∙ ap (λ (o : Option (Numbered × StationsFault)). listed_unless o all) none
    ∙ ap (λ (ss : List Station). Ok ss) (sym held)

-- so they are, whatever the texts are
pub list_together : (first next both : List Station) → both ≡ first ++ next → AreListed both
    → ListTogether first next both
list_together first next both is are = record {
  holds = λ text rest ends one two.
      listed_together text rest first next ends one two (subst AreListed is are) ∙ ap (λ (ss : List Station). Ok ss) (sym is);
}

-- Reading a station list line by line: how far a loop has come, and how it ends.
use Rattle.std.proofs.Common.{◌≡◌, ℕ, ◌+◌, ◌<◌, Bool, true, false, cond, List, [], ◌∷◌, ◌++◌, length, filter, take}
use Rattle.std.proofs.Common.{drop, get_or, Option, None, Ok, Err, refl, sym, ap, subst, ◌∙◌, arith}
use Rattle.std.specs.Prelude.{not}
use Rattle.std.proofs.lemmas.List.{take_more, take_all, append-nil, take-append-drop, drop_more}
use Rattle.ghcn_fields.specs.Meaning.Bytes.{is_blank}
use Rattle.ghcn_fields.specs.Lines.{numbered_lines}
use Rattle.ghcn_fields.specs.Faults.{first_fault, HaveNoFault, IsFirstFault}
use Rattle.ghcn_files.proofs.FaultLaws.{no_fault-nil, no_fault-more, first_fault-none, first_fault-from}
use Rattle.ghcn_fields.specs.Refusals.{IsRefusal}
use Rattle.ghcn_files.specs.declared.station.Station.{Station}
use Rattle.ghcn_files.specs.declared.fault.StationsFault.{StationsFault}
use Rattle.ghcn_files.specs.declared.fault.StationsFault.TheVariants.{StationLine, TooManyStations, Memory}
use Rattle.ghcn_files.specs.StationLines.{station_of}
use Rattle.ghcn_files.specs.Listed.{Numbered, stations_of, station_fault, station_lines, listed, listed_unless}
use Rattle.ghcn_files.specs.Listed.{is_memory, IsFirstRefusal}
use Rattle.ghcn_files.specs.KeptStations.{AddsStation, IsFaultAfter, IsRefusedFor}

-- the lines that aren't blank
abbrev pub not_blank : List Numbered → List Numbered
not_blank ls = filter (λ l. not (is_blank l.1)) ls

-- lines that aren't blank of two lists, one after the other
pub filter-append : (xs ys : List Numbered) → not_blank (xs ++ ys) ≡ not_blank xs ++ not_blank ys
filter-append [] ys = refl
filter-append (x ∷ xs) ys = by_blank (not (is_blank x.1)) (filter-append xs ys)
  where
    by_blank : (shown : Bool) → not_blank (xs ++ ys) ≡ not_blank xs ++ not_blank ys
        → cond shown (x ∷ not_blank (xs ++ ys)) (not_blank (xs ++ ys)) ≡ cond shown (x ∷ not_blank xs) (not_blank xs)
        ++ not_blank ys
    by_blank true e = ap (λ (zs : List Numbered). x ∷ zs) e
    by_blank false e = e

-- a blank line is left out
pub not_blank-blank : (l : Numbered) → is_blank l.1 ≡ true → not_blank (l ∷ []) ≡ []
not_blank-blank l e = ap (λ (b : Bool). cond (not b) (l ∷ []) []) e

-- any other line stays
pub not_blank-line : (l : Numbered) (ls : List Numbered) → is_blank l.1 ≡ false → not_blank (l ∷ ls) ≡ l ∷ not_blank ls
not_blank-line l ls e = ap (λ (b : Bool). cond (not b) (l ∷ not_blank ls) (not_blank ls)) e

-- how far a loop has come: the first k lines have no error, and their stations are held
pub record HasRead (all : List Numbered) (k : ℕ) (held : List Station) : Type 0 where
  pub held_is : held ≡ stations_of (not_blank (take k all))
  pub right : HaveNoFault station_fault (not_blank (take k all))

-- nothing is held before the first line
pub at_start : (all : List Numbered) → HasRead all 0 []
at_start all = record { held_is = refl; right = no_fault-nil station_fault }

-- the lines so far, with one more
pub lines_more : (all : List Numbered) (k : ℕ) (l : Numbered) → k < length all → l ≡ get_or all k l
    → not_blank (take (k + 1) all) ≡ not_blank (take k all) ++ not_blank (l ∷ [])
lines_more all k l lt is =
    ap not_blank (take_more all k l lt ∙ ap (λ (x : Numbered). take k all ++ x ∷ []) (sym is))
    ∙ filter-append (take k all) (l ∷ [])

-- past a blank line as much is held
pub past_blank : (all : List Numbered) (k : ℕ) (held : List Station) (l : Numbered) → k < length all
    → l ≡ get_or all k l → is_blank l.1 ≡ true → HasRead all k held → HasRead all (k + 1) held
past_blank all k held l lt is blank h =
    let same : not_blank (take (k + 1) all) ≡ not_blank (take k all) =
    lines_more all k l lt is ∙ ap (λ (zs : List Numbered). not_blank (take k all) ++ zs) (not_blank-blank l blank)
    ∙ append-nil (not_blank (take k all)) in
    record {
      held_is = h.held_is ∙ ap stations_of (sym same);
      right = subst (HaveNoFault station_fault) (sym same) h.right;
    }

-- the stations of lines and one more
pub stations-push : (ls : List Numbered) (l : Numbered) → stations_of (ls ++ l ∷ []) ≡ stations_of ls ++ station_of l.1 ∷ []
stations-push [] l = refl
stations-push (x ∷ xs) l = ap (λ (ss : List Station). station_of x.1 ∷ ss) (stations-push xs l)

-- past any other line its station is held too
pub past_line : (all : List Numbered) (k : ℕ) (held more : List Station) (l : Numbered) → k < length all
    → l ≡ get_or all k l → is_blank l.1 ≡ false → AddsStation held l more → HasRead all k held → HasRead all (k + 1) more
past_line all k held more l lt is shown adds h =
    let next : not_blank (take (k + 1) all) ≡ not_blank (take k all) ++ l ∷ [] = lines_more all k l lt is
    ∙ ap (λ (zs : List Numbered). not_blank (take k all) ++ zs) (not_blank-line l [] shown) in
    record {
      held_is = adds.added ∙ ap (λ (ss : List Station). ss ++ station_of l.1 ∷ []) h.held_is
          ∙ sym (stations-push (not_blank (take k all)) l) ∙ ap stations_of (sym next);
      right = subst (HaveNoFault station_fault) (sym next)
          (no_fault-more station_fault (not_blank (take k all)) l h.right
          (adds.right (not_blank (take k all)) (sym h.held_is)));
    }

-- no line is left
pub at_end : (text : List ℕ) (k : ℕ) (held : List Station) → k ≡ length (numbered_lines text)
    → HasRead (numbered_lines text) k held → listed text ≡ Ok held
at_end text k held e h =
    let all : take k (numbered_lines text) ≡ numbered_lines text =
    take_all k (numbered_lines text) (omega (arith, e)) in
    let none : first_fault station_fault (station_lines text) ≡ None =
    first_fault-none station_fault (station_lines text)
    (subst (λ (ls : List Numbered). HaveNoFault station_fault (not_blank ls)) all h.right) in
    ap (λ (o : Option (Numbered × StationsFault)). listed_unless o (station_lines text)) none
    ∙ ap (λ (ls : List Numbered). Ok (stations_of (not_blank ls))) (sym all)
    ∙ ap (λ (ss : List Station). Ok ss) (sym h.held_is)

-- the next line is the first with an error
fault_here : (text : List ℕ) (k : ℕ) (held : List Station) (l : Numbered) (f : StationsFault)
    → k < length (numbered_lines text) → l ≡ get_or (numbered_lines text) k l → is_blank l.1 ≡ false
    → IsFaultAfter f held l → HasRead (numbered_lines text) k held
    → IsFirstFault station_fault (station_lines text) l f
fault_here text k held l f lt is shown bad h =
    let all : List Numbered = numbered_lines text in
    let parts : all ≡ take k all ++ l ∷ drop (k + 1) all =
    sym (take-append-drop k all) ∙ ap (λ (ls : List Numbered). take k all ++ ls) (drop_more all k l lt)
    ∙ ap (λ (x : Numbered). take k all ++ x ∷ drop (k + 1) all) (sym is) in
    record {
      before = not_blank (take k all);
      behind = not_blank (drop (k + 1) all);
      place = ap not_blank parts ∙ filter-append (take k all) (l ∷ drop (k + 1) all)
          ∙ ap (λ (ls : List Numbered). not_blank (take k all) ++ ls) (not_blank-line l (drop (k + 1) all) shown);
      here = bad (not_blank (take k all)) (sym h.held_is);
      none_before = h.right;
    }

-- a text whose first error is f is refused for it
refused : (text : List ℕ) (l : Numbered) (f : StationsFault) → IsFirstFault station_fault (station_lines text) l f
    → listed text ≡ Err f
refused text l f first = ap (λ (o : Option (Numbered × StationsFault)). listed_unless o (station_lines text))
    (first_fault-from station_fault (station_lines text) l f first)

-- a line that is refused after those that are read decides the text
pub ends_by : (text : List ℕ) (k : ℕ) (held : List Station) (l : Numbered) (f : StationsFault)
    → k < length (numbered_lines text) → l ≡ get_or (numbered_lines text) k l → is_blank l.1 ≡ false
    → IsRefusedFor f held l → HasRead (numbered_lines text) k held
    → IsRefusal is_memory f (listed text) × IsFirstRefusal f text
ends_by text k held l (Memory m) lt is shown bad h = (tt, tt)
ends_by text k held l (StationLine n why) lt is shown bad h =
    let first = fault_here text k held l (StationLine n why) lt is shown bad h in
    (refused text l (StationLine n why) first, (l, first))
ends_by text k held l TooManyStations lt is shown bad h =
    let first = fault_here text k held l TooManyStations lt is shown bad h in
    (refused text l TooManyStations first, (l, first))

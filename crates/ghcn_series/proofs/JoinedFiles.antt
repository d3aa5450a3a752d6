-- Files that are cut into parts: the facts of all of them are those of the parts, and so are the days that they say.
use Rattle.ghcn_series.proofs.Cited.{◌≡◌, ℕ, ◌+◌, Bool, true, false, cond, not, List, [], ◌∷◌, ◌++◌, length, map}
use Rattle.ghcn_series.proofs.Cited.{filter, Option, None, Ok, Err, refl, sym, ap, ap₂, ◌∙◌, ◌==◌, ◌&&◌, nat_le, ◌^◌}
use Rattle.ghcn_series.proofs.Cited.{filter_map, flat_map, AllZip, eqb-true, not-false, flat_map-append, map-append}
use Rattle.ghcn_series.proofs.Cited.{append-nil, nil_from_length, filter-append, filter_map-append, flat_map-map}
use Rattle.ghcn_series.proofs.Cited.{first_fault, sorted_by, StationId, Station, Element, same_id, same_element}
use Rattle.ghcn_series.proofs.Cited.{DataFault, TooManyFiles, DayValue, Data, by_day, FileLine, daily_lines}
use Rattle.ghcn_series.proofs.Cited.{daily_fault, month_on, Fact, contents, contents_unless, facts_in, HaveData}
use Rattle.ghcn_series.specs.JoinedFiles.{FactsOfParts}
use Rattle.ghcn_series.proofs.FedLines.{lines_from, daily_lines-append, texts-renumbered}
use Rattle.ghcn_series.proofs.ReadLines.{months-texts}
use Rattle.ghcn_series.proofs.ReadySeries.{length-sorted}

-- ---- the facts of files don't name them

-- the months of files, and of others after them
months-append : (files others : List (List ℕ)) → filter_map month_on (daily_lines (files ++ others))
    ≡ filter_map month_on (daily_lines files) ++ filter_map month_on (daily_lines others)
months-append files others =
    let more = lines_from (1 + length files) others in
    rw (daily_lines-append files others, filter_map-append month_on (daily_lines files) more)
    (rw (months-texts more (daily_lines others) (texts-renumbered (1 + length files) others)) refl)

-- the facts of the files of all parts are those of each part, one part after the other
pub facts_of_parts : {P : Type 0} (stations : List Station) (files : P → List (List ℕ)) (parts : List P)
    → facts_in stations (flat_map files parts) ≡ flat_map (λ (f : List Fact). f)
    (map (λ p. facts_in stations (files p)) parts)
facts_of_parts stations files [] = refl
facts_of_parts stations files (p ∷ parts) =
    simp (months-append (files p) (flat_map files parts), flat_map-append, filter-append)
    (rw (facts_of_parts stations files parts) refl)

-- so it is with parts that are files alone
pub facts_joined : FactsOfParts
facts_joined stations parts =
    facts_of_parts stations (λ files. files) parts ∙ flat_map-map (λ (f : List Fact). f) (facts_in stations) parts

-- ---- what files hold

-- the contents of the lines of files
abbrev pub contents_in : List Station → List (List ℕ) → Data
contents_in stations files = contents stations (daily_lines files)

-- what lines hold, unless one has an error or there are too many files
held_if_few : (b : Bool) (o : Option (FileLine × DataFault)) (c d : Data)
    → cond b (contents_unless o c) (Err TooManyFiles) ≡ Ok d → c ≡ d
held_if_few true None c d e = cc
held_if_few _ _ c d e = absurd cc

-- the data of files without an error are what their lines hold
pub data-held : (stations : List Station) (files : List (List ℕ)) (d : Data) → HaveData stations files d
    → contents_in stations files ≡ d
data-held stations files d e =
    held_if_few (nat_le (length files) (2 ^ 20)) (first_fault (daily_fault stations) (daily_lines files))
    (contents_in stations files) d e

-- so it is with those of all parts
pub all_data-held : {P : Type 0} (stations : List Station) (files : P → List (List ℕ)) (parts : List P)
    (ds : List Data) → AllZip (λ p d. HaveData stations (files p) d) parts ds
    → map (λ p. contents_in stations (files p)) parts ≡ ds
all_data-held stations files [] [] h = refl
all_data-held stations files (p ∷ parts) (d ∷ ds) h =
    ap₂ (λ (c : Data) (l : List Data). c ∷ l) (data-held stations (files p) d h.0)
    (all_data-held stations files parts ds h.1)
all_data-held stations files _ _ h = absurd h

-- ---- the days of facts

-- a list without an element
pub none_in : {X : Type 0} (xs : List X) → (length xs == 0) ≡ true → xs ≡ []
none_in xs e = nil_from_length xs (eqb-true (length xs) 0 e)

-- if no days are left in order, there were none
none_sorted : (xs : List DayValue) → not (length (sorted_by by_day xs) == 0) ≡ false → xs ≡ []
none_sorted xs e =
    none_in xs (ap (λ (n : ℕ). n == 0) (sym (length-sorted xs)) ∙ not-false (length (sorted_by by_day xs) == 0) e)

-- without first days, the days in order are the last ones
pub joined-left : (xs ys : List DayValue) → not (length (sorted_by by_day xs) == 0) ≡ false
    → sorted_by by_day (xs ++ ys) ≡ sorted_by by_day ys
joined-left xs ys none = rw (none_sorted xs none) refl

-- and without last days, the first ones
pub joined-right : (xs ys : List DayValue) → not (length (sorted_by by_day ys) == 0) ≡ false
    → sorted_by by_day (xs ++ ys) ≡ sorted_by by_day xs
joined-right xs ys none = rw (none_sorted ys none, append-nil xs) refl

-- the days of a station and element, as facts come
abbrev pub days_said : List Fact → StationId → Element → List DayValue
days_said facts id e = map (λ f. (f.day, f.value)) (filter (λ f. same_id f.id id && same_element f.element e) facts)

-- those of facts, and of others after them
pub days_said-append : (xs ys : List Fact) (id : StationId) (e : Element)
    → days_said (xs ++ ys) id e ≡ days_said xs id e ++ days_said ys id e
days_said-append xs ys id e = simp (filter-append, map-append)

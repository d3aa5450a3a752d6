-- Files that are read one after the other.
use Rattle.std.proofs.Common.{◌≡◌, ℕ, suc, ◌+◌, ◌<◌, List, [], ◌∷◌, ◌++◌, length, map, take, drop, get_or, Result}
use Rattle.std.proofs.Common.{Ok, Err, sym, ap, ap₂, ◌∙◌, append_assoc, append-nil, add-zero, arith}
use Rattle.std.proofs.lemmas.List.{length-map, length-take, map-append, map_more, drop_more, take-append-drop}
use Rattle.std.proofs.lemmas.Int.{ints}
use Rattle.ghcn_fields.specs.Refusals.{IsRefusal}
use Rattle.rank_papers.specs.ReportLines.{Reported}
use Rattle.rank_table.specs.declared.fault.TableFault.{TableFault}
use Rattle.rank_table.specs.declared.fault.TableFault.TheVariants.{BadReport, NotListed, Memory}
use Rattle.rank_table.specs.Files.{AddsReports}
use Rattle.rank_table.specs.Laws.{TextsGoWrong}
use Rattle.rank_table.specs.Reading.{and_file, in_file, is_memory, read_reports, reports_from}
use Rattle.rank_table.specs.Reports.{IsBadText, Placed, placed_after}
use Rattle.rank_table.proofs.Written.{unless_memory}

-- none before the reports of a file
and_file-none : (r : Result (List Placed) TableFault) → r ≡ and_file (Ok []) r
and_file-none r = grind arith

-- three files
and_file-assoc : (o r more : Result (List Placed) TableFault)
    → and_file o (and_file r more) ≡ and_file (and_file o r) more
and_file-assoc o r more = grind (arith, append_assoc)

-- files, and others after them
reports_from-append : (n : ℕ) (ts us : List (List ℕ))
    → reports_from n (ts ++ us) ≡ and_file (reports_from n ts) (reports_from (n + length ts) us)
reports_from-append n [] us =
    and_file-none (reports_from n us) ∙ ap (λ (m : ℕ). and_file (Ok []) (reports_from m us)) (sym (add-zero n))
reports_from-append n (t ∷ ts) us =
    let same : suc n + length ts ≡ n + length (t ∷ ts) = omega arith in
    ap (and_file (in_file n (read_reports t))) (reports_from-append (suc n) ts us)
    ∙ and_file-assoc (in_file n (read_reports t)) (reports_from (suc n) ts) (reports_from (suc n + length ts) us)
    ∙ ap (λ (m : ℕ). and_file (reports_from n (t ∷ ts)) (reports_from m us)) same

-- how far files have been read: what was found is what they hold
pub record HasFound (texts : List (List ℕ)) (found : List Placed) : Type 0 where
  pub read : reports_from 1 texts ≡ Ok found

module _ {X : Type 0} (f : X → List ℕ) (xs : List X) (i : ℕ) (d : X) (below : i < length xs) (old : List Placed)
    (h : HasFound (map f (take i xs)) old) where
  -- the text of a file
  abbrev at : List ℕ
  at = f (get_or xs i d)

  -- how many come before it
  number_before : 1 + length (map f (take i xs)) ≡ i + 1
  number_before = omega (arith, length-map (take i xs) f, length-take i xs, below)

  -- what is read from it on comes after what was found
  read_on : (us : List (List ℕ))
      → reports_from 1 (map f (take i xs) ++ us) ≡ and_file (Ok old) (reports_from (i + 1) us)
  read_on us = reports_from-append 1 (map f (take i xs)) us
      ∙ ap₂ (λ (r : Result (List Placed) TableFault) (n : ℕ). and_file r (reports_from n us)) h.read number_before

  -- all are those before it, itself and those after it
  all_around : map f xs ≡ map f (take i xs) ++ at ∷ map f (drop (i + 1) xs)
  all_around = grind (arith, ints, take-append-drop i xs, map-append f (take i xs) (drop i xs), drop_more xs i d below)

  -- one file more was read
  pub found_next : (new : List Placed) → AddsReports (i + 1) at old new → HasFound (map f (take (i + 1) xs)) new
  found_next new adds = record {
    read =
        ap (reports_from 1) (map_more f xs i d below) ∙ read_on (at ∷ [])
        ∙ ap (λ (r : Result (List Reported) ℕ). and_file (Ok old) (and_file (in_file (i + 1) r) (Ok []))) adds.read
        ∙ ap (λ (ps : List Placed). Ok (old ++ ps)) (append-nil (placed_after (i + 1) 0 adds.reports))
        ∙ ap Ok (sym adds.added);
  }

  -- a file that is refused refuses all
  pub refused_at : (why : TableFault) → IsRefusal is_memory why (in_file (i + 1) (read_reports at))
      → IsRefusal is_memory why (reports_from 1 (map f xs))
  refused_at why refused = unless_memory (is_memory why) (λ (e : in_file (i + 1) (read_reports at) ≡ Err why).
      ap (reports_from 1) all_around ∙ read_on (at ∷ map f (drop (i + 1) xs))
      ∙ ap (λ (o : Result (List Placed) TableFault). and_file (Ok old) (and_file o (reports_from (suc (i + 1))
      (map f (drop (i + 1) xs))))) e) refused

-- ---- refusals

-- reading a text refuses no row for its station
and_file-listed : (n : ℕ) (r : Result (List Reported) ℕ) (rest : Result (List Placed) TableFault) (file line : ℕ)
    → and_file (in_file n r) rest ≡ Err (NotListed file line) → rest ≡ Err (NotListed file line)
and_file-listed n r rest file line e = grind arith

-- nor does reading several
no_row_refused : (n : ℕ) (ts : List (List ℕ)) (file line : ℕ) → reports_from n ts ≡ Err (NotListed file line) → ⊥
no_row_refused n [] file line e = cc
no_row_refused n (t ∷ ts) file line e = no_row_refused (suc n) ts file line
    (and_file-listed n (read_reports t) (reports_from (suc n) ts) file line e)

-- an error of texts is out of memory, or the first bad line
pub bad_text : (ts : List (List ℕ)) (why : TableFault) → TextsGoWrong
    → IsRefusal is_memory why (reports_from 1 ts) → IsBadText ts why
bad_text ts (BadReport file line) law e = (law ts file line).0 e
bad_text ts (NotListed file line) law e = no_row_refused 1 ts file line e
bad_text ts (Memory m) law e = tt

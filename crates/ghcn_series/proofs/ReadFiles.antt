-- The data of files that were read.
use Rattle.ghcn_series.proofs.Cited.{◌≡◌, ℕ, ◌<◌, ◌≤◌, ◌^◌, List, length, map, take, Option, None, Some, Ok, Err, Bor}
use Rattle.ghcn_series.proofs.Cited.{refl, sym, ap, ◌∙◌, arith, option_map, take_all, length-map, le-leb, first_fault}
use Rattle.ghcn_series.proofs.Cited.{HaveNoFault, Station, read_month, DataFault, DailyLine, TooManyFiles, Memory}
use Rattle.ghcn_series.proofs.Cited.{IsRefusal, FileLine, daily_lines, daily_why, daily_fault, is_memory, contents}
use Rattle.ghcn_series.proofs.Cited.{contents_unless, data_of, IsLineRefusal}
use Rattle.ghcn_files.proofs.FaultLaws.{first_fault-none, first_fault-from, first_fault-is}
use Rattle.ghcn_series.specs.DailyFaults.{HasFirst, IsFirstRefusal}

-- the texts of files
abbrev pub texts : List (Bor (List ℕ)) → List (List ℕ)
texts files = map (λ f. f.now) files

-- of at most 2^20 files the lines are read
few_files : (stations : List Station) (files : List (List ℕ)) → length files ≤ 2 ^ 20
    → data_of stations files ≡ contents_unless (first_fault (daily_fault stations) (daily_lines files))
    (contents stations (daily_lines files))
few_files stations files few = rw (le-leb (length files) (2 ^ 20) few) refl

-- files without an error have their contents
pub data_of-right : (stations : List Station) (files : List (List ℕ)) → length files ≤ 2 ^ 20
    → HaveNoFault (daily_fault stations) (daily_lines files)
    → data_of stations files ≡ Ok (contents stations (daily_lines files))
data_of-right stations files few right =
    few_files stations files few ∙ rw (first_fault-none (daily_fault stations) (daily_lines files) right) refl

-- files with an error have their first
pub data_of-refused : (stations : List Station) (files : List (List ℕ)) (f : DataFault) → length files ≤ 2 ^ 20
    → IsLineRefusal stations (daily_lines files) f → IsRefusal is_memory f (data_of stations files)
data_of-refused stations files (Memory m) few is = tt
data_of-refused stations files TooManyFiles few is = absurd is
data_of-refused stations files (DailyLine file line why) few is = few_files stations files few
    ∙ rw (first_fault-from (daily_fault stations) (daily_lines files) is.0 (DailyLine file line why) is.1) refl

-- the error that is found among the lines of files is the first
first_found : (stations : List Station) (files : List (List ℕ)) (f : DataFault) (found : Option (FileLine × DataFault))
    → first_fault (daily_fault stations) (daily_lines files) ≡ found
    → contents_unless found (contents stations (daily_lines files)) ≡ Err f → HasFirst f stations (daily_lines files)
first_found stations files f None is e = absurd cc
first_found stations files f (Some (l, g)) is e =
    let same : g ≡ f = cc in
    (l, first_fault-is (daily_fault stations) (daily_lines files) l f (is ∙ ap (λ (w : DataFault). Some (l, w)) same))

-- a refusal of so few files is that of their first line with an error, and no line's is that there are too many files
pub first_refusal : (stations : List Station) (files : List (List ℕ)) (f : DataFault) → length files ≤ 2 ^ 20
    → IsRefusal is_memory f (data_of stations files) → IsFirstRefusal f stations files
first_refusal stations files (Memory m) few is = tt
first_refusal stations files TooManyFiles few is =
    let first = first_found stations files TooManyFiles _ refl (sym (few_files stations files few) ∙ is) in
    elim (daily_why stations first.1.before (read_month first.0.bytes)) as (λ why.
    option_map (λ w. DailyLine first.0.file first.0.line w) why ≡ Some TooManyFiles → 2 ^ 20 < length files) [
      | None ↦ λ e. absurd cc
      | Some why ↦ λ e. absurd cc
    ] first.1.here
first_refusal stations files (DailyLine file line why) few is =
    first_found stations files (DailyLine file line why) _ refl (sym (few_files stations files few) ∙ is)

-- there are as many texts as files
pub length-texts : (files : List (Bor (List ℕ))) → length (texts files) ≡ length files
length-texts files = length-map files (λ f. f.now)

-- all texts are taken
pub all_texts : (files : List (Bor (List ℕ))) (k : ℕ) → length files ≤ k → take k (texts files) ≡ texts files
all_texts files k le = take_all k (texts files) (omega (arith, le, length-texts files))

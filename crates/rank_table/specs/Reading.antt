-- Reading texts of reports line by line: what they say, or the first bad line.
use Rattle.std.specs.Prelude.{◌≡◌, ℕ, suc, ◌+◌, Bool, true, false, if◌then◌else◌, nat_eq, List, [], ◌∷◌, ◌++◌, length, codes, Result, Ok, Err}
use Rattle.std.specs.List.{starts_with}
use Rattle.rank_papers.specs.Lines.{paper_lines}
use Rattle.rank_papers.specs.ReportLines.{Reported, reported_lines}
use Rattle.rank_table.specs.declared.fault.TableFault.{TableFault}
use Rattle.rank_table.specs.declared.fault.TableFault.TheVariants.{BadReport, NotListed, Memory}
use Rattle.rank_table.specs.Reports.{Placed, placed_after}

-- ---- where one report ends and the next begins

-- a line of a report is its last if and only if it begins so
abbrev pub is_last : List ℕ → Bool
is_last line = starts_with nat_eq line (codes "end ")

-- one line more at the front of the first report
abbrev pub onto_report : List ℕ → List (List (List ℕ)) → List (List (List ℕ))
onto_report l [] = (l ∷ []) ∷ []
onto_report l (r ∷ rs) = (l ∷ r) ∷ rs

-- lines, cut after each that is the last of a report; those after the last cut are a report too
abbrev pub cut_lines : List (List ℕ) → List (List (List ℕ))
cut_lines [] = []
cut_lines (l ∷ ls) = if is_last l then (l ∷ []) ∷ cut_lines ls else onto_report l (cut_lines ls)

-- at least one report: one without lines if there is none
abbrev pub at_least_one : List (List (List ℕ)) → List (List (List ℕ))
at_least_one [] = [] ∷ []
at_least_one (r ∷ rs) = r ∷ rs

-- the lines of each report of a text with these lines
abbrev pub reports_of_lines : List (List ℕ) → List (List (List ℕ))
reports_of_lines ls = at_least_one (cut_lines ls)

-- these bytes follow the first report of a text
pub record IsAfterReport (text behind : List ℕ) : Type 0 where
  pub first : List ℕ
  pub parts : text ≡ first ++ behind
  pub lines : reports_of_lines (paper_lines text) ≡ paper_lines first ∷ cut_lines (paper_lines behind)

-- ---- one file

-- a report after this many lines, and those after it; or the number of the first bad line
abbrev pub and_report : ℕ → Result Reported ℕ → Result (List Reported) ℕ → Result (List Reported) ℕ
and_report before (Err n) rest = Err (before + n)
and_report before (Ok r) (Err n) = Err n
and_report before (Ok r) (Ok rs) = Ok (r ∷ rs)

-- the reports with these lines, which follow this many others; or the number of the first bad line
abbrev pub reports_after : ℕ → List (List (List ℕ)) → Result (List Reported) ℕ
reports_after before [] = Ok []
reports_after before (ls ∷ rest) =
    and_report before (reported_lines ls) (reports_after (before + length ls) rest)

-- the reports of a text with these lines, or the number of its first bad line
abbrev pub read_lines : List (List ℕ) → Result (List Reported) ℕ
read_lines ls = reports_after 0 (reports_of_lines ls)

-- the reports of a text, or the number of its first bad line
abbrev pub read_reports : List ℕ → Result (List Reported) ℕ
read_reports bytes = read_lines (paper_lines bytes)

-- ---- all files

-- where the reports of the file of this number are, or its first bad line
abbrev pub in_file : ℕ → Result (List Reported) ℕ → Result (List Placed) TableFault
in_file file (Ok reports) = Ok (placed_after file 0 reports)
in_file file (Err line) = Err (BadReport file line)

-- the reports of a file, and those of the files after it; or the first error
abbrev pub and_file : Result (List Placed) TableFault → Result (List Placed) TableFault
    → Result (List Placed) TableFault
and_file (Err why) rest = Err why
and_file (Ok ps) (Err why) = Err why
and_file (Ok ps) (Ok qs) = Ok (ps ++ qs)

-- the reports of the texts of files, the first of which has this number; or the first error
abbrev pub reports_from : ℕ → List (List ℕ) → Result (List Placed) TableFault
reports_from file [] = Ok []
reports_from file (t ∷ ts) = and_file (in_file file (read_reports t)) (reports_from (suc file) ts)

-- ---- what is returned

-- memory ran out
abbrev pub is_memory : TableFault → Bool
is_memory (BadReport file line) = false
is_memory (NotListed file line) = false
is_memory (Memory m) = true

-- a report that was read after this many lines of the file of this number, or the first bad line
abbrev pub one_report : ℕ → ℕ → Result Reported ℕ → Result Reported TableFault
one_report file before (Ok r) = Ok r
one_report file before (Err n) = Err (BadReport file (before + n))

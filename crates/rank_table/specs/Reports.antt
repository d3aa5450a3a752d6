-- Texts of reports: which reports they hold, and where they go wrong.
use Rattle.std.specs.Prelude.{◌≡◌, ⊤, ◌<◌, ℕ, suc, ◌+◌, List, [], ◌∷◌, ◌++◌, length, map}
use Rattle.std.specs.List.{flat_map, AllByRecursion, AllZip}
use Rattle.std.proofs.Common.{Bor}
use Rattle.rank_papers.specs.Meaning.Report.{report_text}
use Rattle.rank_papers.specs.ReportLines.{Reported, IsReported, reported_in}
use Rattle.rank_papers.specs.Places.{IsFirstBadLine}
use Rattle.rank_table.specs.declared.fault.TableFault.{TableFault}
use Rattle.rank_table.specs.declared.fault.TableFault.TheVariants.{BadReport, NotListed, Memory}
use Rattle.rank_table.specs.declared.placed.PlacedReport.{PlacedReport}

-- ---- one text

-- the text of what a report says
abbrev pub text_of : Reported → List ℕ
text_of r = report_text r.query r.rows

-- a text holds these reports, at least one: it is their texts, one after the other
pub record HoldsReports (bytes : List ℕ) (reports : List Reported) : Type 0 where
  pub some : 0 < length reports
  pub can_be : AllByRecursion IsReported reports
  pub text : bytes ≡ flat_map text_of reports

-- a text holds reports
abbrev pub AreReports : List ℕ → Type 0
AreReports bytes = (reports : List Reported) × HoldsReports bytes reports

-- ---- the texts of files

-- what a report says, and where it is: in the file of this number, from 1, after this many lines
pub record Placed : Type 0 where
  pub file : ℕ
  pub before : ℕ
  pub report : Reported

-- how many lines a report has: its title, its query, its rows and its end
abbrev pub line_count : Reported → ℕ
line_count r = length r.rows + 3

-- where these reports are, which follow one another after this many lines of a file
abbrev pub placed_after : ℕ → ℕ → List Reported → List Placed
placed_after file before [] = []
placed_after file before (r ∷ rs) =
    record { file = file; before = before; report = r } ∷ placed_after file (before + line_count r) rs

-- where the reports of files are, the first of which has this number
abbrev pub placed_from : ℕ → List (List Reported) → List Placed
placed_from file [] = []
placed_from file (rs ∷ files) = placed_after file 0 rs ++ placed_from (suc file) files

-- these are the reports that the texts of files hold, in their order
pub record AreReportsOf (texts : List (List ℕ)) (placed : List Placed) : Type 0 where
  pub reports : List (List Reported)
  pub held : AllZip HoldsReports texts reports
  pub places : placed ≡ placed_from 1 reports

-- the text of the file of this number is the first that doesn't hold reports, and this is its first bad line
pub record IsFirstBadText (texts : List (List ℕ)) (file line : ℕ) : Type 0 where
  pub before : List (List ℕ)
  pub bytes : List ℕ
  pub behind : List (List ℕ)
  pub place : texts ≡ before ++ bytes ∷ behind
  pub right : AllByRecursion AreReports before
  pub number : file ≡ length before + 1
  pub wrong : IsFirstBadLine AreReports bytes line

-- an error of texts is out of memory, or the first bad line
abbrev pub IsBadText : List (List ℕ) → TableFault → Type 0
IsBadText texts (BadReport file line) = IsFirstBadText texts file line
IsBadText texts (NotListed file line) = ⊥
IsBadText texts (Memory m) = ⊤

-- ---- what was read

-- the texts of files that are lent
abbrev pub texts_in : List (Bor (List ℕ)) → List (List ℕ)
texts_in texts = map (λ t. t.now) texts

-- what a report that was read says, and where it is
abbrev pub placed_report : PlacedReport → Placed
placed_report p = record { file = p.file; before = p.before; report = reported_in p.report }

-- the same of reports
abbrev pub placed_in : List PlacedReport → List Placed
placed_in reports = map placed_report reports

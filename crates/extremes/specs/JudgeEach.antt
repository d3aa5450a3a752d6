-- What checks of the reports and the certificates of some queries return over one reading of files.
use Rattle.std.specs.Prelude.{◌≡◌, ◌↔◌, ℕ, suc, Bool, true, false, List, [], ◌∷◌, ◌++◌, length, Result, Ok, Err, ⊤}
use Rattle.std.specs.Prelude.{string_bytes}
use Rattle.std.specs.List.{AllByRecursion, AllZip, flat_map}
use Rattle.ghcn_fields.specs.Refusals.{IsRefusal}
use Rattle.ghcn_series.specs.declared.counts.Warnings.{Warnings}
use Rattle.ghcn_series.specs.declared.rows.RowReader.{RowReader}
use Rattle.ghcn_series.specs.Gathered.{HasReadByRows}
use Rattle.ghcn_series.specs.LineKinds.{warnings_of}
use Rattle.ghcn_series.specs.Series.{Data}
use Rattle.rank_query.specs.Meaning.Asked.{Query}
use Rattle.rank_query.specs.Meaning.Asks.{Asks}
use Rattle.rank_papers.specs.RightLaws.{IsRightReportFor, IsRightCertificateFor}
use Rattle.rank_check.specs.declared.verdict.Verdict.{Verdict}
use Rattle.rank_check.specs.declared.verdict.Verdict.TheVariants.{Accepted}
use Rattle.rank_check.specs.Tests.{verdict}
use Rattle.rank_parts.specs.Parts.{part_verdict}
use Rattle.rank_merge.specs.Merging.{Texts}
use Rattle.rank_input.specs.declared.fault.Fault.{Fault}
use Rattle.rank_input.specs.declared.intake.Intake.{Intake}
use Rattle.rank_input.specs.Feeding.{AreOpened, Opening, StopsAt}
use Rattle.rank_input.specs.Input as input
use Rattle.rank_input.specs.Input.{read_input}
use Rattle.rank_input.specs.Takes.{IsTrueOf}
use Rattle.extremes.specs.declared.checked_papers.JudgingStop.{JudgingStop}
use Rattle.extremes.specs.declared.checked_papers.JudgingStop.TheVariants.{Input, NotRead}
use Rattle.extremes.specs.declared.ending.Ending.{Ending}
use Rattle.extremes.specs.declared.ending.Ending.TheVariants as endings
use Rattle.extremes.specs.declared.judge_each.Verdicts.{Verdicts}
use Rattle.extremes.specs.declared.judgement.Judgement.{Judgement}
use Rattle.extremes.specs.declared.judgement.Judgement.TheVariants.{Whole, Part}
use Rattle.extremes.specs.Answer.{IsFaultless}
use Rattle.extremes.specs.Each.{AreKeptFor}
use Rattle.extremes.specs.Ending.{ending_of}
use Rattle.extremes.specs.Merges.{AreBothOf, Known}
use Rattle.extremes.specs.PaperPaths.{all_paths, both_paths, known_papers}
use Rattle.extremes.specs.Printed.{judgement_line}
use Rattle.extremes.specs.Runs.{IsJudgedAs}

-- the verdicts on the reports and the certificates of some queries, and what is warned of in the files; or why the
-- checks stop
abbrev pub Judged : Type 0
Judged = Result (Verdicts × Warnings) JudgingStop

-- memory ran out
abbrev pub is_memory : JudgingStop → Bool
is_memory (Input fault) = input.is_memory fault
is_memory (NotRead path) = false

-- ---- judgements, one after another

-- the lines of these
abbrev pub lines_of : List Judgement → List ℕ
lines_of judgements = flat_map judgement_line judgements

-- how a run ends that ended so far as the first says, if the second comes next
abbrev pub then_ending : Ending → Ending → Ending
then_ending endings.Done next = next
then_ending endings.Refused next = endings.Refused
then_ending endings.Words next = endings.Words
then_ending endings.File next = endings.File

-- a run of these judgements is done if all are accepted; if not, it ends as the first that isn't
abbrev pub ending_of_all : List Judgement → Ending
ending_of_all [] = endings.Done
ending_of_all (j ∷ js) = then_ending (ending_of j) (ending_of_all js)

-- the judgements are those of these queries, which are numbered from n on, each of its own
abbrev pub AreJudgedFrom : {Q : Type 0} → (ℕ → Q → Judgement → Type 0) → ℕ → List Q → List Judgement → Type 0
AreJudgedFrom judges n [] [] = ⊤
AreJudgedFrom judges n [] (j ∷ js) = ⊥
AreJudgedFrom judges n (q ∷ qs) [] = ⊥
AreJudgedFrom judges n (q ∷ qs) (j ∷ js) = judges n q j × AreJudgedFrom judges (suc n) qs js

-- verdicts have the lines of the judgements of these queries, in order, and end as these do
pub record HasVerdictsOf {Q : Type 0} (judges : ℕ → Q → Judgement → Type 0) (queries : List Q) (verdicts : Verdicts)
    : Type 0 where
  pub judgements : List Judgement
  pub judged : AreJudgedFrom judges 1 queries judgements
  pub lines : verdicts.lines.items ≡ lines_of judgements
  pub ending : verdicts.ending ≡ ending_of_all judgements

-- verdicts have one line more, of what is judged so
pub record AddsVerdict (IsJudgedSo : Judgement → Type 0) (before after : Verdicts) : Type 0 where
  pub judgement : Judgement
  pub judged : IsJudgedSo judgement
  pub lines : after.lines.items ≡ before.lines.items ++ judgement_line judgement
  pub ending : after.ending ≡ then_ending before.ending (ending_of judgement)

-- ---- the report and the certificate of a query

-- the report and the certificate of the query of this number in a folder are opened, and all of their bytes judged so
pub record IsJudgedIn (bytes_of : Known) (opens : Opening) (folder : List ℕ) (judges : Texts → Judgement → Type 0)
    (number : ℕ) (j : Judgement) : Type 0 where
  pub opened : AreOpened opens (both_paths folder number)
  pub papers : Texts
  pub whole : AreBothOf (known_papers bytes_of folder number) papers
  pub judged : judges papers j

-- a verdict is that on a report and a certificate for a query and data: accepted if and only if both are right
pub record IsVerdictOver (q : Query) (c : Data) (papers : Texts) (v : Verdict) : Type 0 where
  pub verdict : v ≡ verdict q c papers.0 papers.1
  pub accepted : (v ≡ Accepted) ↔ (IsRightReportFor q c papers.0
      × (version : ℕ) × IsRightCertificateFor version q c papers.1)

-- a judgement for a query and data is a part's verdict if the files are a part of those that the report and the
-- certificate cover, and a verdict if they aren't
abbrev pub IsJudgedOver : Bool → Query → Data → Texts → Judgement → Type 0
IsJudgedOver false q c papers (Whole v) = IsVerdictOver q c papers v
IsJudgedOver false q c papers (Part v) = ⊥
IsJudgedOver true q c papers (Whole v) = ⊥
IsJudgedOver true q c papers (Part v) = v ≡ part_verdict q c papers.0 papers.1

-- so the report and the certificate of the query of a number in a folder are judged over data
abbrev pub JudgesOver : Bool → Known → Opening → List ℕ → Data → ℕ → Query → Judgement → Type 0
JudgesOver part bytes_of opens folder c number q j =
    IsJudgedIn bytes_of opens folder (IsJudgedOver part q c) number j

-- and so they are for the text of the query, and those of a station list and daily files
abbrev pub JudgesTexts : Bool → Known → Opening → List ℕ → List ℕ → List (List ℕ) → ℕ → List ℕ → Judgement → Type 0
JudgesTexts part bytes_of opens folder stations files number query j = IsJudgedIn bytes_of opens folder
    (λ papers. IsJudgedAs part query stations files papers.0 papers.1) number j

-- ---- all of them

-- so checks stop that read the files of these paths: memory ran out, or one of the files can't be read
abbrev pub StopsJudging : Opening → List (List ℕ) → JudgingStop → Type 0
StopsJudging opens paths (Input fault) = input.is_memory fault ≡ true
StopsJudging opens paths (NotRead path) = StopsAt opens paths (string_bytes path)

-- so the checks of these queries over these texts end: with the verdicts on the report and the certificate of each in a
-- folder, and what is warned of; with the first error of the texts; or, if these have none, at a report or a
-- certificate that can't be read
abbrev pub AreJudged : Bool → Known → Opening → List ℕ → List (List ℕ) → List ℕ → List (List ℕ) → Judged → Type 0
AreJudged part bytes_of opens folder queries stations files (Ok judged) =
    HasVerdictsOf (JudgesTexts part bytes_of opens folder stations files) queries judged.0
    × (judged.1 ≡ warnings_of files)
AreJudged part bytes_of opens folder queries stations files (Err (Input fault)) =
    AllByRecursion (λ query. IsRefusal input.is_memory fault (read_input query stations files)) queries
AreJudged part bytes_of opens folder queries stations files (Err (NotRead path)) =
    AllByRecursion (λ query. IsFaultless query stations files) queries
    × StopsAt opens (all_paths folder 1 (length queries)) (string_bytes path)

-- if an intake kept the elements of these queries, the checks for what it was given end so, for any texts that denote
-- these queries
abbrev pub JudgesTaken : Bool → Known → Opening → List ℕ → Intake RowReader → List Query → Judged → Type 0
JudgesTaken part bytes_of opens folder t queries answer = IsTrueOf HasReadByRows t (λ keep stations files.
    AreKeptFor queries keep → (lines : List (List ℕ)) → AllZip Asks lines queries
    → AreJudged part bytes_of opens folder lines stations files answer)

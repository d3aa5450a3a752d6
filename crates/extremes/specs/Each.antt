-- What is returned for some queries over one reading of files.
use Rattle.std.specs.Prelude.{◌≡◌, ℕ, true, List, [], ◌∷◌, ◌++◌, Option, None, Some, Result, Ok, Err, Vec, string_bytes}
use Rattle.std.specs.Global.{Global}
use Rattle.std.specs.List.{All, AllZip, flat_map}
use Rattle.ghcn_fields.specs.Refusals.{IsRefusal, OrMemory}
use Rattle.ghcn_files.specs.declared.element.Keep.{Keep}
use Rattle.ghcn_files.specs.Elements.{is_kept}
use Rattle.ghcn_series.specs.declared.counts.Warnings.{Warnings}
use Rattle.ghcn_series.specs.declared.rows.RowReader.{RowReader}
use Rattle.ghcn_series.specs.Gathered.{HasReadByRows}
use Rattle.ghcn_series.specs.LineKinds.{warnings_of}
use Rattle.ghcn_series.specs.SaidLists.{stations_said, unlisted_said}
use Rattle.ghcn_series.specs.Series.{Data}
use Rattle.rank_query.specs.Meaning.Asked.{Query, score_element}
use Rattle.rank_query.specs.Meaning.Asks.{Asks}
use Rattle.rank_sched.specs.Plan.{planned}
use Rattle.rank_papers.specs.PlanPapers.{IsMeasuredCertificate}
use Rattle.rank_input.specs.declared.intake.Intake.{Intake}
use Rattle.rank_input.specs.Input.{is_memory, read_files}
use Rattle.rank_input.specs.Takes.{IsTrueOf}
use Rattle.extremes.specs.declared.papers.Papers.{Papers}
use Rattle.extremes.specs.declared.papers_folder.Stop.{Stop}
use Rattle.extremes.specs.declared.papers_folder.Stop.TheVariants.{Input, NotWritten}
use Rattle.extremes.specs.Meaning.Answer.{Answers}
use Rattle.extremes.specs.Answer.{AreRightFor, IsCrewed, IsOfCrew}
use Rattle.extremes.specs.PapersFolder.{PutsUntil, new_files}
use Rattle.extremes.specs.Targets.{NewFile, Storing}

-- the bytes of reports, or why the rankings stop
abbrev pub Reports : Type 0
Reports = Result (Vec ℕ Global) Stop

-- the reports of these, one after another
abbrev pub reports_of : List Papers → List ℕ
reports_of papers = flat_map (λ p. p.report.items) papers

-- each of these queries is ranked so: a text has the reports, one after another, and the files of each are put whole,
-- numbered from n on, if there is a folder for them
pub record RanksAll {Q : Type 0} (IsRankedFor : Q → Papers → Type 0) (queries : List Q) (folder : Option (List ℕ)) (n : ℕ)
    (stores : Storing) (text : List ℕ) : Type 0 where
  pub papers : List Papers
  pub ranked : AllZip IsRankedFor queries papers
  pub reports : text ≡ reports_of papers
  pub stored : stores (new_files folder n papers) None

-- the first of these queries are ranked so, and of their files some are put whole, in order, until one isn't or the
-- rankings stop
pub record RanksUntil {Q : Type 0} (IsRankedFor : Q → Papers → Type 0) (queries : List Q) (folder : Option (List ℕ))
    (n : ℕ) (stores : Storing) (failed : Option NewFile) : Type 0 where
  pub first : List Q
  pub more : List Q
  pub among : queries ≡ first ++ more
  pub papers : List Papers
  pub ranked : AllZip IsRankedFor first papers
  pub put : PutsUntil (new_files folder n papers) stores failed

-- so rankings stop: memory runs out, or the file of a path isn't put whole
abbrev pub RankingStops : {Q : Type 0} → (Q → Papers → Type 0) → List Q → Option (List ℕ) → ℕ → Storing → Stop → Type 0
RankingStops ranked queries folder n stores (Input fault) =
    (is_memory fault ≡ true) × RanksUntil ranked queries folder n stores None
RankingStops ranked queries folder n stores (NotWritten path) =
    (bytes : List ℕ) × RanksUntil ranked queries folder n stores (Some (string_bytes path, bytes))

-- a query is ranked so: a text has its report more, and its files are put whole
pub record RanksOne (IsRankedSo : Papers → Type 0) (folder : Option (List ℕ)) (n : ℕ) (stores : Storing)
    (before after : List ℕ) : Type 0 where
  pub papers : Papers
  pub ranked : IsRankedSo papers
  pub added : after ≡ before ++ papers.report.items
  pub stored : stores (new_files folder n (papers ∷ [])) None

-- a report and a certificate are right for a query and data; the certificate is that of a sound run of that many
-- workers over the plan of the two, and its bounds are those of the series
pub record IsRankedOver (workers : ℕ) (c : Data) (q : Query) (papers : Papers) : Type 0 where
  pub right : AreRightFor q c papers
  pub bounds : IsMeasuredCertificate q c papers.certificate.items
  pub crew : IsOfCrew (planned q c) None workers papers.certificate.items

-- a report and a certificate answer these texts, and are those of a crew of that many workers
pub record IsRankedBy (workers : ℕ) (stations : List ℕ) (files : List (List ℕ)) (query : List ℕ) (papers : Papers)
    : Type 0 where
  pub answers : Answers query stations files papers
  pub crew : IsCrewed workers None query stations files papers

-- the values of the element of each of these queries are kept
abbrev pub AreKeptFor : List Query → Keep → Type 0
AreKeptFor queries keep = All (λ q. is_kept keep (score_element q.score) ≡ true) queries

-- so the rankings of these queries over these texts end: as above, by that many workers; or the texts have this error,
-- and nothing is put
abbrev pub EndsFor : ℕ → List ℕ → List (List ℕ) → List (List ℕ) → Option (List ℕ) → Storing → Reports → Type 0
EndsFor workers stations files queries folder stores (Ok text) =
    RanksAll (IsRankedBy workers stations files) queries folder 1 stores text.items
EndsFor workers stations files queries folder stores (Err (Input fault)) =
    IsRefusal is_memory fault (read_files stations files) × OrMemory is_memory (λ why. stores [] None) fault
    × RanksUntil (IsRankedBy workers stations files) queries folder 1 stores None
EndsFor workers stations files queries folder stores (Err (NotWritten path)) = (bytes : List ℕ)
    × RanksUntil (IsRankedBy workers stations files) queries folder 1 stores (Some (string_bytes path, bytes))

-- if an intake kept the elements of these queries, the rankings for what it was given end so, for any texts that denote
-- these queries
abbrev pub EndsTaken : Intake RowReader → List Query → ℕ → Option (List ℕ) → Storing → Reports → Type 0
EndsTaken t queries workers folder stores answer = IsTrueOf HasReadByRows t (λ keep stations files.
    AreKeptFor queries keep → (lines : List (List ℕ)) → AllZip Asks lines queries
    → EndsFor workers stations files lines folder stores answer)

-- this is what a run warns of in the files that an intake was given, and how many of their lines are of unlisted
-- stations
abbrev pub WarnsOfTaken : Intake RowReader → Warnings → ℕ → Type 0
WarnsOfTaken t warnings unlisted = IsTrueOf HasReadByRows t (λ keep stations files.
    (warnings ≡ warnings_of files) × (unlisted ≡ unlisted_said (stations_said stations) files))

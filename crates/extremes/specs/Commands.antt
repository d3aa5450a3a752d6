-- What a run returns for a command, by the bytes that files have, if those are known.
use Rattle.std.specs.Prelude.{◌≡◌, ◌⊎◌, ℕ, Bool, true, false, List, [], ◌∷◌, Option, None, IsSomeAnd, IfSome}
use Rattle.std.specs.Prelude.{map, option_map, Result, string_bytes}
use Rattle.command_line.specs.declared.asked.CheckArguments.{CheckArguments}
use Rattle.command_line.specs.declared.asked.Command.{Command}
use Rattle.command_line.specs.declared.asked.DescribeArguments.{DescribeArguments}
use Rattle.command_line.specs.declared.asked.MergeArguments.{MergeArguments}
use Rattle.command_line.specs.declared.asked.NamedFiles.{NamedFiles}
use Rattle.command_line.specs.declared.asked.Part.{Part}
use Rattle.command_line.specs.declared.asked.RankArguments.{RankArguments}
use Rattle.command_line.specs.declared.asked.TableArguments.{TableArguments}
use Rattle.command_line.specs.declared.asked.Command.TheVariants.{Sample, Rank, RankEach, Merge, Check, CheckEach}
use Rattle.command_line.specs.declared.asked.Command.TheVariants.{Describe, Table}
use Rattle.ghcn_series.specs.declared.counts.Warnings.{Warnings}
use Rattle.rank_input.specs.declared.fault.Fault.{Fault}
use Rattle.rank_input.specs.Feeding.{Opening}
use Rattle.extremes.specs.declared.papers.Papers.{Papers}
use Rattle.extremes.specs.declared.judgement.Judgement.{Judgement}
use Rattle.extremes.specs.declared.merge.MergingFault.{MergingFault}
use Rattle.extremes.specs.declared.table.TableText.{TableText}
use Rattle.extremes.specs.declared.table.TablingFault.{TablingFault}
use Rattle.extremes.specs.declared.ending.Ending.{Ending}
use Rattle.extremes.specs.declared.ending.Ending.TheVariants.{File}
use Rattle.extremes.specs.EachRuns.{IsRankEachRun}
use Rattle.extremes.specs.Environments.{Environment, Folders}
use Rattle.extremes.specs.JudgeEachRuns.{IsCheckEachRun}
use Rattle.extremes.specs.Messages.{Line, Streams, input_lines, not_written_line, only_line, warning_lines}
use Rattle.extremes.specs.NamedRuns.{EndsAtAFile, EndsUnnamed, RunsOver, arguments_of, list_of}
use Rattle.extremes.specs.Targets.{Holding, IsInUse, IsPaperOrOutput, PutsNothing, Sharing}
use Rattle.extremes.specs.FaultTexts.{tabling_line}
use Rattle.extremes.specs.Printed.{IsPrinted, IsTold, IsTextShown, IsTableShown}
use Rattle.extremes.specs.Runs.{RanksFiles, JudgesFiles, IsRankedAlone, ranking_paths, judging_paths}
use Rattle.extremes.specs.declared.sample.TheConstants.{STATIONS, DAILY, QUERY}
use Rattle.extremes.specs.Describes.{DescribesFiles, describing_paths}
use Rattle.extremes.specs.declared.describe.DescriptionText.{DescriptionText}
use Rattle.extremes.specs.declared.files.Describing.{Describing}
use Rattle.extremes.specs.declared.files.Ranking.{Ranking}
use Rattle.extremes.specs.declared.files.Judging.{Judging}
use Rattle.extremes.specs.Merges.{Known, parts_paths, MergesFiles}
use Rattle.extremes.specs.Tables.{TablesFiles, tabling_paths}

-- whether the file of a path may be found to be in use, and whether it may be found not to be
abbrev pub Using : Type 1
Using = List ℕ → Bool → Type 0

-- the file of a ranking's certificate is so by what it may be found to share with others, and to hold
abbrev pub ranking_uses : (List ℕ → Sharing) → (List ℕ → Holding) → Ranking → Option (List ℕ) → Using
ranking_uses shares holds r list path used =
    IsInUse (shares path) (holds path) (string_bytes r.stations) list r.files.items used

-- and that of a merge's
abbrev pub merge_uses : (List ℕ → Sharing) → (List ℕ → Holding) → List Part → Using
merge_uses shares holds parts path used = IsPaperOrOutput (shares path) (holds path) parts used

-- the certificate's file is found to be in use, and nothing is printed but a line on standard error that names it
pub record EndsAtOut (uses : Using) (s : Streams) (path : Option (List ℕ)) (ending : Ending) : Type 0 where
  pub used : IsSomeAnd path (λ p. uses p true × s.says (not_written_line p ∷ []))
  pub ends : ending ≡ File
  pub unprinted : s.after ≡ s.before

-- what one worker returns for the texts that are built in
abbrev pub IsSampleRanked : Result Papers Fault → Type 0
IsSampleRanked answer = IsRankedAlone None QUERY.now STATIONS.now (DAILY.now ∷ []) answer

-- the ranking of the texts that are built in is printed
pub record PrintsSample (e : Environment) (ending : Ending) : Type 0 where
  pub answer : Result Papers Fault
  pub ranked : IsSampleRanked answer
  pub printed : IsPrinted (only_line e.line) e.streams answer [] None e.puts ending

-- the ranking of files that are named is printed, and its certificate goes to the file of a path if there is one
pub record PrintsRanking (e : Environment) (r : Ranking) (files : NamedFiles) (path : Option (List ℕ)) (ending : Ending)
    : Type 0 where
  pub answer : Result Papers Fault
  pub warnings : Warnings
  pub ranked : RanksFiles e.bytes_of e.opens r answer warnings
  pub printed : IsPrinted (input_lines e.line (arguments_of files) (map string_bytes r.files.items)) e.streams answer
      (warning_lines (map string_bytes r.files.items) warnings) path e.puts ending

-- the merge of the reports and certificates of parts that are named is printed, and its certificate goes to the file of
-- a path if there is one
pub record PrintsMerge (e : Environment) (query : List ℕ) (parts : List Part) (path : Option (List ℕ)) (ending : Ending)
    : Type 0 where
  pub answer : Result Papers MergingFault
  pub merged : MergesFiles e.bytes_of e.opens query parts answer
  pub printed : IsPrinted (only_line e.merging_line) e.streams answer [] path e.puts ending

-- the judgement of a report and a certificate that are named is printed
pub record PrintsJudgement (bytes_of : Known) (opens : Opening) (line : Fault → Line) (s : Streams) (j : Judging)
    (files : NamedFiles) (ending : Ending) : Type 0 where
  pub answer : Result (Judgement × Warnings) Fault
  pub judged : JudgesFiles bytes_of opens j answer
  pub told : IsTold line s answer (arguments_of files) (map string_bytes j.files.items) ending

-- the description of files that are named is printed
pub record PrintsDescription (bytes_of : Known) (opens : Opening) (line : Fault → Line) (s : Streams) (d : Describing)
    (files : NamedFiles) (ending : Ending) : Type 0 where
  pub answer : Result DescriptionText Fault
  pub described : DescribesFiles bytes_of opens d answer
  pub shown : IsTextShown line s answer (arguments_of files) (map string_bytes d.files.items) ending

-- the table of reports that are named is printed
pub record PrintsTable (bytes_of : Known) (opens : Opening) (line : TablingFault → Line) (s : Streams)
    (asked : TableArguments) (ending : Ending) : Type 0 where
  pub answer : Result TableText TablingFault
  pub tabled : TablesFiles bytes_of opens asked answer
  pub shown : IsTableShown line s answer ending

-- a run finds its certificate's file in use, and ends at it; or it finds that this file isn't in use, and ends at a
-- file that it reads, or is printed
abbrev pub Runs : Environment → Using → Option (List ℕ) → List (List ℕ) → (Ending → Type 0) → Ending → Type 0
Runs e uses path paths prints ending = (PutsNothing e.puts × EndsAtOut uses e.streams path ending)
    ⊎ (PutsNothing e.puts × IfSome path (λ p. uses p false) × EndsAtAFile e.opens e.streams paths ending)
    ⊎ (IfSome path (λ p. uses p false) × prints ending)

-- the same for a ranking
abbrev pub RunsRanking : Environment → Ranking → NamedFiles → Option (List ℕ) → Ending → Type 0
RunsRanking e r files path ending = Runs e (ranking_uses e.shares e.holds r (list_of files)) path (ranking_paths r)
    (PrintsRanking e r files path) ending

-- the same for a merge
abbrev pub RunsMerge : Environment → List ℕ → List Part → Option (List ℕ) → Ending → Type 0
RunsMerge e query parts path ending =
    Runs e (merge_uses e.shares e.holds parts) path (parts_paths parts) (PrintsMerge e query parts path) ending

-- a check ends at a file that it reads, or its judgement is printed
abbrev pub RunsJudging : Known → Opening → (Fault → Line) → Streams → Judging → NamedFiles → Ending → Type 0
RunsJudging bytes_of opens line s j files ending =
    EndsAtAFile opens s (judging_paths j) ending ⊎ PrintsJudgement bytes_of opens line s j files ending

-- a description ends at a file that it reads, or is printed
abbrev pub RunsDescribing : Known → Opening → (Fault → Line) → Streams → Describing → NamedFiles → Ending → Type 0
RunsDescribing bytes_of opens line s d files ending =
    EndsAtAFile opens s (describing_paths d) ending ⊎ PrintsDescription bytes_of opens line s d files ending

-- a table ends at a file that it reads, or is printed
abbrev pub IsTablingRun : Known → Opening → (TablingFault → Line) → Streams → TableArguments → Ending → Type 0
IsTablingRun bytes_of opens line s asked ending =
    EndsAtAFile opens s (tabling_paths asked) ending ⊎ PrintsTable bytes_of opens line s asked ending

-- what a run of a ranking prints and writes, and how it ends: first its files are named; if they can't be, the run ends
-- there, and otherwise they are ranked in their order
abbrev pub IsRankingRun : Environment → RankArguments → Ending → Type 0
IsRankingRun e asked ending =
    (PutsNothing e.puts × EndsUnnamed e.bytes_of e.opens e.names_of e.line e.streams asked.files ending)
    ⊎ RunsOver e.bytes_of e.opens e.names_of asked.files (λ paths. RunsRanking e (record {
      stations = asked.stations;
      files = paths;
      query = asked.query;
      workers = asked.workers;
      guess = asked.guess;
    }) asked.files (option_map string_bytes asked.certificate)) ending

-- the same for a merge: the paths of its parts are taken as they are
abbrev pub IsMergingRun : Environment → MergeArguments → Ending → Type 0
IsMergingRun e asked ending =
    RunsMerge e (string_bytes asked.query) asked.parts.items (option_map string_bytes asked.certificate) ending

-- the same for a check, whose files are named first
abbrev pub IsJudgingRun : Known → Opening → Folders → (Fault → Line) → Streams → CheckArguments → Ending → Type 0
IsJudgingRun bytes_of opens names_of line s asked ending =
    EndsUnnamed bytes_of opens names_of line s asked.files ending
    ⊎ RunsOver bytes_of opens names_of asked.files (λ paths. RunsJudging bytes_of opens line s (record {
      stations = asked.stations;
      files = paths;
      query = asked.query;
      workers = asked.workers;
      papers = record { report = asked.report; certificate = asked.certificate };
      part = asked.part;
    }) asked.files) ending

-- the same for a description, whose files are named first
abbrev pub IsDescribingRun : Known → Opening → Folders → (Fault → Line) → Streams → DescribeArguments → Ending → Type 0
IsDescribingRun bytes_of opens names_of line s asked ending =
    EndsUnnamed bytes_of opens names_of line s asked.files ending
    ⊎ RunsOver bytes_of opens names_of asked.files (λ paths. RunsDescribing bytes_of opens line s (record {
      stations = asked.stations;
      files = paths;
      workers = asked.workers;
    }) asked.files) ending

-- what a run of a command prints and writes, and how it ends: a check, a description and a table write no certificate
abbrev pub IsCommandRun : Environment → Command → Ending → Type 0
IsCommandRun e Sample ending = PrintsSample e ending
IsCommandRun e (Rank asked) ending = IsRankingRun e asked ending
IsCommandRun e (RankEach asked) ending = IsRankEachRun e asked ending
IsCommandRun e (Merge asked) ending = IsMergingRun e asked ending
IsCommandRun e (Check asked) ending =
    PutsNothing e.puts × IsJudgingRun e.bytes_of e.opens e.names_of e.line e.streams asked ending
IsCommandRun e (CheckEach asked) ending =
    PutsNothing e.puts × IsCheckEachRun e.bytes_of e.opens e.names_of e.line e.streams asked ending
IsCommandRun e (Describe asked) ending =
    PutsNothing e.puts × IsDescribingRun e.bytes_of e.opens e.names_of e.line e.streams asked ending
IsCommandRun e (Table asked) ending =
    PutsNothing e.puts × IsTablingRun e.bytes_of e.opens tabling_line e.streams asked ending

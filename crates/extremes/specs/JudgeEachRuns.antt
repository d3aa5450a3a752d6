-- What a check of the reports and the certificates of a list of queries prints, and how it ends.
use Rattle.std.specs.Prelude.{◌≡◌, ◌⊎◌, ℕ, true, List, [], ◌∷◌, length, map, codes, Ok, Err, string_bytes}
use Rattle.std.specs.Io.KnownBytes.{Appends}
use Rattle.std.specs.List.{AllZip}
use Rattle.command_line.specs.declared.asked.CheckEachArguments.{CheckEachArguments}
use Rattle.command_line.specs.declared.asked.NamedFiles.{NamedFiles}
use Rattle.rank_query.specs.Meaning.Asked.{Query}
use Rattle.rank_query.specs.Meaning.Asks.{Asks}
use Rattle.rank_input.specs.declared.fault.Fault.{Fault}
use Rattle.rank_input.specs.declared.fault.Fault.TheVariants.{Memory}
use Rattle.rank_input.specs.Feeding.{AreAllOf, AreFilesOf, AreOpened, AreOpenedFor, Opening}
use Rattle.rank_input.specs.Named.{list_path}
use Rattle.rank_input.specs.Queries.{query_lines}
use Rattle.extremes.specs.declared.checked_papers.JudgingStop.{JudgingStop}
use Rattle.extremes.specs.declared.checked_papers.JudgingStop.TheVariants.{Input, NotRead}
use Rattle.extremes.specs.declared.ending.Ending.{Ending}
use Rattle.extremes.specs.declared.ending.Ending.TheVariants.{File, Refused}
use Rattle.extremes.specs.declared.judge_each.Verdicts.{Verdicts}
use Rattle.extremes.specs.declared.judge_each_files.EachJudging.{EachJudging}
use Rattle.extremes.specs.Delivered.{IsCutOff}
use Rattle.extremes.specs.EachRuns.{AreQueries, EndsAtList}
use Rattle.extremes.specs.Environments.{Folders}
use Rattle.extremes.specs.JudgeEach.{AreJudged, Judged, is_memory}
use Rattle.extremes.specs.Merges.{Known}
use Rattle.extremes.specs.Messages.{Line, Streams, after_lines, input_lines, not_read_line, not_written_line, only_line}
use Rattle.extremes.specs.Messages.{warning_lines}
use Rattle.extremes.specs.NamedRuns.{EndsAtAFile, EndsUnnamed, RunsOver, arguments_of}
use Rattle.extremes.specs.PaperPaths.{all_paths}
use Rattle.extremes.specs.Printed.{IsRefused}
use Rattle.extremes.specs.Runs.{bytes_named}

-- the path of the list of queries; `-` is standard input
abbrev pub asking_path : EachJudging → List ℕ
asking_path j = list_path (string_bytes j.queries)

-- the paths of the station list and of the daily files, in the order in which they are read
abbrev pub data_paths : EachJudging → List (List ℕ)
data_paths j = string_bytes j.stations ∷ map string_bytes j.files.items

-- the paths of the reports and the certificates of that many queries, in the order in which they are opened
abbrev pub papers_paths : EachJudging → ℕ → List (List ℕ)
papers_paths j queries = all_paths (string_bytes j.folder) 1 queries

-- the judgements of all bytes of the reports and the certificates of these queries, for those of the station list and
-- of each daily file, as they are named, in order
pub record JudgesEach (bytes_of : Known) (opens : Opening) (j : EachJudging) (queries : List (List ℕ)) (answer : Judged)
    : Type 0 where
  pub opened : AreOpenedFor is_memory opens (data_paths j) answer
  pub stations : List ℕ
  pub whole : AreAllOf (bytes_named bytes_of j.stations) stations
  pub files : List (List ℕ)
  pub all : AreFilesOf (map (bytes_named bytes_of) j.files.items) files
  pub judged : AreJudged j.part bytes_of opens (string_bytes j.folder) queries stations files answer

-- the same for any texts that denote these queries
abbrev pub JudgesEachOver : Known → Opening → EachJudging → List Query → Judged → Type 0
JudgesEachOver bytes_of opens j queries answer = (lines : List (List ℕ)) → AllZip Asks lines queries
    → JudgesEach bytes_of opens j lines answer

-- verdicts are printed as their lines and end the run as they say; or the lines are cut off, and the run ends as a file
-- that couldn't be written, as a line on standard error says
abbrev pub AreLinesTold : Streams → Verdicts → Ending → Type 0
AreLinesTold s verdicts ending =
    ((ending ≡ verdicts.ending) × Appends s.before s.after verdicts.lines.items × s.says [])
    ⊎ ((ending ≡ File) × IsCutOff verdicts.lines.items s.before s.after
    × s.says (not_written_line (codes "-") ∷ []))

-- how a run ends that stops so: refused if memory ran out, and otherwise at a file
abbrev pub stop_ending : JudgingStop → Ending
stop_ending (Input fault) = Refused
stop_ending (NotRead path) = File

-- the line on it: that of the error, or that the file can't be read
abbrev pub stop_line : (Fault → Line) → JudgingStop → Line
stop_line line (Input fault) = line fault
stop_line line (NotRead path) = not_read_line (string_bytes path)

-- a report or a certificate can't be read, and nothing is printed but a line on standard error that names it
pub record EndsAtPaperUnread (s : Streams) (path : List ℕ) (ending : Ending) : Type 0 where
  pub ends : ending ≡ File
  pub unprinted : s.after ≡ s.before
  pub said : s.says (not_read_line path ∷ [])

-- after the warnings on files of these paths the lines of all verdicts are printed; an error prints its lines alone,
-- and so does a report or a certificate that can't be read
abbrev pub AreVerdictsTold : (Fault → List Line) → Streams → Judged → List (List ℕ) → Ending → Type 0
AreVerdictsTold lines s (Ok judged) paths ending =
    AreLinesTold (after_lines (warning_lines paths judged.1) s) judged.0 ending
AreVerdictsTold lines s (Err (Input fault)) paths ending = IsRefused lines s fault ending
AreVerdictsTold lines s (Err (NotRead path)) paths ending = EndsAtPaperUnread s (string_bytes path) ending

-- the judgements for each of these queries are printed
pub record PrintsVerdicts (bytes_of : Known) (opens : Opening) (line : Fault → Line) (s : Streams) (j : EachJudging)
    (files : NamedFiles) (queries : List (List ℕ)) (ending : Ending) : Type 0 where
  pub answer : Judged
  pub judged : JudgesEach bytes_of opens j queries answer
  pub told : AreVerdictsTold (input_lines line (arguments_of files) (map string_bytes j.files.items)) s answer
      (map string_bytes j.files.items) ending

-- a run ends at the station list or at a daily file, or the judgements for these queries are printed
abbrev pub RunsJudgingEach : Known → Opening → (Fault → Line) → Streams → EachJudging → NamedFiles → List (List ℕ)
    → Ending → Type 0
RunsJudgingEach bytes_of opens line s j files queries ending =
    EndsAtAFile opens s (data_paths j) ending ⊎ PrintsVerdicts bytes_of opens line s j files queries ending

-- a run ends at a report or a certificate that can't be opened, or memory runs out
abbrev pub EndsAtPapers : Opening → (Fault → Line) → Streams → List (List ℕ) → Ending → Type 0
EndsAtPapers opens line s paths ending =
    EndsAtAFile opens s paths ending ⊎ IsRefused (only_line line) s (Memory (record {})) ending

-- how a run goes on with queries that were read: it ends at a report or a certificate, or all of these are opened, and
-- it goes on
abbrev pub RunsTried : Known → Opening → (Fault → Line) → Streams → EachJudging → NamedFiles → List (List ℕ) → Ending
    → Type 0
RunsTried bytes_of opens line s j files queries ending =
    EndsAtPapers opens line s (papers_paths j (length queries)) ending
    ⊎ (AreOpened opens (papers_paths j (length queries))
    × RunsJudgingEach bytes_of opens line s j files queries ending)

-- the same for any texts that denote these queries
abbrev pub RunsAskedJudging : Known → Opening → (Fault → Line) → Streams → EachJudging → NamedFiles → List Query
    → Ending → Type 0
RunsAskedJudging bytes_of opens line s j files queries ending = (lines : List (List ℕ)) → AllZip Asks lines queries
    → RunsTried bytes_of opens line s j files lines ending

-- how a run goes on whose list of queries is this text: it ends there, or each line of the list denotes a query, and
-- the run is over these
abbrev pub RunsAskedList : Known → Opening → (Fault → Line) → Streams → EachJudging → NamedFiles → List ℕ → Ending
    → Type 0
RunsAskedList bytes_of opens line s j files text ending = EndsAtList line s (asking_path j) text ending
    ⊎ (AreQueries (query_lines text) × RunsTried bytes_of opens line s j files (query_lines text) ending)

-- a run reads its list of queries whole, and goes on with it
pub record ReadsAskedList (bytes_of : Known) (opens : Opening) (line : Fault → Line) (s : Streams) (j : EachJudging)
    (files : NamedFiles) (ending : Ending) : Type 0 where
  pub text : List ℕ
  pub opened : opens (asking_path j) true
  pub whole : AreAllOf (bytes_of (asking_path j)) text
  pub runs : RunsAskedList bytes_of opens line s j files text ending

-- a run whose files are named ends at its list of queries if that can't be read, or reads it
abbrev pub RunsNamedJudging : Known → Opening → (Fault → Line) → Streams → EachJudging → NamedFiles → Ending → Type 0
RunsNamedJudging bytes_of opens line s j files ending =
    EndsAtAFile opens s (asking_path j ∷ []) ending ⊎ ReadsAskedList bytes_of opens line s j files ending

-- what a check of a list of queries prints, and how it ends: first its daily files are named, then the list is read,
-- the reports and certificates are opened, and the station list and the daily files are read
abbrev pub IsCheckEachRun : Known → Opening → Folders → (Fault → Line) → Streams → CheckEachArguments → Ending → Type 0
IsCheckEachRun bytes_of opens names_of line s asked ending =
    EndsUnnamed bytes_of opens names_of line s asked.files ending
    ⊎ RunsOver bytes_of opens names_of asked.files (λ paths. RunsNamedJudging bytes_of opens line s (record {
      stations = asked.stations;
      queries = asked.queries;
      folder = asked.papers;
      files = paths;
      workers = asked.workers;
      part = asked.part;
    }) asked.files) ending

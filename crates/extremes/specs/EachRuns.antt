-- What a run over a list of queries returns, prints and writes, and how it ends.
use Rattle.std.specs.Prelude.{◌≡◌, ◌⊎◌, ℕ, true, false, List, [], ◌∷◌, length, map, Option, None, Some, option_map}
use Rattle.std.specs.Prelude.{Ok, Err, IfOk, string_bytes}
use Rattle.std.specs.List.{AllByRecursion, AllZip}
use Rattle.command_line.specs.declared.asked.NamedFiles.{NamedFiles}
use Rattle.command_line.specs.declared.asked.RankEachArguments.{RankEachArguments}
use Rattle.ghcn_fields.specs.Refusals.{OrMemory}
use Rattle.ghcn_series.specs.declared.counts.Warnings.{Warnings}
use Rattle.ghcn_series.specs.LineKinds.{warnings_of}
use Rattle.ghcn_series.specs.SaidLists.{stations_said, unlisted_said}
use Rattle.rank_query.specs.Meaning.Asked.{Query}
use Rattle.rank_query.specs.Meaning.Asks.{Asks}
use Rattle.rank_input.specs.declared.fault.Fault.{Fault}
use Rattle.rank_input.specs.declared.fault.Fault.TheVariants.{Memory}
use Rattle.rank_input.specs.declared.queries.QueriesFault.{QueriesFault}
use Rattle.rank_input.specs.Feeding.{AreAllOf, AreFilesOf, AreOpened, Opening}
use Rattle.rank_input.specs.Input.{is_crew, is_memory, words_fault}
use Rattle.rank_input.specs.Named.{list_path}
use Rattle.rank_input.specs.Queries.{IsFirstBadQuery, query_lines}
use Rattle.extremes.specs.declared.each.RankedEach.{RankedEach}
use Rattle.extremes.specs.declared.each_files.EachRanking.{EachRanking}
use Rattle.extremes.specs.declared.ending.Ending.{Ending}
use Rattle.extremes.specs.declared.papers_folder.Stop.TheVariants.{Input, NotWritten}
use Rattle.extremes.specs.Each.{RanksAll, RanksUntil, Reports}
use Rattle.extremes.specs.EachPrinted.{AreReportsPrinted, EndsAtPaper, list_ending, list_lines}
use Rattle.extremes.specs.Environments.{Environment}
use Rattle.extremes.specs.Merges.{Known}
use Rattle.extremes.specs.Messages.{Line, Streams, input_lines, only_line, warning_lines}
use Rattle.extremes.specs.NamedRuns.{EndsAtAFile, EndsUnnamed, RunsOver, arguments_of}
use Rattle.extremes.specs.PapersFolder.{HasFolder, IsFolder, IsFoundFirst, new_paths}
use Rattle.extremes.specs.Printed.{IsRefused}
use Rattle.extremes.specs.Runs.{IsRanked, bytes_named}
use Rattle.extremes.specs.Targets.{PutsNothing, Storing}

-- the path of the list of queries; `-` is standard input
abbrev pub queries_path : EachRanking → List ℕ
queries_path r = list_path (string_bytes r.queries)

-- the paths of what is ranked, in the order in which it is read
abbrev pub each_paths : EachRanking → List (List ℕ)
each_paths r = string_bytes r.stations ∷ map string_bytes r.files.items

-- the texts are ranked for each query by at most that many workers, and the certificate and the report of each are put
-- into the folder, if there is one; or each of these rankings is refused with this error, and nothing is put; or memory
-- runs out, or a file of this path isn't put whole, and the rankings stop
abbrev pub AreRanked : ℕ → List (List ℕ) → Option (List ℕ) → Storing → List ℕ → List (List ℕ) → Reports → Type 0
AreRanked workers queries folder stores stations files (Ok reports) =
    RanksAll (λ query papers. IsRanked workers None query stations files (Ok papers)) queries folder 1 stores reports.items
AreRanked workers queries folder stores stations files (Err (Input fault)) =
    AllByRecursion (λ query. IsRanked workers None query stations files (Err fault)) queries
    × OrMemory is_memory (λ why. stores [] None) fault
    × RanksUntil (λ query papers. IsRanked workers None query stations files (Ok papers)) queries folder 1 stores None
AreRanked workers queries folder stores stations files (Err (NotWritten path)) = (bytes : List ℕ)
    × RanksUntil (λ query papers. IsRanked workers None query stations files (Ok papers)) queries folder 1 stores
    (Some (string_bytes path, bytes))

-- the folder of a run, if there is one
abbrev pub folder_of : EachRanking → Option (List ℕ)
folder_of r = option_map string_bytes r.folder

-- the files were opened, unless memory ran out
abbrev pub AreOpenedUnless : Opening → List (List ℕ) → Reports → Type 0
AreOpenedUnless opens paths (Ok reports) = AreOpened opens paths
AreOpenedUnless opens paths (Err (Input fault)) = OrMemory is_memory (λ why. AreOpened opens paths) fault
AreOpenedUnless opens paths (Err (NotWritten path)) = AreOpened opens paths

-- the ranking of all bytes of the station list and of each daily file that are named, in order, for each of these
-- queries; and what is warned of in these files, and how many of their lines are of unlisted stations
pub record RanksEach (bytes_of : Known) (opens : Opening) (stores : Storing) (r : EachRanking) (queries : List (List ℕ))
    (answer : Reports) (warnings : Warnings) (unlisted : ℕ) : Type 0 where
  pub opened : AreOpenedUnless opens (each_paths r) answer
  pub stations : List ℕ
  pub whole : AreAllOf (bytes_named bytes_of r.stations) stations
  pub files : List (List ℕ)
  pub all : AreFilesOf (map (bytes_named bytes_of) r.files.items) files
  pub ranked : AreRanked r.workers queries (folder_of r) stores stations files answer
  pub told : IfOk answer (λ reports. (warnings ≡ warnings_of files)
      × (unlisted ≡ unlisted_said (stations_said stations) files))

-- the same for any texts that denote these queries
abbrev pub RanksEachOver : Known → Opening → Storing → EachRanking → List Query → RankedEach → Type 0
RanksEachOver bytes_of opens stores r queries ranked = (lines : List (List ℕ)) → AllZip Asks lines queries
    → RanksEach bytes_of opens stores r lines ranked.reports ranked.warnings ranked.unlisted

-- the reports of a ranking for each of these queries are printed
pub record PrintsEach (e : Environment) (r : EachRanking) (files : NamedFiles) (queries : List (List ℕ)) (ending : Ending)
    : Type 0 where
  pub answer : Reports
  pub warnings : Warnings
  pub unlisted : ℕ
  pub ranked : RanksEach e.bytes_of e.opens e.stores r queries answer warnings unlisted
  pub printed : AreReportsPrinted (input_lines e.line (arguments_of files) (map string_bytes r.files.items)) e.streams
      answer (warning_lines (map string_bytes r.files.items) warnings) unlisted ending

-- a run ends at a file that it reads for these queries, or its reports are printed
abbrev pub RunsQueries : Environment → EachRanking → NamedFiles → List (List ℕ) → Ending → Type 0
RunsQueries e r files queries ending = (PutsNothing e.puts × EndsAtAFile e.opens e.streams (each_paths r) ending)
    ⊎ PrintsEach e r files queries ending

-- the same for any texts that denote these queries
abbrev pub RunsAsked : Environment → EachRanking → NamedFiles → List Query → Ending → Type 0
RunsAsked e r files queries ending =
    (lines : List (List ℕ)) → AllZip Asks lines queries → RunsQueries e r files lines ending

-- of these paths the first by which a file is found ends the run; or memory runs out
abbrev pub EndsAtFolder : Environment → List (List ℕ) → Ending → Type 0
EndsAtFolder e paths ending =
    ((path : List ℕ) × IsFoundFirst e.there paths path × EndsAtPaper e.streams path ending)
    ⊎ IsRefused (only_line e.line) e.streams (Memory (record {})) ending

-- the folder of a run isn't found, and ends it; or memory runs out
abbrev pub EndsUnfound : Environment → Option (List ℕ) → Ending → Type 0
EndsUnfound e folder ending =
    ((path : List ℕ) × (folder ≡ Some path) × IsFolder e.there path false × EndsAtPaper e.streams path ending)
    ⊎ IsRefused (only_line e.line) e.streams (Memory (record {})) ending

-- how a run goes on whose folder is there: it ends at a file that one of the queries is to get, or no such file is
-- found, and it goes on
abbrev pub RunsApart : Environment → EachRanking → NamedFiles → List (List ℕ) → Ending → Type 0
RunsApart e r files queries ending =
    (PutsNothing e.puts × EndsAtFolder e (new_paths (folder_of r) (length queries)) ending)
    ⊎ (AllByRecursion (λ path. e.there path false) (new_paths (folder_of r) (length queries))
    × RunsQueries e r files queries ending)

-- the same for any texts that denote these queries
abbrev pub RunsAskedApart : Environment → EachRanking → NamedFiles → List Query → Ending → Type 0
RunsAskedApart e r files queries ending =
    (lines : List (List ℕ)) → AllZip Asks lines queries → RunsApart e r files lines ending

-- how a run goes on with queries that were read: it ends without its folder, or the folder is found, and it goes on
abbrev pub RunsInto : Environment → EachRanking → NamedFiles → List (List ℕ) → Ending → Type 0
RunsInto e r files queries ending = (PutsNothing e.puts × EndsUnfound e (folder_of r) ending)
    ⊎ (HasFolder e.there (folder_of r) × RunsApart e r files queries ending)

-- the same for any texts that denote these queries
abbrev pub RunsAskedInto : Environment → EachRanking → NamedFiles → List Query → Ending → Type 0
RunsAskedInto e r files queries ending =
    (lines : List (List ℕ)) → AllZip Asks lines queries → RunsInto e r files lines ending

-- that many workers may not run, and nothing is printed but a line on standard error that says so
pub record EndsAtWorkers (line : Fault → Line) (s : Streams) (workers : ℕ) (ending : Ending) : Type 0 where
  pub fault : Fault
  pub is : words_fault workers None ≡ Some fault
  pub refused : IsRefused (only_line line) s fault ending

-- a list of queries is refused at its first bad line, and nothing is printed but lines on standard error that say why
-- and where
pub record EndsAtList (line : Fault → Line) (s : Streams) (path text : List ℕ) (ending : Ending) : Type 0 where
  pub why : QueriesFault
  pub first : IsFirstBadQuery text why
  pub ends : ending ≡ list_ending why
  pub unprinted : s.after ≡ s.before
  pub said : s.says (list_lines line path why)

-- each line of a list denotes a query
pub record AreQueries (lines : List (List ℕ)) : Type 0 where
  pub queries : List Query
  pub asked : AllZip Asks lines queries

-- how a run goes on that may have that many workers: it ends at its list of queries, whose text this is, or each line of
-- the list denotes a query, and the run is over these
abbrev pub RunsList : Environment → EachRanking → NamedFiles → List ℕ → Ending → Type 0
RunsList e r files text ending = (PutsNothing e.puts × EndsAtList e.line e.streams (queries_path r) text ending)
    ⊎ (AreQueries (query_lines text) × RunsInto e r files (query_lines text) ending)

-- how a run goes on whose list of queries is this text: first the number of workers is tested
abbrev pub RunsListed : Environment → EachRanking → NamedFiles → List ℕ → Ending → Type 0
RunsListed e r files text ending = (PutsNothing e.puts × EndsAtWorkers e.line e.streams r.workers ending)
    ⊎ ((is_crew r.workers ≡ true) × RunsList e r files text ending)

-- a run reads its list of queries whole, and goes on with it
pub record ReadsList (e : Environment) (r : EachRanking) (files : NamedFiles) (ending : Ending) : Type 0 where
  pub text : List ℕ
  pub opened : e.opens (queries_path r) true
  pub whole : AreAllOf (e.bytes_of (queries_path r)) text
  pub runs : RunsListed e r files text ending

-- a run whose files are named ends at its list of queries if that can't be read, or reads it
abbrev pub RunsEach : Environment → EachRanking → NamedFiles → Ending → Type 0
RunsEach e r files ending = (PutsNothing e.puts × EndsAtAFile e.opens e.streams (queries_path r ∷ []) ending)
    ⊎ ReadsList e r files ending

-- what a run over a list of queries prints and writes, and how it ends: first its daily files are named, then the list
-- is read, and then the station list and the daily files are
abbrev pub IsRankEachRun : Environment → RankEachArguments → Ending → Type 0
IsRankEachRun e asked ending =
    (PutsNothing e.puts × EndsUnnamed e.bytes_of e.opens e.names_of e.line e.streams asked.files ending)
    ⊎ RunsOver e.bytes_of e.opens e.names_of asked.files (λ paths. RunsEach e (record {
      stations = asked.stations;
      queries = asked.queries;
      folder = asked.papers;
      files = paths;
      workers = asked.workers;
    }) asked.files) ending

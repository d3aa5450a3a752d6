-- A run over a list of queries, and what it returns for the files that it reads.
use Rattle.std.proofs.Common.{◌≡◌, ℕ, ◌≤◌, true, List, [], ◌∷◌, map, refl, subst}
use Rattle.std.specs.Prelude.{Option, None, Some, Ok, Err, IfOk, string_bytes}
use Rattle.std.proofs.lemmas.Bool.{OnFalse_from}
use Rattle.std.specs.List.{AllByRecursion, AllZip}
use Rattle.std.proofs.lemmas.Result.{IfOk-weaker}
use Rattle.ghcn_fields.specs.Refusals.{IsRefusal}
use Rattle.ghcn_fields.specs.declared.memory.Memory.{Memory as WantOfMemory}
use Rattle.ghcn_files.specs.declared.element.Keep.{Keep}
use Rattle.ghcn_series.specs.declared.counts.Warnings.{Warnings}
use Rattle.ghcn_series.specs.declared.rows.RowReader.{RowReader}
use Rattle.ghcn_series.specs.Gathered.{HasReadByRows}
use Rattle.rank_query.specs.Meaning.Asked.{Query}
use Rattle.rank_query.specs.Meaning.Asks.{Asks}
use Rattle.rank_query.proofs.Asks.{asks_read}
use Rattle.rank_input.specs.declared.fault.Fault.{Fault}
use Rattle.rank_input.specs.declared.fault.Fault.TheVariants.{Memory}
use Rattle.rank_input.specs.declared.intake.Intake.{Intake}
use Rattle.rank_input.specs.Feeding.{AreAllOf, AreOpened, Opening}
use Rattle.rank_input.specs.Input.{is_crew, is_memory, read_files}
use Rattle.rank_input.specs.Shares.{TakesWhole}
use Rattle.rank_input.specs.Takes.{file_input}
use Rattle.rank_input.proofs.Questions.{refused_input}
use Rattle.extremes.specs.declared.each_files.EachRanking.{EachRanking}
use Rattle.extremes.specs.declared.papers.Papers.{Papers}
use Rattle.extremes.specs.declared.papers_folder.Stop.TheVariants.{Input, NotWritten}
use Rattle.extremes.specs.Each.{AreKeptFor, EndsFor, EndsTaken, IsRankedBy, Reports, WarnsOfTaken}
use Rattle.extremes.specs.EachRuns.{AreOpenedUnless, AreRanked, RanksEach, each_paths, folder_of}
use Rattle.extremes.specs.Merges.{Known}
use Rattle.extremes.specs.Runs.{IsRanked, bytes_named}
use Rattle.extremes.specs.PapersFolder.{new_files}
use Rattle.extremes.specs.Targets.{Storing}
use Rattle.extremes.proofs.EachAnswers.{ranks-all-as, until-as}
use Rattle.extremes.proofs.FedRuns.{input_refuses, some_files}

-- each text is the same as itself
same-pairs : (lines : List (List ℕ)) → AllZip (λ (x y : List ℕ). y ≡ x) lines lines
same-pairs [] = tt
same-pairs (line ∷ lines) = (refl, same-pairs lines)

no-facts : (lines : List (List ℕ)) → AllByRecursion (λ (x : List ℕ). Unit {0}) lines
no-facts [] = tt
no-facts (line ∷ lines) = (tt, no-facts lines)

module _ (workers ran : ℕ) (stations : List ℕ) (files : List (List ℕ)) (crew : is_crew workers ≡ true)
    (few : ran ≤ workers) where
  -- what some of the workers that may run return for a query is what is ranked for it
  ranked_some : (query : List ℕ) (papers : Papers) → IsRankedBy ran stations files query papers
      → IsRanked workers None query stations files (Ok papers)
  ranked_some query papers are = (rw crew refl, are.answers, record { ran = ran; few = few; crew = are.crew })

  -- an error of the files is that of the ranking of each query
  each_refused : (fault : Fault) → IsRefusal is_memory fault (read_files stations files) → (lines : List (List ℕ))
      (queries : List Query) → AllZip Asks lines queries
      → AllByRecursion (λ query. IsRanked workers None query stations files (Err fault)) lines
  each_refused fault is [] [] all = tt
  each_refused fault is [] (q ∷ qs) all = absurd all
  each_refused fault is (line ∷ lines) [] all = absurd all
  each_refused fault is (line ∷ lines) (q ∷ qs) all = (
    input_refuses workers None line stations files fault crew refl
        (refused_input line stations files q fault (asks_read line q all.0) is),
    each_refused fault is lines qs all.1,
  )

  module _ (lines : List (List ℕ)) (folder : Option (List ℕ)) (stores : Storing) where
    -- what is ranked of each text
    abbrev by : List ℕ → Papers → Type 0
    by = IsRankedBy ran stations files

    abbrev is_so : List ℕ → Papers → Type 0
    is_so query p = IsRanked workers None query stations files (Ok p)

    step : (query other : List ℕ) (p : Papers) → other ≡ query → Unit {0} → by other p → is_so query p
    step query other p same kept is = ranked_some query p (subst (λ (l : List ℕ). by l p) same is)

    -- rankings that end so for some texts are those of a run
    pub are_ranked : (queries : List Query) → AllZip Asks lines queries → (answer : Reports)
        → EndsFor ran stations files lines folder stores answer
        → AreRanked workers lines folder stores stations files answer
    are_ranked queries asks (Ok text) ends =
        ranks-all-as (λ (x y : List ℕ). y ≡ x) (λ x. Unit {0}) by is_so step lines lines (same-pairs lines)
        (no-facts lines) folder 1 stores text.items ends
    are_ranked queries asks (Err (Input fault)) ends = (
      each_refused fault ends.0 lines queries asks,
      ends.1,
      until-as (λ (x y : List ℕ). y ≡ x) (λ x. Unit {0}) by is_so step lines lines (same-pairs lines) (no-facts lines)
          folder 1 stores None ends.2,
    )
    are_ranked queries asks (Err (NotWritten path)) ends = (
      ends.0,
      until-as (λ (x y : List ℕ). y ≡ x) (λ x. Unit {0}) by is_so step lines lines (same-pairs lines) (no-facts lines)
          folder 1 stores _ ends.1,
    )

-- files that were opened were, unless memory ran out
opened-unless : (opens : Opening) (paths : List (List ℕ)) (answer : Reports) → AreOpened opens paths
    → AreOpenedUnless opens paths answer
opened-unless opens paths (Ok reports) are = are
opened-unless opens paths (Err (Input fault)) are = OnFalse_from (is_memory fault) _ (λ e. are)
opened-unless opens paths (Err (NotWritten path)) are = are

module _ (bytes_of : Known) (opens : Opening) (stores : Storing) (r : EachRanking) (list stations : List ℕ)
    (same : list ≡ string_bytes r.stations) (whole : AreAllOf (bytes_of list) stations) where
  -- the ranking by an intake that was given all files that are named, and kept the elements of the queries
  pub ranks-each : (t : Intake RowReader) (queries : List Query) (keep : Keep) (ran : ℕ) (answer : Reports)
      (warnings : Warnings) (unlisted : ℕ) → AreKeptFor queries keep → is_crew r.workers ≡ true → ran ≤ r.workers
      → TakesWhole HasReadByRows bytes_of opens keep stations r.files.items t
      → EndsTaken t queries ran (folder_of r) stores answer
      → IfOk answer (λ text. WarnsOfTaken t warnings unlisted)
      → opens list true → (lines : List (List ℕ)) → AllZip Asks lines queries
      → RanksEach bytes_of opens stores r lines answer warnings unlisted
  ranks-each t queries keep ran answer warnings unlisted keeps crew few takes ends told first lines asks = record {
    opened = opened-unless opens (each_paths r) answer
        (subst (λ (l : List ℕ). opens l true) same first, takes.opened);
    stations = stations;
    whole = subst (λ (l : List ℕ). AreAllOf (bytes_of l) stations) same whole;
    files = takes.files;
    all = takes.all;
    ranked = are_ranked r.workers ran stations takes.files crew few lines (folder_of r) stores queries asks answer
        (ends.is (file_input keep stations takes.files) takes.taken keeps lines asks);
    told = IfOk-weaker answer _ _ (λ text are. are.is (file_input keep stations takes.files) takes.taken) told;
  }

  -- out of memory may be returned for any queries and files
  refused-all : (m : WantOfMemory) (files lines : List (List ℕ))
      → AllByRecursion (λ query. IsRanked r.workers None query stations files (Err (Memory m))) lines
  refused-all m files [] = tt
  refused-all m files (line ∷ lines) = (tt, refused-all m files lines)

  pub ranks-each-memory : (m : WantOfMemory) (warnings : Warnings) (unlisted : ℕ) (lines : List (List ℕ))
      → stores [] None → RanksEach bytes_of opens stores r lines (Err (Input (Memory m))) warnings unlisted
  ranks-each-memory m warnings unlisted lines none =
      let some = some_files (map (bytes_named bytes_of) r.files.items) in record {
        opened = tt;
        stations = stations;
        whole = subst (λ (l : List ℕ). AreAllOf (bytes_of l) stations) same whole;
        files = some.0;
        all = some.1;
        ranked = (
          refused-all m some.0 lines,
          tt,
          record {
            first = [];
            more = lines;
            among = refl;
            papers = [];
            ranked = tt;
            put = record { put = []; rest = new_files (folder_of r) 1 []; among = refl; fails = tt; stored = none };
          },
        );
        told = tt;
      }

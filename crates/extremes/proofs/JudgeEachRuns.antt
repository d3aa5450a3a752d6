-- A check of a list of queries, and what it returns for the files that it reads.
use Rattle.std.proofs.Common.{◌≡◌, ℕ, true, false, List, [], ◌∷◌, map, refl, subst}
use Rattle.std.specs.Prelude.{Bool, Err, string_bytes}
use Rattle.std.specs.List.{AllByRecursion, AllZip}
use Rattle.ghcn_fields.specs.Refusals.{IsRefusal}
use Rattle.ghcn_fields.specs.declared.memory.Memory.{Memory as WantOfMemory}
use Rattle.ghcn_files.specs.declared.element.Keep.{Keep}
use Rattle.ghcn_series.specs.declared.rows.RowReader.{RowReader}
use Rattle.ghcn_series.specs.Gathered.{HasReadByRows}
use Rattle.rank_query.specs.Meaning.Asked.{Query}
use Rattle.rank_query.specs.Meaning.Asks.{Asks}
use Rattle.rank_input.specs.declared.fault.Fault.{Fault}
use Rattle.rank_input.specs.declared.fault.Fault.TheVariants.{Memory, StationLine, TooManyStations, DailyLine}
use Rattle.rank_input.specs.declared.fault.Fault.TheVariants.{TooManyFiles, QueryTooLong, UnexpectedWord, QueryEnds}
use Rattle.rank_input.specs.declared.fault.Fault.TheVariants.{OutOfLimits, BadDate, BadBox, EmptyPeriod, BadWorkers}
use Rattle.rank_input.specs.declared.fault.Fault.TheVariants.{BadGuess}
use Rattle.rank_input.specs.declared.intake.Intake.{Intake}
use Rattle.rank_input.specs.Feeding.{AreAllOf, Opening}
use Rattle.rank_input.specs.Input as input
use Rattle.rank_input.specs.Input.{read_input}
use Rattle.rank_input.specs.Shares.{TakesWhole}
use Rattle.rank_input.specs.Takes.{file_input}
use Rattle.rank_input.proofs.Openings.{opened-for}
use Rattle.extremes.specs.declared.checked_papers.JudgingStop.TheVariants.{Input}
use Rattle.extremes.specs.declared.judge_each_files.EachJudging.{EachJudging}
use Rattle.extremes.specs.Each.{AreKeptFor}
use Rattle.extremes.specs.JudgeEach.{AreJudged, Judged, JudgesTaken, is_memory}
use Rattle.extremes.specs.JudgeEachRuns.{JudgesEach, data_paths}
use Rattle.extremes.specs.Merges.{Known}
use Rattle.extremes.specs.Runs.{bytes_named}
use Rattle.extremes.proofs.FedRuns.{some_files}

module _ (bytes_of : Known) (opens : Opening) (j : EachJudging) (list stations : List ℕ)
    (same : list ≡ string_bytes j.stations) (whole : AreAllOf (bytes_of list) stations) where
  -- the judgements by an intake that was given all files that are named, and kept the elements of the queries
  pub judges-each : (t : Intake RowReader) (queries : List Query) (keep : Keep) (part : Bool) (folder : List ℕ)
      (answer : Judged) → part ≡ j.part → folder ≡ string_bytes j.folder → AreKeptFor queries keep
      → TakesWhole HasReadByRows bytes_of opens keep stations j.files.items t
      → JudgesTaken part bytes_of opens folder t queries answer → opens list true → (lines : List (List ℕ))
      → AllZip Asks lines queries → JudgesEach bytes_of opens j lines answer
  judges-each t queries keep part folder answer of_part at keeps takes judges first lines asks = record {
    opened = opened-for is_memory opens (data_paths j) answer
        (subst (λ (l : List ℕ). opens l true) same first, takes.opened);
    stations = stations;
    whole = subst (λ (l : List ℕ). AreAllOf (bytes_of l) stations) same whole;
    files = takes.files;
    all = takes.all;
    judged = subst (λ (p : Bool).
        AreJudged p bytes_of opens (string_bytes j.folder) lines stations takes.files answer) of_part
        (subst (λ (f : List ℕ). AreJudged part bytes_of opens f lines stations takes.files answer) at
        (judges.is (file_input keep stations takes.files) takes.taken keeps lines asks));
  }

  -- out of memory may be returned for any queries and files
  refused-all : (m : WantOfMemory) (files lines : List (List ℕ))
      → AllByRecursion (λ query. IsRefusal input.is_memory (Memory m) (read_input query stations files)) lines
  refused-all m files [] = tt
  refused-all m files (line ∷ lines) = (tt, refused-all m files lines)

  pub judges-each-memory : (m : WantOfMemory) (lines : List (List ℕ))
      → JudgesEach bytes_of opens j lines (Err (Input (Memory m)))
  judges-each-memory m lines =
      let some = some_files (map (bytes_named bytes_of) j.files.items) in record {
        opened = tt;
        stations = stations;
        whole = subst (λ (l : List ℕ). AreAllOf (bytes_of l) stations) same whole;
        files = some.0;
        all = some.1;
        judged = refused-all m some.0 lines;
      }

-- an error that is out of memory
pub of-memory : (fault : Fault) → input.is_memory fault ≡ true → fault ≡ Memory (record {})
of-memory (StationLine line why) is = let bad : false ≡ true = is in cc
of-memory TooManyStations is = let bad : false ≡ true = is in cc
of-memory (Memory m) is = refl
of-memory (DailyLine file line why) is = let bad : false ≡ true = is in cc
of-memory TooManyFiles is = let bad : false ≡ true = is in cc
of-memory QueryTooLong is = let bad : false ≡ true = is in cc
of-memory (UnexpectedWord at) is = let bad : false ≡ true = is in cc
of-memory QueryEnds is = let bad : false ≡ true = is in cc
of-memory (OutOfLimits at) is = let bad : false ≡ true = is in cc
of-memory (BadDate at) is = let bad : false ≡ true = is in cc
of-memory (BadBox at) is = let bad : false ≡ true = is in cc
of-memory EmptyPeriod is = let bad : false ≡ true = is in cc
of-memory BadWorkers is = let bad : false ≡ true = is in cc
of-memory BadGuess is = let bad : false ≡ true = is in cc

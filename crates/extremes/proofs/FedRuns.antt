-- A run over files that were fed whole.
use Rattle.std.proofs.Common.{◌≡◌, ℕ, ◌≤◌, Bool, true, List, [], ◌∷◌, map, refl, subst}
use Rattle.std.specs.Prelude.{Option, None, Some, Result, Ok, Err, IfOk, IfErr, ℤ, string_bytes}
use Rattle.std.proofs.lemmas.Bool.{OnFalse_from}
use Rattle.std.proofs.lemmas.Result.{IfOk-weaker}
use Rattle.ghcn_fields.specs.declared.memory.Memory.{Memory as WantOfMemory}
use Rattle.ghcn_series.specs.declared.counts.Warnings.{Warnings}
use Rattle.ghcn_series.specs.Fed.{files_of}
use Rattle.rank_input.specs.declared.fault.Fault.{Fault}
use Rattle.rank_input.specs.declared.fault.Fault.TheVariants.{Memory}
use Rattle.ghcn_files.specs.declared.element.Keep.{Keep}
use Rattle.ghcn_description.specs.declared.describer.RowDescriber.{RowDescriber}
use Rattle.ghcn_description.specs.Describing.{HasDescribedByRows}
use Rattle.rank_input.specs.declared.intake.Intake.{Intake}
use Rattle.rank_input.specs.declared.question.Question.{Question}
use Rattle.extremes.specs.declared.papers.Papers.{Papers}
use Rattle.extremes.specs.declared.judgement.Judgement.{Judgement}
use Rattle.rank_input.specs.Input.{is_crew, is_guess, words_fault, read_unless, read_input, read_run, is_memory}
use Rattle.rank_input.specs.Takes as takes
use Rattle.rank_input.specs.Takes.{file_input, RefusesTaken}
use Rattle.rank_input.specs.Taken.{given, HasTaken, AreWarningsOf, RefusesInput}
use Rattle.rank_input.specs.Feeding.{AreAllOf, AreFilesOf, AreOpened, FeedsFiles, Opening}
use Rattle.rank_input.specs.Shares.{AsksWhole, TakesWhole}
use Rattle.rank_input.proofs.Openings.{opened-for, opened-both}
use Rattle.ghcn_fields.specs.Refusals.{IsRefusal}
use Rattle.rank_input.proofs.Feedings.{input-files}
use Rattle.extremes.specs.Runs.{AnswersInput, CrewsInput, RanksInput, JudgesInputAs, bytes_named, IsRanked}
use Rattle.extremes.specs.Runs.{IsRankedAlone, RanksFiles, IsJudgement, JudgesFiles, ranking_paths, judging_paths}
use Rattle.extremes.specs.Meaning.Answer.{Answers}
use Rattle.extremes.specs.Answer.{IsSerial}
use Rattle.extremes.specs.Describes.{IsDescriptionOf, DescribesIntake, DescribesFiles, describing_paths}
use Rattle.extremes.specs.declared.describe.DescriptionText.{DescriptionText}
use Rattle.extremes.specs.declared.files.Describing.{Describing}
use Rattle.extremes.specs.Merges.{Known, known_part, part_paths, AreBothOf}
use Rattle.extremes.specs.declared.files.Ranking.{Ranking}
use Rattle.extremes.specs.declared.files.Judging.{Judging}
use Rattle.rank_merge.specs.Merging.{Texts}

-- an error of the arguments of a run is its first
pub words_refuse : (workers : ℕ) (guess : Option ℤ) (query stations : List ℕ) (files : List (List ℕ)) (fault : Fault)
    → words_fault workers guess ≡ Some fault
    → IsRefusal is_memory fault (read_unless (words_fault workers guess) (read_input query stations files))
words_refuse workers guess query stations files fault is = OnFalse_from (is_memory fault) _ (λ e. rw is refl)

-- after arguments without an error the input's error is the first
pub input_refuses : (workers : ℕ) (guess : Option ℤ) (query stations : List ℕ) (files : List (List ℕ)) (fault : Fault)
    → is_crew workers ≡ true → is_guess guess ≡ true → IsRefusal is_memory fault (read_input query stations files)
    → IsRefusal is_memory fault (read_unless (words_fault workers guess) (read_input query stations files))
input_refuses workers guess query stations files fault crew might is = rw (crew, might) is

-- what some of the workers that were asked for return for a question is an answer to its input
pub ranks-input : (t : Question) (workers ran : ℕ) (guess : Option ℤ) (answer : Result Papers Fault)
    → is_crew workers ≡ true → is_guess guess ≡ true → ran ≤ workers → IfOk answer (AnswersInput t)
    → IfOk answer (CrewsInput t ran guess) → IfErr answer (RefusesInput t) → RanksInput t workers guess answer
ranks-input t workers ran guess (Ok papers) crew might few ok crews err = record {
  is = λ i taken. (
    rw (crew, might) refl,
    ok.is i taken,
    record { ran = ran; few = few; crew = crews.is i taken },
  );
}
ranks-input t workers ran guess (Err fault) crew might few ok crews err = record {
  is = λ i taken.
      input_refuses workers guess i.query i.stations (files_of i.files) fault crew might (err.is i taken);
}

-- what one worker returns for texts, or their error
pub ranks-alone : (guess : Option ℤ) (query stations : List ℕ) (files : List (List ℕ)) (answer : Result Papers Fault)
    → IfOk answer (Answers query stations files) → IfOk answer (IsSerial guess query stations files)
    → IfErr answer (λ fault. IsRefusal is_memory fault (read_run 1 guess query stations files))
    → IsRankedAlone guess query stations files answer
ranks-alone guess query stations files (Ok papers) ok serial err = (ok, serial)
ranks-alone guess query stations files (Err fault) ok serial err = err

-- an error of the arguments is an answer to a question's input
pub words-input : (t : Question) (workers : ℕ) (guess : Option ℤ) (fault : Fault)
    → words_fault workers guess ≡ Some fault → RanksInput t workers guess (Err fault)
words-input t workers guess fault is = record {
  is = λ i taken. words_refuse workers guess i.query i.stations (files_of i.files) fault is;
}

-- the ranking of a question that was given all files that are named
pub ranks-files : (bytes_of : Known) (opens : Opening) (r : Ranking) (t : Question) (query list stations : List ℕ)
    (answer : Result Papers Fault) (warnings : Warnings) → query ≡ string_bytes r.query
    → list ≡ string_bytes r.stations → AreAllOf (bytes_of list) stations
    → AsksWhole bytes_of opens query stations r.files.items t → RanksInput t r.workers r.guess answer
    → IfOk answer (λ papers. AreWarningsOf t warnings) → opens list true → RanksFiles bytes_of opens r answer warnings
ranks-files bytes_of opens r t query list stations answer warnings same_query same_list whole asks ranks told first =
    record {
      opened = opened-for is_memory opens (ranking_paths r) answer
          (subst (λ (l : List ℕ). opens l true) same_list first, asks.opened);
      stations = stations;
      whole = subst (λ (l : List ℕ). AreAllOf (bytes_of l) stations) same_list whole;
      files = asks.files;
      all = asks.all;
      ranked = subst (λ (q : List ℕ). IsRanked r.workers r.guess q stations asks.files answer) same_query
          (ranks.is (given query stations asks.files) asks.taken);
      told = IfOk-weaker answer _ _ (λ papers are. are.is (given query stations asks.files) asks.taken) told;
    }

-- what is said for a question, or its error, is said for its texts
judged-is : (part : Bool) (t : Question) (query stations : List ℕ) (files : List (List ℕ)) (report certificate : List ℕ)
    (answer : Result (Judgement × Warnings) Fault) → HasTaken t (given query stations files)
    → IfOk answer (λ judged. JudgesInputAs part t report certificate judged.0)
    → IfOk answer (λ judged. AreWarningsOf t judged.1) → IfErr answer (RefusesInput t)
    → IsJudgement part query stations files report certificate answer
judged-is part t query stations files report certificate (Ok judged) taken ok told err =
    (ok.is (given query stations files) taken, told.is (given query stations files) taken)
judged-is part t query stations files report certificate (Err fault) taken ok told err =
    err.is (given query stations files) taken

-- the judgement of a report and a certificate for a question that was given all files that are named
pub judges-files : (bytes_of : Known) (opens : Opening) (j : Judging) (t : Question)
    (query list stations report certificate : List ℕ) (answer : Result (Judgement × Warnings) Fault)
    → query ≡ string_bytes j.query → list ≡ string_bytes j.stations → AreAllOf (bytes_of list) stations
    → AreBothOf (known_part bytes_of j.papers) (report, certificate)
    → AsksWhole bytes_of opens query stations j.files.items t
    → IfOk answer (λ judged. JudgesInputAs j.part t report certificate judged.0)
    → IfOk answer (λ judged. AreWarningsOf t judged.1) → IfErr answer (RefusesInput t) → opens list true
    → AreOpened opens (part_paths j.papers) → JudgesFiles bytes_of opens j answer
judges-files bytes_of opens j t query list stations report certificate answer same_query same_list whole papers asks ok
    told err first both =
    record {
      opened = opened-for is_memory opens (judging_paths j) answer (
        subst (λ (l : List ℕ). opens l true) same_list first,
        opened-both opens (part_paths j.papers) (map string_bytes j.files.items) both asks.opened,
      );
      stations = stations;
      whole = subst (λ (l : List ℕ). AreAllOf (bytes_of l) stations) same_list whole;
      papers = (report, certificate);
      papers_whole = papers;
      files = asks.files;
      all = asks.all;
      judged = subst (λ (q : List ℕ). IsJudgement j.part q stations asks.files report certificate answer) same_query
          (judged-is j.part t query stations asks.files report certificate answer asks.taken ok told err);
    }

-- what a describer returns, or its error, is that of its files
described-is : (t : Intake RowDescriber) (keep : Keep) (stations : List ℕ) (files : List (List ℕ))
    (answer : Result DescriptionText Fault) → takes.HasTaken HasDescribedByRows t (file_input keep stations files)
    → IfOk answer (DescribesIntake t) → IfErr answer (RefusesTaken HasDescribedByRows t)
    → IsDescriptionOf stations files answer
described-is t keep stations files (Ok text) taken ok err = ok.is (file_input keep stations files) taken
described-is t keep stations files (Err fault) taken ok err = err.is (file_input keep stations files) taken

-- the description by an intake that was given all files that are named
pub describes-files : (bytes_of : Known) (opens : Opening) (d : Describing) (t : Intake RowDescriber) (keep : Keep)
    (list stations : List ℕ) (answer : Result DescriptionText Fault) → list ≡ string_bytes d.stations
    → AreAllOf (bytes_of list) stations → TakesWhole HasDescribedByRows bytes_of opens keep stations d.files.items t
    → IfOk answer (DescribesIntake t) → IfErr answer (RefusesTaken HasDescribedByRows t) → opens list true
    → DescribesFiles bytes_of opens d answer
describes-files bytes_of opens d t keep list stations answer same_list whole takes ok err first =
    record {
      opened = opened-for is_memory opens (describing_paths d) answer
          (subst (λ (l : List ℕ). opens l true) same_list first, takes.opened);
      stations = stations;
      whole = subst (λ (l : List ℕ). AreAllOf (bytes_of l) stations) same_list whole;
      files = takes.files;
      all = takes.all;
      described = described-is t keep stations takes.files answer takes.taken ok err;
    }

-- there are files whose bytes are all of those that are known
pub some_files : (known : List (Option (List ℕ))) → (files : List (List ℕ)) × AreFilesOf known files
some_files [] = ([], tt)
some_files (None ∷ ks) = let rest = some_files ks in ([] ∷ rest.0, (tt, rest.1))
some_files (Some bytes ∷ ks) = let rest = some_files ks in (bytes ∷ rest.0, (refl, rest.1))

-- out of memory may be returned for any files
pub ranks-memory : (bytes_of : Known) (opens : Opening) (r : Ranking) (list stations : List ℕ) (m : WantOfMemory)
    → list ≡ string_bytes r.stations → AreAllOf (bytes_of list) stations
    → (warnings : Warnings) → RanksFiles bytes_of opens r (Err (Memory m)) warnings
ranks-memory bytes_of opens r list stations m same whole warnings =
    let some = some_files (map (bytes_named bytes_of) r.files.items) in record {
      opened = tt;
      stations = stations;
      whole = subst (λ (l : List ℕ). AreAllOf (bytes_of l) stations) same whole;
      files = some.0;
      all = some.1;
      ranked = tt;
      told = tt;
    }

-- and for a report and a certificate
pub judges-memory : (bytes_of : Known) (opens : Opening) (j : Judging) (list stations : List ℕ) (papers : Texts) (m : WantOfMemory)
    → list ≡ string_bytes j.stations → AreAllOf (bytes_of list) stations
    → AreBothOf (known_part bytes_of j.papers) papers → JudgesFiles bytes_of opens j (Err (Memory m))
judges-memory bytes_of opens j list stations papers m same whole both =
    let some = some_files (map (bytes_named bytes_of) j.files.items) in record {
      opened = tt;
      stations = stations;
      whole = subst (λ (l : List ℕ). AreAllOf (bytes_of l) stations) same whole;
      papers = papers;
      papers_whole = both;
      files = some.0;
      all = some.1;
      judged = tt;
    }

-- and for a description
pub describes-memory : (bytes_of : Known) (opens : Opening) (d : Describing) (list stations : List ℕ) (m : WantOfMemory)
    → list ≡ string_bytes d.stations → AreAllOf (bytes_of list) stations
    → DescribesFiles bytes_of opens d (Err (Memory m))
describes-memory bytes_of opens d list stations m same whole =
    let some = some_files (map (bytes_named bytes_of) d.files.items) in record {
      opened = tt;
      stations = stations;
      whole = subst (λ (l : List ℕ). AreAllOf (bytes_of l) stations) same whole;
      files = some.0;
      all = some.1;
      described = tt;
    }

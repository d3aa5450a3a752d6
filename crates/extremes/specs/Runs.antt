-- What a run returns for what it was given, and for the files that are named.
use Rattle.std.specs.Prelude.{◌≡◌, ℕ, ◌≤◌, Bool, true, false, List, ◌∷◌, ◌++◌, map, Option, None, Result, Ok, Err}
use Rattle.std.specs.Prelude.{ℤ, IfOk}
use Rattle.std.specs.Prelude.{String, string_bytes}
use Rattle.ghcn_fields.specs.Refusals.{IsRefusal}
use Rattle.ghcn_series.specs.declared.counts.Warnings.{Warnings}
use Rattle.ghcn_series.specs.LineKinds.{warnings_of}
use Rattle.rank_input.specs.declared.fault.Fault.{Fault}
use Rattle.rank_input.specs.declared.question.Question.{Question}
use Rattle.rank_input.specs.Input.{read_input, read_run, words_fault, is_memory}
use Rattle.rank_input.specs.Taken.{IsTrueOf}
use Rattle.rank_input.specs.Feeding.{AreAllOf, AreFilesOf, AreOpenedFor, Opening}
use Rattle.rank_check.specs.declared.verdict.Verdict.{Verdict}
use Rattle.extremes.specs.declared.papers.Papers.{Papers}
use Rattle.extremes.specs.Meaning.Answer.{Answers}
use Rattle.extremes.specs.Answer.{IsFaultless, IsCrewed, IsSerial}
use Rattle.rank_parts.specs.declared.verdict.PartVerdict.{PartVerdict}
use Rattle.extremes.specs.declared.judgement.Judgement.{Judgement}
use Rattle.extremes.specs.declared.judgement.Judgement.TheVariants.{Whole, Part}
use Rattle.rank_merge.specs.Merging.{Texts}
use Rattle.extremes.specs.declared.files.Ranking.{Ranking}
use Rattle.extremes.specs.declared.files.Judging.{Judging}
use Rattle.extremes.specs.Merges.{Known, known_part, part_paths, AreBothOf}
use Rattle.extremes.specs.Judged.{IsJudged, IsJudgedByPart}

-- the bytes of the file that is named, by those of files by their paths, if they are known
abbrev pub bytes_named : {A : Type 0} → Known → String A → Option (List ℕ)
bytes_named bytes_of path = bytes_of (string_bytes path)

-- a report and a certificate answer a question's input
abbrev pub AnswersInput : Question → Papers → Type 0
AnswersInput t papers = IsTrueOf t (λ query stations files. Answers query stations files papers)

-- a question's input has no error
abbrev pub FaultlessInput : Question → Type 0
FaultlessInput t = IsTrueOf t IsFaultless

-- the report and the certificate are those of a crew of that many workers for a question's input, under a guess or none
abbrev pub CrewsInput : Question → ℕ → Option ℤ → Papers → Type 0
CrewsInput t workers guess papers =
    IsTrueOf t (λ query stations files. IsCrewed workers guess query stations files papers)

-- a verdict is that on this report and this certificate for a question's input
abbrev pub JudgesInput : Question → List ℕ → List ℕ → Verdict → Type 0
JudgesInput t report certificate v =
    IsTrueOf t (λ query stations files. IsJudged query stations files report certificate v)

-- a part's verdict is that on this report and this certificate for a question's input
abbrev pub JudgesPart : Question → List ℕ → List ℕ → PartVerdict → Type 0
JudgesPart t report certificate v =
    IsTrueOf t (λ query stations files. IsJudgedByPart query stations files report certificate v)

-- the report and the certificate are those of a crew of at most that many workers
pub record IsCrewedBySome (workers : ℕ) (guess : Option ℤ) (query stations : List ℕ) (files : List (List ℕ))
    (papers : Papers) : Type 0 where
  pub ran : ℕ
  pub few : ran ≤ workers
  pub crew : IsCrewed ran guess query stations files papers

-- a report and a certificate that answer these texts, of at most that many workers within the limits of a run, or the
-- first error
abbrev pub IsRanked : ℕ → Option ℤ → List ℕ → List ℕ → List (List ℕ) → Result Papers Fault → Type 0
IsRanked workers guess query stations files (Ok papers) = (words_fault workers guess ≡ None)
    × Answers query stations files papers × IsCrewedBySome workers guess query stations files papers
IsRanked workers guess query stations files (Err fault) =
    IsRefusal is_memory fault (read_run workers guess query stations files)

-- a report and a certificate of one worker that answer these texts, or their first error
abbrev pub IsRankedAlone : Option ℤ → List ℕ → List ℕ → List (List ℕ) → Result Papers Fault → Type 0
IsRankedAlone guess query stations files (Ok papers) =
    Answers query stations files papers × IsSerial guess query stations files papers
IsRankedAlone guess query stations files (Err fault) =
    IsRefusal is_memory fault (read_run 1 guess query stations files)

-- a report and a certificate of at most that many workers that answer a question's input, or its first error
abbrev pub RanksInput : Question → ℕ → Option ℤ → Result Papers Fault → Type 0
RanksInput t workers guess answer =
    IsTrueOf t (λ query stations files. IsRanked workers guess query stations files answer)

-- the paths of what is ranked, in the order in which it is read
abbrev pub ranking_paths : Ranking → List (List ℕ)
ranking_paths r = string_bytes r.stations ∷ map string_bytes r.files.items

-- the ranking of all bytes of the station list and of each daily file that are named, in order, and which of these
-- files are foreign
pub record RanksFiles (bytes_of : Known) (opens : Opening) (r : Ranking) (answer : Result Papers Fault)
    (warnings : Warnings) : Type 0 where
  pub opened : AreOpenedFor is_memory opens (ranking_paths r) answer
  pub stations : List ℕ
  pub whole : AreAllOf (bytes_named bytes_of r.stations) stations
  pub files : List (List ℕ)
  pub all : AreFilesOf (map (bytes_named bytes_of) r.files.items) files
  pub ranked : IsRanked r.workers r.guess (string_bytes r.query) stations files answer
  pub told : IfOk answer (λ papers. warnings ≡ warnings_of files)

-- a judgement for these texts is a part's verdict if they are a part of the files that the report and the certificate
-- cover, and a verdict if they aren't
abbrev pub IsJudgedAs : Bool → List ℕ → List ℕ → List (List ℕ) → List ℕ → List ℕ → Judgement → Type 0
IsJudgedAs false query stations files report certificate (Whole v) =
    IsJudged query stations files report certificate v
IsJudgedAs false query stations files report certificate (Part v) = ⊥
IsJudgedAs true query stations files report certificate (Whole v) = ⊥
IsJudgedAs true query stations files report certificate (Part v) =
    IsJudgedByPart query stations files report certificate v

-- the same for a question's input
abbrev pub JudgesInputAs : Bool → Question → List ℕ → List ℕ → Judgement → Type 0
JudgesInputAs part t report certificate j =
    IsTrueOf t (λ query stations files. IsJudgedAs part query stations files report certificate j)

-- the judgement of a report and a certificate for these texts, and the foreign files and the odd lines; or the first
-- error of these
abbrev pub IsJudgement : Bool → List ℕ → List ℕ → List (List ℕ) → List ℕ → List ℕ
    → Result (Judgement × Warnings) Fault → Type 0
IsJudgement part query stations files report certificate (Ok judged) =
    IsJudgedAs part query stations files report certificate judged.0 × (judged.1 ≡ warnings_of files)
IsJudgement part query stations files report certificate (Err fault) =
    IsRefusal is_memory fault (read_input query stations files)

-- the paths of what is read for a check, in order
abbrev pub judging_paths : Judging → List (List ℕ)
judging_paths j = string_bytes j.stations ∷ part_paths j.papers ++ map string_bytes j.files.items

-- the judgement of all bytes of a report and a certificate for those of the station list and of each daily file, as
-- they are named, in order
pub record JudgesFiles (bytes_of : Known) (opens : Opening) (j : Judging) (answer : Result (Judgement × Warnings) Fault)
    : Type 0 where
  pub opened : AreOpenedFor is_memory opens (judging_paths j) answer
  pub stations : List ℕ
  pub whole : AreAllOf (bytes_named bytes_of j.stations) stations
  pub papers : Texts
  pub papers_whole : AreBothOf (known_part bytes_of j.papers) papers
  pub files : List (List ℕ)
  pub all : AreFilesOf (map (bytes_named bytes_of) j.files.items) files
  pub judged : IsJudgement j.part (string_bytes j.query) stations files papers.0 papers.1 answer

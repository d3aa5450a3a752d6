-- What the verdicts of all parts of an archive guarantee, as a statement for the contract of a public function.
use Rattle.std.specs.Prelude.{◌≡◌, ◌↔◌, ℕ, ◌<◌, List, length, map}
use Rattle.std.specs.List.{sum, flat_map, AllByRecursion, AllZip, IsDistinct}
use Rattle.ghcn_files.specs.Meaning.Ids.{same_id}
use Rattle.ghcn_series.specs.SaidLists.{said_by, stations_said}
use Rattle.ghcn_series.specs.Series.{Data}
use Rattle.rank_query.specs.Meaning.Asked.{Query}
use Rattle.rank_query.specs.Meaning.Asks.{Asks}
use Rattle.rank_scores.specs.Cut.{morsel_ids}
use Rattle.rank_parts.specs.declared.verdict.PartVerdict.{PartVerdict}
use Rattle.rank_parts.specs.declared.verdict.PartVerdict.TheVariants.{Accepted}
use Rattle.rank_input.specs.Input.{IsReadOf}
use Rattle.extremes.specs.Judged.{AreRightTexts, IsJudgedByPart}

-- a part: a text of the query, its files, and its verdict on a report and a certificate
pub record JudgedPart : Type 0 where
  pub query : List ℕ
  pub files : List (List ℕ)
  pub verdict : PartVerdict

-- a part's text denotes this query, in its own spelling, and its verdict is that on this report and this certificate
pub record IsJudgedFor (asked : Query) (stations report certificate : List ℕ) (p : JudgedPart) : Type 0 where
  pub asks : Asks p.query asked
  pub judged : IsJudgedByPart p.query stations p.files report certificate p.verdict

-- the files of all parts, one part after the other
abbrev pub files_of_parts : List JudgedPart → List (List ℕ)
files_of_parts parts = flat_map (λ p. p.files) parts

-- what the files of each part say
abbrev pub said_by_parts : List ℕ → List JudgedPart → List Data
said_by_parts stations parts = map (λ p. said_by (stations_said stations) p.files) parts

-- no station has an admitted day in two parts
abbrev pub ArePartsApart : Query → List ℕ → List JudgedPart → Type 0
ArePartsApart asked stations parts = IsDistinct same_id (morsel_ids asked (said_by_parts stations parts))

-- a part accepts: it has that many series, of that many lines
abbrev pub FilesAccept : ℕ → JudgedPart → ℕ → Type 0
FilesAccept lines p series = p.verdict ≡ Accepted series lines

-- each part accepts, and the numbers of their series add up to that of the lines
pub record AllFilesAccept (parts : List JudgedPart) : Type 0 where
  pub lines : ℕ
  pub series : List ℕ
  pub accepted : AllZip (FilesAccept lines) parts series
  pub sum : sum series ≡ lines

-- a report is the right one and a certificate a right one for the files of all parts, one part after the other, if and
-- only if all parts accept them: there is a part, all files together have no error, and the parts are apart
abbrev pub PartsJudgeTheWhole : Type 0
PartsJudgeTheWhole = (query stations report certificate : List ℕ) (parts : List JudgedPart) (asked : Query)
    (dataset : Data) → IsReadOf query stations (files_of_parts parts) asked dataset → 0 < length parts
    → AllByRecursion (IsJudgedFor asked stations report certificate) parts → ArePartsApart asked stations parts
    → AllFilesAccept parts
    ↔ AreRightTexts asked (stations_said stations) (files_of_parts parts) report certificate

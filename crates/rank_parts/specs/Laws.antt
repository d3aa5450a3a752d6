-- What the verdicts of all parts guarantee.
use Rattle.std.specs.Prelude.{◌≡◌, ◌↔◌, ℕ, ◌<◌, List, length, Ok}
use Rattle.std.specs.List.{sum, flat_map, AllZip, IsDistinct}
use Rattle.ghcn_files.specs.declared.station.Station.{Station}
use Rattle.ghcn_files.specs.Meaning.Ids.{same_id}
use Rattle.ghcn_files.specs.Listed.{listed}
use Rattle.ghcn_series.specs.Series.{Data}
use Rattle.ghcn_series.specs.Held.{IsContents}
use Rattle.ghcn_series.specs.Says.{data_of}
use Rattle.rank_query.specs.Meaning.Asked.{Query, IsAsked}
use Rattle.rank_scores.specs.Cut.{IsCut, morsel_ids}
use Rattle.rank_scores.specs.OneElement.{data_for}
use Rattle.rank_papers.specs.Report.{IsFoundReport}
use Rattle.rank_papers.specs.Certificate.{IsFoundCertificate}
use Rattle.rank_parts.specs.declared.verdict.PartVerdict.TheVariants.{Accepted}
use Rattle.rank_parts.specs.Parts.{part_verdict}

-- ---- parts of data

-- a part accepts the report and the certificate: it has this many series, and the certificate has this many lines
abbrev pub Accepts : Query → List ℕ → List ℕ → ℕ → Data → ℕ → Type 0
Accepts q report certificate lines d series = part_verdict q d report certificate ≡ Accepted series lines

-- each part accepts the two, and the numbers of the parts' series add up to the number of the lines
pub record AllAccept (q : Query) (report certificate : List ℕ) (ds : List Data) : Type 0 where
  pub lines : ℕ
  pub series : List ℕ
  pub accepted : AllZip (Accepts q report certificate lines) ds series
  pub sum : sum series ≡ lines

-- the two are right for data that are cut into parts, at least one, if and only if all parts accept them
abbrev pub PartsMakeTheWhole : Type 0
PartsMakeTheWhole = (q : Query) (c : Data) (ds : List Data) (report certificate : List ℕ) → IsAsked q
    → IsContents c → IsCut q c ds → 0 < length ds
    → AllAccept q report certificate ds ↔ (IsFoundReport q c report × IsFoundCertificate q c certificate)

-- ---- parts of files

-- these are the data of some files
abbrev pub AreDataOf : List Station → List (List ℕ) → Data → Type 0
AreDataOf stations files d = data_of stations files ≡ Ok d

-- the data of each part's files, and of all files one part after the other: no station has an admitted day in two parts
pub record ArePartsOfData (q : Query) (stations : List Station) (parts : List (List (List ℕ))) (ds : List Data)
    (c : Data) : Type 0 where
  pub each : AllZip (AreDataOf stations) parts ds
  pub all : AreDataOf stations (flat_map (λ files. files) parts) c
  pub apart : IsDistinct same_id (morsel_ids q ds)

-- if the station list has no error, the two are right for it and all files if and only if each part of the files
-- accepts them
abbrev pub FilesMakeTheWhole : Type 0
FilesMakeTheWhole = (q : Query) (list : List ℕ) (stations : List Station) (parts : List (List (List ℕ)))
    (ds : List Data) (c : Data) (report certificate : List ℕ) → IsAsked q → listed list ≡ Ok stations
    → ArePartsOfData q stations parts ds c → 0 < length ds
    → AllAccept q report certificate ds ↔ (IsFoundReport q c report × IsFoundCertificate q c certificate)

-- ---- one element

-- what a part says is the same from what a query needs of its data as from all of them
abbrev pub PartVerdictStays : Type 0
PartVerdictStays = (q : Query) (c : Data) (report certificate : List ℕ) →
    part_verdict q (data_for q c) report certificate ≡ part_verdict q c report certificate

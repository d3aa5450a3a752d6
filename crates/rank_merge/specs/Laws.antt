-- What is true of merged reports and certificates, as statements for the contract of a public function.
use Rattle.std.specs.Prelude.{◌≡◌, ℕ, List, Result, Ok, Err, map}
use Rattle.std.specs.List.{flat_map, AllByRecursion, AllZip, IsDistinct}
use Rattle.ghcn_files.specs.declared.station.Station.{Station}
use Rattle.ghcn_files.specs.declared.station.StationId.{StationId}
use Rattle.ghcn_files.specs.Meaning.Ids.{same_id}
use Rattle.ghcn_files.specs.Listed.{listed}
use Rattle.ghcn_series.specs.Series.{Data}
use Rattle.ghcn_series.specs.Says.{data_of}
use Rattle.rank_query.specs.Meaning.Asked.{Query, IsAsked}
use Rattle.rank_scores.specs.Cut.{Filed, IsDataOf, morsel_ids, series_ids}
use Rattle.rank_papers.specs.Report.{IsFoundReport}
use Rattle.rank_papers.specs.Certificate.{IsFoundCertificate}
use Rattle.rank_papers.specs.PlanPapers.{IsMeasuredCertificate}
use Rattle.rank_merge.specs.declared.fault.MergeFault.{MergeFault}
use Rattle.rank_merge.specs.declared.fault.MergeFault.TheVariants.{Twice}
use Rattle.rank_merge.specs.Merging.{Texts, merge}

-- ---- files

-- the files of all parts, one part after the other
abbrev pub all_files : List Filed → List (List ℕ)
all_files parts = flat_map (λ p. p.0) parts

-- the texts of all parts
abbrev pub all_texts : List Filed → List Texts
all_texts parts = map (λ p. p.1) parts

-- ---- merged reports and certificates are right

-- the texts are a right report and a right certificate of the data of some files, if these have no error
pub record ArePapersOf (q : Query) (stations : List Station) (files : List (List ℕ)) (texts : Texts) : Type 0 where
  pub dataset : Data
  pub read : data_of stations files ≡ Ok dataset
  pub report : IsFoundReport q dataset texts.0
  pub certificate : IsFoundCertificate q dataset texts.1

-- the report and the certificate of each part are right for its files
abbrev pub AreAllParts : Query → List Station → List Filed → Type 0
AreAllParts q stations parts = AllByRecursion (λ p. ArePapersOf q stations p.0 p.1) parts

-- the text is the right report, and there is no other
abbrev pub IsOneReport : Query → Data → List ℕ → Type 0
IsOneReport q c text = IsFoundReport q c text × ((other : List ℕ) → IsFoundReport q c other → other ≡ text)

-- a report and a certificate, merged from the texts of parts, are right for all files if those of each part are right
-- for its files, with one station list, and neither this list nor all files together have an error
abbrev pub AreRightForAll : Query → List Texts → Texts → Type 0
AreRightForAll q texts papers = (list : List ℕ) (stations : List Station) (parts : List Filed) (dataset : Data)
    → listed list ≡ Ok stations → all_texts parts ≡ texts → AreAllParts q stations parts
    → data_of stations (all_files parts) ≡ Ok dataset
    → IsOneReport q dataset papers.0 × IsFoundCertificate q dataset papers.1

-- a merged report and a merged certificate are right for all files
abbrev pub MergedAreRight : Type 0
MergedAreRight = (q : Query) (texts : List Texts) (papers : Texts) → IsAsked q → merge q texts ≡ Ok papers
    → AreRightForAll q texts papers

-- ---- bounds

-- these are the data of a part's files, and each bound of its certificate is that of its series
abbrev pub IsMeasuredPart : Query → List Station → Filed → Data → Type 0
IsMeasuredPart q stations p d = IsDataOf stations p d × IsMeasuredCertificate q d p.1.1

-- each bound of the certificate of all is that of its series, if the parts' bounds are, and no station that the query
-- admits has a series of the query's element in two parts
abbrev pub AreMeasuredForAll : Query → List Texts → Texts → Type 0
AreMeasuredForAll q texts papers =
    (list : List ℕ) (stations : List Station) (parts : List Filed) (ds : List Data) (dataset : Data)
    → listed list ≡ Ok stations → all_texts parts ≡ texts → AreAllParts q stations parts
    → AllZip (IsMeasuredPart q stations) parts ds → data_of stations (all_files parts) ≡ Ok dataset
    → IsDistinct same_id (series_ids q ds)
    → IsMeasuredCertificate q dataset papers.1

-- merged certificates keep the bounds of the series
abbrev pub MergedAreMeasured : Type 0
MergedAreMeasured = (q : Query) (texts : List Texts) (papers : Texts) → IsAsked q → merge q texts ≡ Ok papers
    → AreMeasuredForAll q texts papers

-- ---- when right reports and certificates are refused

-- the reports and certificates of parts with these data are merged only if no station has morsels in two parts, and
-- refused only if a station has, by an ID that two lines have
abbrev pub IsRightOutcome : Query → List Data → Result Texts MergeFault → Type 0
IsRightOutcome q ds (Ok papers) = IsDistinct same_id (morsel_ids q ds)
IsRightOutcome q ds (Err why) =
    ((id : StationId) × (why ≡ Twice id)) × (IsDistinct same_id (morsel_ids q ds) → ⊥)

-- the same is true of an outcome, if the report and the certificate of each part are right for its files
abbrev pub IsOutcomeWhereRight : Query → List Texts → Result Texts MergeFault → Type 0
IsOutcomeWhereRight q texts outcome =
    (list : List ℕ) (stations : List Station) (parts : List Filed) (ds : List Data)
    → listed list ≡ Ok stations → all_texts parts ≡ texts → AreAllParts q stations parts
    → AllZip (IsDataOf stations) parts ds → IsRightOutcome q ds outcome

-- right reports and certificates are merged if and only if no station has morsels in two parts
abbrev pub RightAreMerged : Type 0
RightAreMerged = (q : Query) (list : List ℕ) (stations : List Station) (parts : List Filed) (ds : List Data)
    → IsAsked q → listed list ≡ Ok stations → AreAllParts q stations parts → AllZip (IsDataOf stations) parts ds
    → IsRightOutcome q ds (merge q (all_texts parts))

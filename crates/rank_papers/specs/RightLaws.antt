-- That a report and a certificate are right by what candidates are if they are by how these are found, and for what
-- files say if they are for the data of the files, as statements for the contracts of public functions.
use Rattle.std.specs.Prelude.{◌≡◌, ◌↔◌, ℕ, List, Ok}
use Rattle.std.specs.List.{Contains}
use Rattle.ghcn_files.specs.declared.station.Station.{Station}
use Rattle.ghcn_series.specs.Meaning.Series.{Series}
use Rattle.ghcn_series.specs.Series.{Data}
use Rattle.ghcn_series.specs.Says.{data_of}
use Rattle.ghcn_series.specs.Held.{IsContents}
use Rattle.rank_query.specs.Meaning.Asked.{Query, IsAsked}
use Rattle.rank_scores.specs.declared.candidate.Candidate.{Candidate}
use Rattle.rank_scores.specs.Morsels.{admitted_series, best_of_query}
use Rattle.rank_scores.specs.OneElement.{data_for}
use Rattle.rank_papers.specs.Report.{IsFoundReport}
use Rattle.rank_papers.specs.Certificate.{IsFoundCertificate}
use Rattle.rank_papers.specs.Meaning.Right.{IsAdmittedSeries, AreBest}
use Rattle.rank_papers.specs.Right.{IsRightReport, IsRightCertificate}

-- s is one of the series of a query that data hold
abbrev pub IsHeldSeries : Query → Data → Series → Type 0
IsHeldSeries q c s = Contains (admitted_series q c) s

-- the right report of a query and data
abbrev pub IsRightReportFor : Query → Data → List ℕ → Type 0
IsRightReportFor q c bytes = IsRightReport q c.stations (IsHeldSeries q c) bytes

-- a right certificate of a query and data
abbrev pub IsRightCertificateFor : ℕ → Query → Data → List ℕ → Type 0
IsRightCertificateFor version q c bytes = IsRightCertificate version q (IsHeldSeries q c) bytes

-- candidates are the best of a query if and only if they are what is found by rank
abbrev pub BestAreFound : Type 0
BestAreFound = (q : Query) (c : Data) (best : List Candidate) → IsAsked q → IsContents c
    → (best ≡ best_of_query q c) ↔ AreBest q (IsHeldSeries q c) best

-- there is one list of the best in these series
abbrev pub HaveOneBest : Query → (Series → Type 0) → Type 0
HaveOneBest q IsOne = (a b : List Candidate) → AreBest q IsOne a → AreBest q IsOne b → a ≡ b

-- there is one list of the best in any data, and in what any files say
abbrev pub BestAreOne : Type 0
BestAreOne = (q : Query) → ((c : Data) → HaveOneBest q (IsHeldSeries q c))
    × ((stations : List Station) (files : List (List ℕ)) → HaveOneBest q (IsAdmittedSeries q stations files))

-- a report is the right one if and only if it has what is found by rank
abbrev pub ReportsAreFound : Type 0
ReportsAreFound = (q : Query) (c : Data) (bytes : List ℕ) → IsAsked q → IsContents c
    → IsFoundReport q c bytes ↔ IsRightReportFor q c bytes

-- a certificate of a version is a right one if and only if it is one by what is found
abbrev pub CertificatesAreFound : Type 0
CertificatesAreFound = (version : ℕ) (q : Query) (c : Data) (bytes : List ℕ) → IsAsked q → IsContents c
    → ((h : IsFoundCertificate q c bytes) × (h.version ≡ version)) ↔ IsRightCertificateFor version q c bytes

-- the right report of the data of files is that of what the files say
abbrev pub ReportsAreSaid : Type 0
ReportsAreSaid = (q : Query) (stations : List Station) (files : List (List ℕ)) (c : Data) (bytes : List ℕ)
    → data_of stations files ≡ Ok c
    → IsRightReportFor q c bytes ↔ IsRightReport q stations (IsAdmittedSeries q stations files) bytes

-- right certificates for the data of files are right for what the files say, and the other way round
abbrev pub CertificatesAreSaid : Type 0
CertificatesAreSaid = (version : ℕ) (q : Query) (stations : List Station) (files : List (List ℕ)) (c : Data)
    (bytes : List ℕ) → data_of stations files ≡ Ok c
    → IsRightCertificateFor version q c bytes ↔ IsRightCertificate version q (IsAdmittedSeries q stations files) bytes

-- the right report of what a query needs of any data is that of all of them
abbrev pub RightReportStays : Type 0
RightReportStays = (q : Query) (c : Data) (bytes : List ℕ)
    → IsRightReportFor q (data_for q c) bytes ↔ IsRightReportFor q c bytes

-- right certificates for what a query needs of any data are right for all of them, and the other way round
abbrev pub RightCertificateStays : Type 0
RightCertificateStays = (version : ℕ) (q : Query) (c : Data) (bytes : List ℕ)
    → IsRightCertificateFor version q (data_for q c) bytes ↔ IsRightCertificateFor version q c bytes

-- Right reports and right certificates, each by itself.
use Rattle.std.specs.Prelude.{ℕ, List}
use Rattle.ghcn_files.specs.declared.station.Station.{Station}
use Rattle.ghcn_series.specs.Meaning.Series.{Series}
use Rattle.rank_query.specs.Meaning.Asked.{Query}
use Rattle.rank_scores.specs.declared.candidate.Candidate.{Candidate}
use Rattle.rank_papers.specs.Meaning.Report.{IsReportOfBest}
use Rattle.rank_papers.specs.Meaning.Right.{AreBest, IsCertificateOfBest}

-- the right report of a query: that of its best candidates in the series of which `IsOne` is true
abbrev pub IsRightReport : Query → List Station → (Series → Type 0) → List ℕ → Type 0
IsRightReport q stations IsOne bytes =
    (best : List Candidate) × AreBest q IsOne best × IsReportOfBest q stations best bytes

-- a right certificate of a version: one for its best candidates
abbrev pub IsRightCertificate : ℕ → Query → (Series → Type 0) → List ℕ → Type 0
IsRightCertificate version q IsOne bytes =
    (best : List Candidate) × AreBest q IsOne best × IsCertificateOfBest version q IsOne best bytes

-- The report and the certificate of what a query needs of data are those of all these data, as statements for the
-- contract of a public function.
use Rattle.std.specs.Prelude.{◌↔◌, ℕ, List}
use Rattle.ghcn_series.specs.Series.{Data}
use Rattle.rank_query.specs.Meaning.Asked.{Query}
use Rattle.rank_scores.specs.OneElement.{data_for}
use Rattle.rank_papers.specs.Report.{IsFoundReport}
use Rattle.rank_papers.specs.Certificate.{IsFoundCertificate}
use Rattle.rank_papers.specs.PlanPapers.{IsMeasuredCertificate}

-- the right report of what a query needs of any data is that of all of them
abbrev pub ReportStays : Type 0
ReportStays = (q : Query) (c : Data) (bytes : List ℕ) → IsFoundReport q (data_for q c) bytes ↔ IsFoundReport q c bytes

-- a right certificate of the one is a right certificate of the other
abbrev pub CertificateStays : Type 0
CertificateStays = (q : Query) (c : Data) (bytes : List ℕ) →
    IsFoundCertificate q (data_for q c) bytes ↔ IsFoundCertificate q c bytes

-- the same is true of right certificates whose bounds are those of the series
abbrev pub MeasuredStays : Type 0
MeasuredStays = (q : Query) (c : Data) (bytes : List ℕ) →
    IsMeasuredCertificate q (data_for q c) bytes ↔ IsMeasuredCertificate q c bytes

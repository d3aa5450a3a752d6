-- What is true of the texts of reports and certificates, as statements for the contract of a public function.
use Rattle.std.specs.Prelude.{◌≡◌, ◌↔◌, ℕ, List, Ok, Err}
use Rattle.ghcn_series.specs.Series.{Data}
use Rattle.ghcn_series.specs.Held.{IsContents}
use Rattle.rank_query.specs.Meaning.Asked.{Query, IsAsked}
use Rattle.rank_papers.specs.Report.{IsFoundReport}
use Rattle.rank_papers.specs.ReportLines.{Reported, IsReportOf, read_report, SaysRightReport}
use Rattle.rank_papers.specs.Certificate.{Certified, IsCertificateOf, IsFoundCertificate, SaysRightCertificate}
use Rattle.rank_papers.specs.CertificateLines.{read_certificate}
use Rattle.rank_papers.specs.Places.{IsReportText, IsCertificateText, IsFirstBadLine}

-- a text is read as a value if and only if it is the text of a certificate that says this
abbrev pub CertificatesAreRead : Type 0
CertificatesAreRead = (bytes : List ℕ) (v : Certified) → (read_certificate bytes ≡ Ok v) ↔ IsCertificateOf v bytes

-- a text is refused at a line if and only if that is its first bad line
abbrev pub CertificatesGoWrong : Type 0
CertificatesGoWrong = (bytes : List ℕ) (n : ℕ) →
    (read_certificate bytes ≡ Err n) ↔ IsFirstBadLine IsCertificateText bytes n

-- a certificate is right for a query and data if and only if it has the form and says what is right
abbrev pub RightCertificatesSayRight : Type 0
RightCertificatesSayRight = (q : Query) (c : Data) (bytes : List ℕ) → IsAsked q → IsContents c →
    IsFoundCertificate q c bytes ↔ ((v : Certified) × IsCertificateOf v bytes × SaysRightCertificate q c v)

-- a text is read as a value if and only if it is the text of a report that says this
abbrev pub ReportsAreRead : Type 0
ReportsAreRead = (bytes : List ℕ) (v : Reported) → (read_report bytes ≡ Ok v) ↔ IsReportOf v bytes

-- a text is refused at a line if and only if that is its first bad line
abbrev pub ReportsGoWrong : Type 0
ReportsGoWrong = (bytes : List ℕ) (n : ℕ) → (read_report bytes ≡ Err n) ↔ IsFirstBadLine IsReportText bytes n

-- a report is right for a query and data if and only if it has the form and says what is right
abbrev pub RightReportsSayRight : Type 0
RightReportsSayRight = (q : Query) (c : Data) (bytes : List ℕ) → IsAsked q → IsContents c →
    IsFoundReport q c bytes ↔ ((v : Reported) × IsReportOf v bytes × SaysRightReport q c v)

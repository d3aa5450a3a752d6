-- What a verdict guarantees.
use Rattle.std.specs.Prelude.{◌≡◌, ◌↔◌, ℕ, List}
use Rattle.ghcn_series.specs.Series.{Data}
use Rattle.ghcn_series.specs.Held.{IsContents}
use Rattle.rank_query.specs.Meaning.Asked.{Query, IsAsked}
use Rattle.rank_scores.specs.OneElement.{data_for}
use Rattle.rank_papers.specs.Report.{IsFoundReport}
use Rattle.rank_papers.specs.Certificate.{IsFoundCertificate}
use Rattle.rank_check.specs.declared.verdict.Verdict.TheVariants.{Accepted}
use Rattle.rank_check.specs.Tests.{verdict}

-- a report and a certificate are accepted if and only if the report is the right one and the certificate a right one
abbrev pub AcceptedWhereRight : Type 0
AcceptedWhereRight = (q : Query) (c : Data) (report certificate : List ℕ) → IsAsked q → IsContents c →
    (verdict q c report certificate ≡ Accepted) ↔ (IsFoundReport q c report × IsFoundCertificate q c certificate)

-- the verdict on a report and a certificate is the same from what a query needs of the data as from all of them
abbrev pub VerdictStays : Type 0
VerdictStays = (q : Query) (c : Data) (report certificate : List ℕ) →
    verdict q (data_for q c) report certificate ≡ verdict q c report certificate

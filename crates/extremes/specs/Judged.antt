-- What is returned for a report and a certificate on an input without an error.
use Rattle.std.specs.Prelude.{◌≡◌, ◌↔◌, ℕ, List}
use Rattle.ghcn_files.specs.declared.station.Station.{Station}
use Rattle.ghcn_series.specs.SaidLists.{stations_said}
use Rattle.ghcn_series.specs.Series.{Data}
use Rattle.rank_query.specs.Meaning.Asked.{Query}
use Rattle.rank_papers.specs.Meaning.Right.{IsAdmittedSeries}
use Rattle.rank_papers.specs.Right.{IsRightReport, IsRightCertificate}
use Rattle.rank_check.specs.declared.verdict.Verdict.{Verdict}
use Rattle.rank_check.specs.declared.verdict.Verdict.TheVariants.{Accepted}
use Rattle.rank_check.specs.Tests.{verdict}
use Rattle.rank_parts.specs.declared.verdict.PartVerdict.{PartVerdict}
use Rattle.rank_parts.specs.Parts.{part_verdict}
use Rattle.extremes.specs.declared.papers.Papers.{Papers}
use Rattle.rank_input.specs.Input.{IsReadOf}
use Rattle.extremes.specs.Meaning.Answer.{Answers}

-- a report is the right one, and a certificate a right one of some version, for a query, a station list and what daily
-- files say
abbrev pub AreRightTexts : Query → List Station → List (List ℕ) → List ℕ → List ℕ → Type 0
AreRightTexts q stations files report certificate =
    IsRightReport q stations (IsAdmittedSeries q stations files) report
    × (version : ℕ) × IsRightCertificate version q (IsAdmittedSeries q stations files) certificate

-- the verdict is that on the report and the certificate for what the input asks and holds: accepted if and only if the
-- report is the right one and the certificate a right one
pub record IsJudged (query stations : List ℕ) (files : List (List ℕ)) (report certificate : List ℕ)
    (v : Verdict) : Type 0 where
  pub asked : Query
  pub dataset : Data
  pub read : IsReadOf query stations files asked dataset
  pub verdict : v ≡ verdict asked dataset report certificate
  pub accepted : (v ≡ Accepted) ↔ AreRightTexts asked (stations_said stations) files report certificate

-- the verdict is that of a part on the report and the certificate, for what the input asks and holds
pub record IsJudgedByPart (query stations : List ℕ) (files : List (List ℕ)) (report certificate : List ℕ)
    (v : PartVerdict) : Type 0 where
  pub asked : Query
  pub dataset : Data
  pub read : IsReadOf query stations files asked dataset
  pub verdict : v ≡ part_verdict asked dataset report certificate

-- a report and a certificate that answer an input are accepted on that input
abbrev pub AnswersAreAccepted : Type 0
AnswersAreAccepted = (query stations : List ℕ) (files : List (List ℕ)) (papers : Papers)
    (v : Verdict)
    → Answers query stations files papers
    → IsJudged query stations files papers.report.items papers.certificate.items v → v ≡ Accepted

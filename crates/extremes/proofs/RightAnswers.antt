-- What is right for the stations that are read of a list answers an input, and what answers an input is right for them.
use Rattle.std.proofs.Common.{◌≡◌, ℕ, List, sym, ◌∙◌, subst}
use Rattle.std.specs.Prelude.{Ok}
use Rattle.ghcn_files.specs.declared.station.Station.{Station}
use Rattle.ghcn_files.specs.Listed.{listed}
use Rattle.ghcn_series.specs.SaidLists.{stations_said, unlisted_said}
use Rattle.ghcn_series.proofs.SaidLines.{listed-said}
use Rattle.ghcn_series.proofs.SaidStations.{stations-said}
use Rattle.ghcn_series.proofs.UnlistedLines.{unlisted-said}
use Rattle.rank_query.specs.Meaning.Asked.{Query}
use Rattle.rank_query.specs.Meaning.Asks.{Asks}
use Rattle.rank_scores.specs.declared.candidate.Candidate.{Candidate}
use Rattle.rank_papers.specs.Meaning.Right.{IsAdmittedSeries, IsCertificateOfBest}
use Rattle.rank_papers.specs.Right.{IsRightReport, IsRightCertificate}
use Rattle.rank_papers.proofs.BestOfQuery.{best_are_one}
use Rattle.extremes.specs.declared.papers.Papers.{Papers}
use Rattle.extremes.specs.Meaning.Answer.{Answers}

-- a report and a certificate are right for a query, some stations and what daily files say, each by itself, and the lines
-- of other stations are counted
pub record AreRight (q : Query) (stations : List Station) (files : List (List ℕ)) (papers : Papers) : Type 0 where
  pub report : IsRightReport q stations (IsAdmittedSeries q stations files) papers.report.items
  pub certificate : IsRightCertificate 2 q (IsAdmittedSeries q stations files) papers.certificate.items
  pub unlisted : papers.unlisted ≡ unlisted_said stations files

module _ (query stations : List ℕ) (files : List (List ℕ)) (list : List Station) (papers : Papers)
    (lists : listed stations ≡ Ok list) where
  -- if they are right for the stations of a list without an error, they answer the input
  pub right_answers : (q : Query) → Asks query q → AreRight q (stations_said stations) files papers
      → Answers query stations files papers
  right_answers q asks right =
      let said : List Station = stations_said stations in
      let one : right.certificate.0 ≡ right.report.0 = best_are_one q (IsAdmittedSeries q said files)
      right.certificate.0 right.report.0 right.certificate.1 right.report.1 in
      record {
        asked = q;
        asks = asks;
        list = said;
        lists = (stations-said stations list lists said).1 (sym (listed-said stations list lists));
        best = right.report.0;
        are = right.report.1;
        report = right.report.2;
        certificate = subst (λ (best : List Candidate).
            IsCertificateOfBest 2 q (IsAdmittedSeries q said files) best papers.certificate.items) one
            right.certificate.2;
        unlisted = right.unlisted ∙ unlisted-said said files;
      }

  -- and the other way round
  pub answers_right : (a : Answers query stations files papers) → AreRight a.asked (stations_said stations) files papers
  answers_right a =
      let same : a.list ≡ stations_said stations =
      (stations-said stations list lists a.list).0 a.lists ∙ listed-said stations list lists in
      subst (λ (ss : List Station). AreRight a.asked ss files papers) same (record {
        report = (a.best, a.are, a.report);
        certificate = (a.best, a.are, a.certificate);
        unlisted = a.unlisted ∙ sym (unlisted-said a.list files);
      })

-- When a report and a certificate answer an input.
use Rattle.std.specs.Prelude.{◌≡◌, ℕ, ◌-◌, ◌^◌, min, List}
use Rattle.std.specs.List.{count_by, flat_map}
use Rattle.ghcn_fields.specs.Meaning.Lines.{lines}
use Rattle.ghcn_files.specs.declared.station.Station.{Station}
use Rattle.ghcn_series.specs.Meaning.Said.{SaysStations, is_unlisted}
use Rattle.rank_query.specs.Meaning.Asked.{Query}
use Rattle.rank_query.specs.Meaning.Asks.{Asks}
use Rattle.rank_scores.specs.declared.candidate.Candidate.{Candidate}
use Rattle.rank_papers.specs.Meaning.Report.{IsReportOfBest}
use Rattle.rank_papers.specs.Meaning.Right.{AreBest, IsAdmittedSeries, IsCertificateOfBest}
use Rattle.extremes.specs.declared.papers.Papers.{Papers}

-- the report and the certificate answer the input: its text denotes a query, its station list says some stations, and of
-- what its daily files say of these, there is a list of the best. The report is that of this list, the certificate, of
-- version 2, is right for it, and the lines of unlisted stations are counted, up to 2^64 - 1.
pub record Answers (query stations : List ℕ) (files : List (List ℕ)) (papers : Papers) : Type 0 where
  pub asked : Query
  pub asks : Asks query asked
  pub list : List Station
  pub lists : SaysStations stations list
  pub best : List Candidate
  pub are : AreBest asked (IsAdmittedSeries asked list files) best
  pub report : IsReportOfBest asked list best papers.report.items
  pub certificate : IsCertificateOfBest 2 asked (IsAdmittedSeries asked list files) best papers.certificate.items
  pub unlisted : papers.unlisted ≡ min (count_by (is_unlisted list) (flat_map lines files)) (2 ^ 64 - 1)

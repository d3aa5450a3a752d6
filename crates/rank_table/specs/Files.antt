-- What reading one file adds.
use Rattle.std.specs.Prelude.{◌≡◌, ℕ, List, ◌++◌, Ok}
use Rattle.rank_papers.specs.ReportLines.{Reported}
use Rattle.rank_table.specs.Reports.{Placed, placed_after}
use Rattle.rank_table.specs.Reading.{read_reports}

-- the reports of the text of this file come after those before
pub record AddsReports (file : ℕ) (bytes : List ℕ) (old new : List Placed) : Type 0 where
  pub reports : List Reported
  pub read : read_reports bytes ≡ Ok reports
  pub added : new ≡ old ++ placed_after file 0 reports

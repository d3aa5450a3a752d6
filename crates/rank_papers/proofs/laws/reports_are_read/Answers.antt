use Rattle.rank_papers.proofs.ReportPlaces.{reports_wrong}
use Rattle.rank_papers.proofs.ReportTexts.{reports_read}
use Rattle.rank_papers.proofs.RightReports.{right_reports}
use Rattle.rank_papers.proofs.laws.reports_are_read.Goals as goal

-- both directions
pub returns-clause-read : goal.returns-clause-read
returns-clause-read c = reports_read

-- and the place of an error
pub returns-clause-wrong : goal.returns-clause-wrong
returns-clause-wrong c = reports_wrong

-- and what a right report says
pub returns-clause-right : goal.returns-clause-right
returns-clause-right c = right_reports

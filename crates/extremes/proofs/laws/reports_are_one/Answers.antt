use Rattle.extremes.proofs.SerialPapers.{report_one}
use Rattle.extremes.proofs.laws.reports_are_one.Goals as goal

-- the law, since there is only one list of the best
pub returns : goal.returns
returns c = report_one c.papers_are_found.ensures.one

use Rattle.rank_papers.proofs.BestOfQuery.{best_found, best_are_one}
use Rattle.rank_papers.proofs.FoundPapers.{reports_found, certificates_found}
use Rattle.rank_papers.specs.Meaning.Right.{IsAdmittedSeries}
use Rattle.rank_papers.specs.RightLaws.{IsHeldSeries}
use Rattle.rank_papers.proofs.laws.papers_are_found.Goals as goal

-- the best candidates
pub returns-clause-best : goal.returns-clause-best
returns-clause-best c = best_found

-- of which there is one list
pub returns-clause-one : goal.returns-clause-one
returns-clause-one c = λ q. (
  λ dataset. best_are_one q (IsHeldSeries q dataset),
  λ stations files. best_are_one q (IsAdmittedSeries q stations files),
)

-- the report with them
pub returns-clause-report : goal.returns-clause-report
returns-clause-report c = reports_found

-- and the certificates
pub returns-clause-certificate : goal.returns-clause-certificate
returns-clause-certificate c = certificates_found

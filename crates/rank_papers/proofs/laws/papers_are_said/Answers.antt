use Rattle.rank_papers.proofs.SaidPapers.{reports_said, certificates_said}
use Rattle.rank_papers.proofs.laws.papers_are_said.Goals as goal

-- the report
pub returns-clause-report : goal.returns-clause-report
returns-clause-report c = reports_said

-- and the certificates
pub returns-clause-certificate : goal.returns-clause-certificate
returns-clause-certificate c = certificates_said

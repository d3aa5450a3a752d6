use Rattle.rank_papers.proofs.FoundPapers as found
use Rattle.rank_papers.proofs.OneElement.{report_stays, certificate_stays, measured_stays}
use Rattle.rank_papers.proofs.laws.papers_of_one_element.Goals as goal

-- the report, by the best candidates
pub returns-clause-report : goal.returns-clause-report
returns-clause-report c = report_stays c.one_element_is_enough.ensures.best

-- certificates, by the best candidates, the k-th score and the morsels
pub returns-clause-certificate : goal.returns-clause-certificate
returns-clause-certificate c =
    let same = c.one_element_is_enough.ensures in certificate_stays same.best same.kth same.morsels

-- and those with the bounds of the series
pub returns-clause-measured : goal.returns-clause-measured
returns-clause-measured c =
    let same = c.one_element_is_enough.ensures in measured_stays same.best same.kth same.morsels

-- the report, by what it is
pub returns-clause-right_report : goal.returns-clause-right_report
returns-clause-right_report c = found.report_stays c.one_element_is_enough.ensures.series

-- and certificates
pub returns-clause-right_certificate : goal.returns-clause-right_certificate
returns-clause-right_certificate c = found.certificate_stays c.one_element_is_enough.ensures.series

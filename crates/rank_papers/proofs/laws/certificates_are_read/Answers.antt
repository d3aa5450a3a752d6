use Rattle.rank_papers.proofs.CertificatePlaces.{certificates_wrong}
use Rattle.rank_papers.proofs.CertificateTexts.{certificates_read}
use Rattle.rank_papers.proofs.RightCertificates.{right_say_right}
use Rattle.rank_papers.proofs.laws.certificates_are_read.Goals as goal

-- both directions
pub returns-clause-read : goal.returns-clause-read
returns-clause-read c = certificates_read

-- and the place of an error
pub returns-clause-wrong : goal.returns-clause-wrong
returns-clause-wrong c = certificates_wrong

-- and what a right certificate says
pub returns-clause-right : goal.returns-clause-right
returns-clause-right c = right_say_right

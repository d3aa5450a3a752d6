use Rattle.std.proofs.Common.{rules}
use Rattle.rank_papers.specs.CertificateLines.{certified_in}
use Rattle.rank_papers.proofs.CertificateTexts.{if_read-is}
use Rattle.rank_papers.proofs.certificate_lines.read_certificate.Goals as goal

-- what was read is what the text says
pub returns-in-Some-version_of-clause-says : goal.returns-in-Some-version_of-clause-says
returns-in-Some-version_of-clause-says c = if_read-is certified_in c.args.bytes.now c.read_query.result (search rules)

use Rattle.std.proofs.Common.{rules}
use Rattle.rank_papers.specs.ReportLines.{reported_in}
use Rattle.rank_papers.proofs.ReportTexts.{if_read_report-is}
use Rattle.rank_papers.proofs.report_lines.read_report.Goals as goal

-- what was read is what the text says
pub returns-clause-says : goal.returns-clause-says
returns-clause-says c = if_read_report-is reported_in c.args.bytes.now c.read_query.result (search rules)

use Rattle.std.proofs.Common.{arith, subst}
use Rattle.rank_papers.specs.declared.fault.PaperFault.{PaperFault}
use Rattle.rank_papers.specs.Lines.{paper_lines}
use Rattle.rank_papers.specs.ReportLines.{IsBadReport, read_report}
use Rattle.rank_table.proofs.Adding.{bad_within}
use Rattle.rank_table.proofs.reading.report_after.Goals as goal

-- the number of the bad line fits
pub overflow_add-result : goal.overflow_add-result
overflow_add-result c = omega (
  arith,
  c.requires,
  bad_within (paper_lines c.args.text.now) c.in-Err-BadReport.line
      (subst (λ (f : PaperFault). IsBadReport (read_report c.args.text.now) f) c.in-Err-BadReport.field-0-is
      c.in-Err-BadReport.ensures.err),
)

use Rattle.std.proofs.Common.{◌∙◌}
use Rattle.rank_papers.specs.ReportLines.{reported_in}
use Rattle.rank_check.proofs.Judging.{few_rows, number_decided, rows_decided, report_decided}
use Rattle.rank_check.proofs.judge.report_fault.Goals as goal

-- the rows decide, or otherwise their number
pub returns : goal.returns
returns c =
    let q = c.args.query.now in
    let dataset = c.args.dataset.now in
    let report = c.args.report.now in
    let own = report.rows.items in
    let lent = c.as_slice-rows.ensures.value in
    let rows = c.as_slice-rows.result.now in
    let are = c.requires.found in
    c.or.ensures ∙ report_decided q dataset (reported_in report) c.rows_fault.result c.number_fault-few.result
    c.requires.same
    (rows_decided q dataset own rows lent c.args.found.now are c.stations.result.now c.rows_fault.result
    c.stations.ensures.stations c.rows_fault.ensures)
    (number_decided q dataset own rows lent c.args.found.now are c.number_fault-few.result
    (few_rows report c.requires.can_be) c.number_fault-few.ensures)

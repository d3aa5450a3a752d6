use Rattle.std.proofs.Common.{◌++◌, ◌∙◌, ap, length, ℕ, List}
use Rattle.rank_papers.specs.Meaning.Report.{text_line, end_fields}
use Rattle.rank_papers.specs.Report.{rows_of_best}
use Rattle.rank_papers.proofs.ReportRows.{length-rows_of_best, report-made, report-right}
use Rattle.rank_papers.proofs.report_text.report_of_best.Goals as goal

-- the parts were added in their order
pub returns-clause-text : goal.returns-clause-text
returns-clause-text c =
    let last : ℕ → List ℕ = λ k. text_line (end_fields k (length c.args.best.now)) in
    report-made c.args.query.now (rows_of_best c.args.stations.now c.args.best.now) (length c.args.best.now) _ _ _
    (length-rows_of_best c.args.stations.now c.args.best.now c.requires) c.in_ok-paper.ensures c.in_ok-push_rows.ensures
    (c.in_ok-push_end.ensures ∙ ap (λ (k : ℕ). c.push_rows.new.paper.items ++ last k) c.k.ensures.k)

-- so the report is the right one
pub returns-clause-right : goal.returns-clause-right
returns-clause-right c =
    report-right c.args.query.now c.args.stations.now c.args.best.now c.requires _ (returns-clause-text c)

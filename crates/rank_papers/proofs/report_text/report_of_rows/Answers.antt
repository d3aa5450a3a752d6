use Rattle.std.proofs.Common.{◌++◌, ◌∙◌, ap, length, ℕ, List, map}
use Rattle.std.proofs.lemmas.List.{length-map}
use Rattle.rank_papers.specs.Meaning.Report.{text_line, end_fields}
use Rattle.rank_papers.specs.ReportLines.{named_in}
use Rattle.rank_papers.proofs.ReportRows.{report-made}
use Rattle.rank_papers.proofs.report_text.report_of_rows.Goals as goal

-- the parts were added in their order
pub returns : goal.returns
returns c =
    let last : ℕ → List ℕ = λ k. text_line (end_fields k (length c.args.rows.now)) in
    report-made c.args.query.now (map named_in c.args.rows.now) (length c.args.rows.now) _ _ _
    (length-map c.args.rows.now named_in) c.in_ok-paper.ensures c.in_ok-push_named_rows.ensures
    (c.in_ok-push_end.ensures ∙ ap (λ (k : ℕ). c.push_named_rows.new.paper.items ++ last k) c.k.ensures.k)

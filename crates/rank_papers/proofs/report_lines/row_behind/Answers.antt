use Rattle.std.proofs.Common.{◌≡◌, ◌<◌, Option, subst, IfOk, arith}
use Rattle.std.specs.Option.{option_map}
use Rattle.rank_papers.specs.declared.paper.Row.{Row}
use Rattle.rank_papers.specs.Report.{Named}
use Rattle.rank_papers.specs.ReportLines.{named_in}
use Rattle.rank_papers.proofs.ReportFields.{row_behind-next}
use Rattle.rank_papers.proofs.report_lines.row_behind.Goals as goal

-- there may be one more
pub returns-then-before-k : goal.returns-then-before-k
returns-then-before-k c =
    let below : c.args.before < c.args.query.now.k = omega (arith, c.if-before-k.true, c.k.ensures.k) in
    subst (λ (o : Option Named). IfOk c.row_of.result (λ (row : Option Row). option_map named_in row ≡ o))
    (row_behind-next c.args.query.now c.args.before c.args.line.now below) c.row_of.ensures

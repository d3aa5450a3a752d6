use Rattle.std.proofs.Common.{rules, ◌≡◌, ◌+◌, ◌<◌, length, arith}
use Rattle.std.proofs.lemmas.Bool.Decides.{nat_tests}
use Rattle.rank_papers.specs.ReportLines.{report_end}
use Rattle.rank_papers.proofs.LinesRead.{ends_by-more}
use Rattle.rank_papers.proofs.report_lines.read_end.Goals as goal

-- something comes after the end line
pub returns-then-not-is_empty-clause-err : goal.returns-then-not-is_empty-clause-err
returns-then-not-is_empty-clause-err c =
    let same : c.args.line.now ≡ report_end c.args.query.now c.args.rows = search rules in
    let some : 0 < length c.args.behind.now = grind (arith, nat_tests) in
    ends_by-more (c.args.rows + 3) (c.args.rows + 4) c.args.line.now (report_end c.args.query.now c.args.rows)
    c.args.behind.now same some (omega arith)

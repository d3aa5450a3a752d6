use Rattle.std.proofs.Common.{rules, ◌≡◌, ◌+◌, ◌<◌, length, arith}
use Rattle.std.proofs.lemmas.Bool.Decides.{nat_tests}
use Rattle.rank_papers.specs.Meaning.Certificate.{end_line}
use Rattle.rank_papers.proofs.LinesRead.{ends_by-more}
use Rattle.rank_papers.proofs.certificate_lines.read_end.Goals as goal

-- something comes after the end line
pub returns-then-not-is_empty-clause-err : goal.returns-then-not-is_empty-clause-err
returns-then-not-is_empty-clause-err c =
    let same : c.args.line.now ≡ end_line c.args.count = search rules in
    let some : 0 < length c.args.behind.now = grind (arith, nat_tests) in
    ends_by-more (c.args.count + 4) (c.args.count + 5) c.args.line.now (end_line c.args.count) c.args.behind.now same
    some (omega arith)

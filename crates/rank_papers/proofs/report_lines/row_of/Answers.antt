use Rattle.std.proofs.Common.{◌≡◌, ◌∙◌, List, ℕ, sym, ap, length, decimal}
use Rattle.std.specs.Option.{option_map}
use Rattle.rank_papers.specs.ReportLines.{named_in}
use Rattle.rank_papers.proofs.ReportFields.{row_in-none, row_in-own, row_in-other}
use Rattle.rank_papers.proofs.report_lines.row_of.Goals as goal

-- the columns hold no row
pub returns-in_default : goal.returns-in_default
returns-in_default c =
    let rank : c.as_bytes-text.result.now ≡ decimal c.args.rank =
    c.as_bytes-text.ensures.value ∙ c.format.ensures.text in
    row_in-none c.args.query.now c.args.rank c.args.line.now (length c.as_bytes-text.result.now)
    (ap (λ (text : List ℕ). length text) rank)
    (ap (option_map named_in) (sym c.in_default.is) ∙ c.in_ok-row.ensures)

-- the row in the columns has another line
pub returns-then-not-branch : goal.returns-then-not-branch
returns-then-not-branch c =
    let rank : c.as_bytes-text.result.now ≡ decimal c.args.rank =
    c.as_bytes-text.ensures.value ∙ c.format.ensures.text in
    row_in-other c.args.query.now c.args.rank c.args.line.now (length c.as_bytes-text.result.now)
    (named_in c.in-Some.row) c.in_ok-is_line_of.field-0 (ap (λ (text : List ℕ). length text) rank)
    (ap (option_map named_in) (sym c.in-Some.is) ∙ c.in_ok-row.ensures)
    (c.in_ok-is_line_of.ensures c.args.rank rank) c.if-not-branch.true

-- it has this line
pub returns : goal.returns
returns c =
    let rank : c.as_bytes-text.result.now ≡ decimal c.args.rank =
    c.as_bytes-text.ensures.value ∙ c.format.ensures.text in
    row_in-own c.args.query.now c.args.rank c.args.line.now (length c.as_bytes-text.result.now)
    (named_in c.in-Some.row) c.in_ok-is_line_of.field-0 (ap (λ (text : List ℕ). length text) rank)
    (ap (option_map named_in) (sym c.in-Some.is) ∙ c.in_ok-row.ensures)
    (c.in_ok-is_line_of.ensures c.args.rank rank) c.if-not-branch.false

use Rattle.std.proofs.Common.{sym, subst}
use Rattle.ghcn_files.specs.declared.element.Element.{Element}
use Rattle.ghcn_files.specs.Months.{month_of}
use Rattle.ghcn_files.specs.Elements.{is_kept}
use Rattle.ghcn_files.specs.Rows.{IsRead, IsRowOf}
use Rattle.ghcn_files.proofs.Errors.{err_given}
use Rattle.ghcn_files.proofs.Months.{read_month-by}
use Rattle.ghcn_files.proofs.Ranges.{month_of-right}
use Rattle.ghcn_files.proofs.row.read_days.Goals as goal

-- a line of an element that fails a test
pub returns-in_err-row_of-in-Some : goal.returns-in_err-row_of-in-Some
returns-in_err-row_of-in-Some c =
    let line = c.args.line.now in
    subst (IsRead c.args.asked line) (sym (err_given _ _ c.from_residual.ensures.1))
    (read_month-by line c.in-Some.element c.if-line-lt-UP_TO_ELEMENT.false c.of_code.ensures c.in-Some.is
    c.in_err-row_of-in-Some.ensures.err)

-- and one that fails none
pub returns-in_ok-row_of-in-Some : goal.returns-in_ok-row_of-in-Some
returns-in_ok-row_of-in-Some c =
    let line = c.args.line.now in
    let element = c.in-Some.element in
    let fine = c.in_ok-row_of-in-Some.ensures.fine in
    let found = c.in_ok-row_of-in-Some.field-0 in
    let of = c.in_ok-row_of-in-Some.ensures.row in
    record {
      month = month_of element line;
      read =
          read_month-by line element c.if-line-lt-UP_TO_ELEMENT.false c.of_code.ensures c.in-Some.is fine;
      right = month_of-right element line fine;
      row =
          subst (λ (e : Element). IsRowOf (is_kept c.args.asked e) (month_of element line) found) (sym of.element) of;
    }

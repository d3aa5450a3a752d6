use Rattle.std.proofs.Common.{Bool, sym, subst}
use Rattle.ghcn_files.specs.declared.element.Element.{Element}
use Rattle.ghcn_files.specs.Months.{month_of}
use Rattle.ghcn_files.specs.Elements.{is_kept}
use Rattle.ghcn_files.specs.Rows.{IsReadInto, IsRowOf}
use Rattle.ghcn_files.proofs.Errors.{err_given}
use Rattle.ghcn_files.proofs.Months.{read_month-by}
use Rattle.ghcn_files.proofs.Ranges.{month_of-right}
use Rattle.ghcn_files.proofs.heads.MonthReader.read.Goals as goal

-- a line of an element that fails a test
pub returns-in_err-fill-in-Some : goal.returns-in_err-fill-in-Some
returns-in_err-fill-in-Some c =
    let line = c.args.line.now in
    subst (IsReadInto c.args.asked line c.fill.new.self.row) (sym (err_given _ _ c.from_residual.ensures.1))
    (read_month-by line c.in-Some.element c.if-line-lt-UP_TO_ELEMENT.false c.of_code.ensures c.in-Some.is
    c.in_err-fill-in-Some.ensures.err)

-- and one that fails none
pub returns-in_ok-fill-in-Some : goal.returns-in_ok-fill-in-Some
returns-in_ok-fill-in-Some c =
    let line = c.args.line.now in
    let element = c.in-Some.element in
    let fine = c.in_ok-fill-in-Some.ensures.fine in
    let of = subst (λ (k : Bool). IsRowOf k (month_of element line) c.fill.new.self.row) c.is_kept.ensures
    c.in_ok-fill-in-Some.ensures.row in
    record {
      month = month_of element line;
      read =
          read_month-by line element c.if-line-lt-UP_TO_ELEMENT.false c.of_code.ensures c.in-Some.is fine;
      right = month_of-right element line fine;
      row =
          subst (λ (e : Element). IsRowOf (is_kept c.args.asked e) (month_of element line) c.fill.new.self.row)
          (sym of.element) of;
    }

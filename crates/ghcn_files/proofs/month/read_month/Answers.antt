use Rattle.std.proofs.Common.{Ok, Some, sym, subst, ap, ◌∙◌}
use Rattle.ghcn_files.specs.declared.month.Month.{Month}
use Rattle.ghcn_files.specs.Months.{IsMonth}
use Rattle.ghcn_files.proofs.Errors.{err_given}
use Rattle.ghcn_files.proofs.Months.{unless_ok, unless_err, read_month-by}
use Rattle.ghcn_files.proofs.Ranges.{month_of-right}
use Rattle.ghcn_files.proofs.month.read_month.Goals as goal

-- a line of an element that fails a test
pub returns-in_err-month_of-in-Some-clause-value :
    goal.returns-in_err-month_of-in-Some-clause-value
returns-in_err-month_of-in-Some-clause-value c =
    let line = c.args.line.now in
    let why = unless_err _ _ _ c.month_of.ensures c.in_err-month_of-in-Some.was in
    err_given _ _ c.from_residual.ensures.1
    ∙ sym (read_month-by line c.in-Some.element c.if-line-lt-UP_TO_ELEMENT.false c.of_code.ensures c.in-Some.is why)

-- and one that fails none
pub returns-in_ok-month_of-in-Some-clause-value : goal.returns-in_ok-month_of-in-Some-clause-value
returns-in_ok-month_of-in-Some-clause-value c =
    let line = c.args.line.now in
    let read = unless_ok _ _ _ c.month_of.ensures c.in_ok-month_of-in-Some.was in
    ap (λ (m : Month). Ok (Some m)) read.1
    ∙ sym (read_month-by line c.in-Some.element c.if-line-lt-UP_TO_ELEMENT.false c.of_code.ensures c.in-Some.is read.0)

-- whose month has its fields in range
pub returns-in_ok-month_of-in-Some-clause-ranges :
    goal.returns-in_ok-month_of-in-Some-clause-ranges
returns-in_ok-month_of-in-Some-clause-ranges c =
    let read = unless_ok _ _ _ c.month_of.ensures c.in_ok-month_of-in-Some.was in
    subst IsMonth (sym read.1) (month_of-right c.in-Some.element c.args.line.now read.0)

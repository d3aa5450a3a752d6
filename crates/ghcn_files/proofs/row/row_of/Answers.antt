use Rattle.std.proofs.Common.{◌≡◌, Bool, Result, Some, IfErr, sym, subst, ◌∙◌}
use Rattle.ghcn_files.specs.declared.fault.LineWhy.{LineWhy}
use Rattle.ghcn_files.specs.declared.row.MonthRow.{MonthRow}
use Rattle.ghcn_files.specs.Months.{month_why}
use Rattle.ghcn_files.specs.Rows.{AreDays, if_kept, line_value}
use Rattle.ghcn_files.proofs.Errors.{err_given}
use Rattle.ghcn_files.proofs.Months.{month_why-parts, unless_ok, unless_err}
use Rattle.ghcn_files.proofs.Rows.{line-row}
use Rattle.ghcn_files.proofs.row.row_of.Goals as goal

-- a test that failed before the days
pub returns-in_err-head-clause-err : goal.returns-in_err-head-clause-err
returns-in_err-head-clause-err c =
    let line = c.args.line.now in
    let why = unless_err _ _ _ c.head_of.ensures.value c.in_err-head.was in
    subst (λ (r : Result MonthRow LineWhy). IfErr r (λ why. month_why line ≡ Some why))
    (sym (err_given _ _ c.from_residual.ensures.1)) (month_why-parts line why)

-- a value that isn't a number
pub returns-in_err-word-clause-err : goal.returns-in_err-word-clause-err
returns-in_err-word-clause-err c =
    let line = c.args.line.now in
    let head = unless_ok _ _ _ c.head_of.ensures.value c.in_ok-head.was in
    subst (λ (r : Result MonthRow LineWhy). IfErr r (λ why. month_why line ≡ Some why))
    (sym (err_given _ _ c.from_residual-in_err-word.ensures.1))
    (month_why-parts line head.0 ∙ c.in_err-word.ensures.err)

-- a line that passes every test
pub returns-clause-fine : goal.returns-clause-fine
returns-clause-fine c =
    let line = c.args.line.now in
    let head = unless_ok _ _ _ c.head_of.ensures.value c.in_ok-head.was in
    month_why-parts line head.0 ∙ c.in_ok-word.ensures.fine

-- has its month's row
pub returns-clause-row : goal.returns-clause-row
returns-clause-row c =
    let line = c.args.line.now in
    let count = c.days_in_month-count.result in
    let head = unless_ok _ _ _ c.head_of.ensures.value c.in_ok-head.was in
    let days = λ (k : Bool). AreDays (λ j. if_kept k (line_value c.args.element count line j)) c.in_ok-word.word
    c.put_days.new.values in
    line-row _ c.args.element line c.in_ok-head.head _ _ _ head.1 c.days_in_month-count.ensures
    (subst days c.is_kept.ensures c.in_ok-word.ensures.days)

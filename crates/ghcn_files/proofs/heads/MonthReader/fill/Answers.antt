use Rattle.std.proofs.Common.{◌≡◌, Result, Some, IfErr, sym, subst, ◌∙◌}
use Rattle.ghcn_files.specs.declared.fault.LineWhy.{LineWhy}
use Rattle.ghcn_files.specs.Months.{month_why}
use Rattle.ghcn_files.proofs.Errors.{err_given}
use Rattle.ghcn_files.proofs.Months.{month_why-parts}
use Rattle.ghcn_files.proofs.Rows.{line-row}
use Rattle.ghcn_files.proofs.heads.MonthReader.fill.Goals as goal

-- a test that failed before the days
pub returns-in_err-find_head-clause-err : goal.returns-in_err-find_head-clause-err
returns-in_err-find_head-clause-err c =
    let line = c.args.line.now in
    subst (λ (r : Result (Unit {0}) LineWhy). IfErr r (λ why. month_why line ≡ Some why))
    (sym (err_given _ _ c.from_residual.ensures.1)) (month_why-parts line c.in_err-find_head.ensures.err)

-- a value that isn't a number
pub returns-in_err-self-clause-err : goal.returns-in_err-self-clause-err
returns-in_err-self-clause-err c =
    let line = c.args.line.now in
    subst (λ (r : Result (Unit {0}) LineWhy). IfErr r (λ why. month_why line ≡ Some why))
    (sym (err_given _ _ c.from_residual-in_err-self.ensures.1))
    (month_why-parts line c.in_ok-find_head.ensures.head.fine ∙ c.in_err-self.ensures.err)

-- a line that passes every test
pub returns-clause-fine : goal.returns-clause-fine
returns-clause-fine c =
    month_why-parts c.args.line.now c.in_ok-find_head.ensures.head.fine ∙ c.in_ok-self.ensures.fine

-- has its month's row
pub returns-clause-row : goal.returns-clause-row
returns-clause-row c =
    let has = c.in_ok-find_head.ensures.head in
    line-row c.args.kept c.args.element c.args.line.now _ _ _ _ has.head has.many c.in_ok-self.ensures.days

use Rattle.std.proofs.Common.{Ok, ap, ◌∙◌}
use Rattle.ghcn_files.specs.declared.month.Head.{Head}
use Rattle.ghcn_files.specs.declared.month.Month.{Month}
use Rattle.ghcn_files.specs.Months.{month_of}
use Rattle.ghcn_files.proofs.Errors.{err_given}
use Rattle.ghcn_files.proofs.Months.{month_why-parts, month_of-parts, unless_ok, unless_err, unless_by}
use Rattle.ghcn_files.proofs.month.month_of.Goals as goal

-- a test that failed before the days
pub returns-in_err-head : goal.returns-in_err-head
returns-in_err-head c =
    let line = c.args.line.now in
    let why = unless_err _ _ _ c.head_of.ensures.value c.in_err-head.was in
    err_given _ _ c.from_residual.ensures.1
    ∙ unless_by line (month_of c.args.element line) (month_why-parts line why)

-- a value that isn't a number
pub returns-in_err-days : goal.returns-in_err-days
returns-in_err-days c =
    let line = c.args.line.now in
    let head = unless_ok _ _ _ c.head_of.ensures.value c.in_ok-head.was in
    let why = unless_err _ _ _ c.readings.ensures c.in_err-days.was in
    err_given _ _ c.from_residual-in_err-days.ensures.1
    ∙ unless_by line (month_of c.args.element line) (month_why-parts line head.0 ∙ why)

-- a line that passes every test is its month
pub returns : goal.returns
returns c =
    let line = c.args.line.now in
    let head = unless_ok _ _ _ c.head_of.ensures.value c.in_ok-head.was in
    let days = unless_ok _ _ _ c.readings.ensures c.in_ok-days.was in
    ap (λ (m : Month). Ok m) (month_of-parts c.args.element line _ _ _ _ (ap (λ (h : Head). h.id) head.1)
    (ap (λ (h : Head). h.year) head.1) (ap (λ (h : Head). h.month) head.1) days.1)
    ∙ unless_by line (month_of c.args.element line) (month_why-parts line head.0 ∙ days.0)

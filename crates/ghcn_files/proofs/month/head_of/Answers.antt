use Rattle.std.proofs.Common.{true, false, Option, Ok, refl, sym, ap, ◌∙◌}
use Rattle.ghcn_files.specs.declared.month.Head.{Head}
use Rattle.ghcn_files.specs.declared.fault.LineWhy.{LineWhy}
use Rattle.ghcn_files.specs.Months.{unless, head_of}
use Rattle.ghcn_files.proofs.Months.{Tested, head_why-tested, head_of-parts, test_held, test_failed}
use Rattle.ghcn_files.proofs.month.head_of.Goals as goal

-- a year that isn't one
pub returns-in_default-year_of-clause-value : goal.returns-in_default-year_of-clause-value
returns-in_default-year_of-clause-value c =
    let tested : Tested c.args.line.now true true false _ = record {
      long = c.if-line-lt-LEAST_COLUMNS.false;
      ends_is = sym c.only_blanks_follow.ensures ∙ c.if-not-only_blanks_follow.false;
      id_is = (test_held _ _ _ c.of_line.ensures c.in-Some.is).0;
      year_is = test_failed _ _ c.year_of.ensures.value c.in_default-year_of.is;
      month_is = refl;
    } in
    sym (ap (λ (o : Option LineWhy). unless o (head_of c.args.line.now)) (head_why-tested tested))

-- a month that isn't one
pub returns-in_default-month_number-clause-value : goal.returns-in_default-month_number-clause-value
returns-in_default-month_number-clause-value c =
    let tested : Tested c.args.line.now true true true false = record {
      long = c.if-line-lt-LEAST_COLUMNS.false;
      ends_is = sym c.only_blanks_follow.ensures ∙ c.if-not-only_blanks_follow.false;
      id_is = (test_held _ _ _ c.of_line.ensures c.in-Some.is).0;
      year_is = (test_held _ _ _ c.year_of.ensures.value c.in-Some-year_of.is).0;
      month_is = test_failed _ _ c.month_number.ensures.value c.in_default-month_number.is;
    } in
    sym (ap (λ (o : Option LineWhy). unless o (head_of c.args.line.now)) (head_why-tested tested))

-- a line that passes every test has its head
pub returns-clause-value : goal.returns-clause-value
returns-clause-value c =
    let line = c.args.line.now in
    let long = c.if-line-lt-LEAST_COLUMNS.false in
    let id = test_held _ _ _ c.of_line.ensures c.in-Some.is in
    let year = test_held _ _ _ c.year_of.ensures.value c.in-Some-year_of.is in
    let month = test_held _ _ _ c.month_number.ensures.value c.in-Some-month_number.is in
    let tested : Tested line true true true true = record {
      long = long;
      ends_is = sym c.only_blanks_follow.ensures ∙ c.if-not-only_blanks_follow.false;
      id_is = id.0;
      year_is = year.0;
      month_is = month.0;
    } in
    ap (λ (h : Head). Ok h) (head_of-parts line _ _ _ id.1 year.1 month.1)
    ∙ sym (ap (λ (o : Option LineWhy). unless o (head_of line)) (head_why-tested tested))

use Rattle.std.proofs.Common.{◌≡◌, take, drop, Some, sym, ◌∙◌, arith, rules}
use Rattle.std.proofs.lemmas.Bool.Decides.{nat_tests}
use Rattle.ghcn_fields.specs.Numbers.{natural}
use Rattle.ghcn_fields.proofs.DateTexts.{read_date-parts, written_by}
use Rattle.ghcn_fields.proofs.DateForms.{other_length, no_first_dash, no_second_dash, no_year, no_month, no_day}
use Rattle.ghcn_fields.proofs.DateForms.{year_digits, month_digits, day_digits, month-lt, day-lt}
use Rattle.ghcn_fields.proofs.date.read_date.Goals as goal

-- a text of another form isn't a date
pub returns-in_default-clause-value : goal.returns-in_default-clause-value
returns-in_default-clause-value c = grind (arith, nat_tests, other_length, no_first_dash, no_second_dash)

-- nor what is written for a day
pub returns-in_default-clause-written : goal.returns-in_default-clause-written
returns-in_default-clause-written c = written_by c.args.text.now _ (returns-in_default-clause-value c)

-- nor is one without digits in their places
pub returns-in_err-year-clause-value : goal.returns-in_err-year-clause-value
returns-in_err-year-clause-value c =
    let none = sym (year_digits c.args.text.now (omega arith)) ∙ sym c.small_natural.ensures ∙ c.in_err-year.was in
    c.from_residual.ensures ∙ sym (no_year c.args.text.now none)

-- nor what is written for a day
pub returns-in_err-year-clause-written : goal.returns-in_err-year-clause-written
returns-in_err-year-clause-written c = written_by c.args.text.now _ (returns-in_err-year-clause-value c)

-- the month has to be digits too
pub returns-in_err-month-clause-value : goal.returns-in_err-month-clause-value
returns-in_err-month-clause-value c =
    let none = sym (month_digits c.args.text.now (omega arith)) ∙ sym c.small_natural-2.ensures ∙ c.in_err-month.was in
    c.from_residual-in_err-month.ensures ∙ sym (no_month c.args.text.now none)

-- nor is it then what is written for a day
pub returns-in_err-month-clause-written : goal.returns-in_err-month-clause-written
returns-in_err-month-clause-written c = written_by c.args.text.now _ (returns-in_err-month-clause-value c)

-- and the day
pub returns-in_err-day-clause-value : goal.returns-in_err-day-clause-value
returns-in_err-day-clause-value c =
    let none = sym (day_digits c.args.text.now (omega arith)) ∙ sym c.small_natural-3.ensures ∙ c.in_err-day.was in
    c.from_residual-in_err-day.ensures ∙ sym (no_day c.args.text.now none)

-- nor is it then what is written for a day
pub returns-in_err-day-clause-written : goal.returns-in_err-day-clause-written
returns-in_err-day-clause-written c = written_by c.args.text.now _ (returns-in_err-day-clause-value c)

-- two digits fit a byte
pub overflow_cast-month : goal.overflow_cast-month
overflow_cast-month c =
    let month : natural (take 2 (drop 5 c.args.text.now)) ≡ Some c.in_ok-month.month =
    sym (month_digits c.args.text.now (omega arith)) ∙ sym c.small_natural-2.ensures ∙ c.in_ok-month.was in
    omega (arith, month-lt c.args.text.now c.in_ok-month.month (omega arith) month)

-- two digits fit a byte
pub overflow_cast-day : goal.overflow_cast-day
overflow_cast-day c =
    let day : natural (drop 8 c.args.text.now) ≡ Some c.in_ok-day.day =
    sym (day_digits c.args.text.now (omega arith)) ∙ sym c.small_natural-3.ensures ∙ c.in_ok-day.was in
    omega (arith, day-lt c.args.text.now c.in_ok-day.day (omega arith) day)

-- a text of digits and dashes is read as its date
pub returns-clause-value : goal.returns-clause-value
returns-clause-value c = search (rules, read_date-parts, year_digits, month_digits, day_digits)

-- so what is written for a day is read as it
pub returns-clause-written : goal.returns-clause-written
returns-clause-written c = written_by c.args.text.now _ (returns-clause-value c)

use Rattle.std.proofs.Common.{ℕ, sym, ap, ◌∙◌, rules}
use Rattle.ghcn_fields.specs.Meaning.Days.{is_day}
use Rattle.ghcn_fields.specs.Days.{day_number}
use Rattle.ghcn_fields.proofs.CivilDates.{civil-date, day-low}
use Rattle.ghcn_fields.proofs.WholeDays.{day_number-civil}
use Rattle.ghcn_fields.proofs.day.Day.civil.Goals as goal

-- the calendar's date of the number is the definition's
pub returns-clause-value : goal.returns-clause-value
returns-clause-value c = search (rules, civil-date, day-low)

-- the day has the number that it is found for
pub returns-clause-number : goal.returns-clause-number
returns-clause-number c =
    ap (λ (found : ℕ × ℕ × ℕ). day_number found.0 found.1 found.2) (returns-clause-value c)
    ∙ day_number-civil c.args.self (ap is_day (sym c.self.view_is) ∙ c.self.invariant)

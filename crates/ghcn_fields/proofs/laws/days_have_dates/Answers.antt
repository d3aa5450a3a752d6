use Rattle.ghcn_fields.proofs.WholeDays.{day_number-law}
use Rattle.ghcn_fields.proofs.DateTexts.{read_date-law}
use Rattle.ghcn_fields.proofs.laws.days_have_dates.Goals as goal

-- each date is that of one day
pub returns-clause-dates : goal.returns-clause-dates
returns-clause-dates c = day_number-law

-- each text of a day is read as it, and no other text is
pub returns-clause-texts : goal.returns-clause-texts
returns-clause-texts c = read_date-law

use Rattle.rank_query.proofs.Cited.{codes, ◌++◌, List, ℕ, ap, ◌∙◌, read_date}
use Rattle.rank_query.proofs.DaysOfYear.{five, if_2000}
use Rattle.rank_query.proofs.values.day_of_2000.Goals as goal

-- the five bytes come after the year
pub returns-clause-day : goal.returns-clause-day
returns-clause-day c =
    c.read_date.ensures.value ∙ ap (λ (t : List ℕ). read_date (codes "2000-" ++ t)) (five c.args.text.now c.requires)

-- and what is read is a day of it
pub returns-clause-within : goal.returns-clause-within
returns-clause-within c = if_2000 c.args.text.now c.read_date.result (returns-clause-day c)

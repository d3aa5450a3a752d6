use Rattle.rank_query.proofs.Cited.{List, ℕ, take, sym, ap, ◌∙◌, day_of_2000}
use Rattle.std.specs.Option.{option_zip}
use Rattle.rank_query.proofs.DaysOfYear.{other_length, no_points, points}
use Rattle.rank_query.proofs.values.two_days.Goals as goal

-- a word of another length isn't two days
pub returns-then-word-ne12-clause-days : goal.returns-then-word-ne12-clause-days
returns-then-word-ne12-clause-days c = sym (other_length c.args.word.now c.if-word-ne12.true)

-- nor is one without the two points
pub returns-then-not-says-clause-days : goal.returns-then-not-says-clause-days
returns-then-not-says-clause-days c = sym (no_points c.args.word.now (sym c.says.ensures ∙ c.if-not-says.true))

-- with them it is the days on both sides
pub returns-clause-days : goal.returns-clause-days
returns-clause-days c =
    let word : List ℕ = c.args.word.now in
    c.zip.ensures ∙ ap (λ o. option_zip o c.day_of_2000-2.result) c.day_of_2000.ensures.day
    ∙ ap (option_zip (day_of_2000 (take 5 word))) c.day_of_2000-2.ensures.day
    ∙ points word (sym c.says.ensures ∙ c.if-not-says.false)

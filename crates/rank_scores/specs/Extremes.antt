-- The two ends of the values of days.
use Rattle.std.specs.Prelude.{ℤ, neg_ℤ}
use Rattle.rank_scores.specs.declared.extreme.Extreme.{Extreme}
use Rattle.rank_scores.specs.declared.extreme.Extreme.TheVariants.{Highest, Lowest}

-- the score of a day with a value: the value itself, negated if the lowest are ranked
abbrev pub score_by : Extreme → ℤ → ℤ
score_by Highest v = v
score_by Lowest v = neg_ℤ v

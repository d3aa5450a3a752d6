-- Queries for a score alone, and the edges of a season.
use Rattle.std.specs.Prelude.{ℕ, Option, None, Some, ℤ}
use Rattle.rank_query.specs.declared.score.Score.{Score}
use Rattle.rank_query.specs.declared.region.Region.TheVariants.{Everywhere}
use Rattle.rank_query.specs.declared.per.Per.TheVariants.{Each}
use Rattle.rank_query.specs.declared.season.Season.{Season}
use Rattle.rank_query.specs.declared.season.Season.TheVariants.{AllYear, Months, Dates}
use Rattle.rank_query.specs.Meaning.Asked.{Query}

-- the first k by a score, everywhere and always
abbrev pub top : ℕ → Score → Query
top k score = record { k = k; score = score; region = Everywhere; season = AllYear; period = None; per = Each }

-- the first and the last month of a season that is given by months
abbrev pub season_months : Season → Option (ℕ × ℕ)
season_months AllYear = None
season_months (Months first last) = Some (first, last)
season_months (Dates first last) = None

-- the first and the last day of a season that is given by days
abbrev pub season_days : Season → Option (ℤ × ℤ)
season_days AllYear = None
season_days (Months first last) = None
season_days (Dates first last) = Some (first, last)

-- What a query asks.
use Rattle.std.specs.Prelude.{ℕ, Bool, true, false, ◌&&◌, ◌==◌, List, length, Option, None, Some, ℤ, pos, neg_ℤ}
use Rattle.std.specs.Prelude.{int_le, IsTrue}
use Rattle.std.specs.List.{list_all}
use Rattle.ghcn_fields.specs.Meaning.Days.{is_within, is_day}
use Rattle.ghcn_files.specs.declared.element.Element.{Element}
use Rattle.ghcn_files.specs.declared.element.Element.TheVariants.{Prcp, Snow, Tmax, Tmin}
use Rattle.ghcn_files.specs.Meaning.Elements.{may_be_negative}
use Rattle.ghcn_files.specs.Meaning.Ids.{is_visible}
use Rattle.rank_query.specs.declared.score.Score.{Score}
use Rattle.rank_query.specs.declared.score.Score.TheVariants.{Highest, Lowest, Sum, Dry, Wet, Hot, Cold}
use Rattle.rank_query.specs.declared.region.Region.{Region}
use Rattle.rank_query.specs.declared.region.Region.TheVariants.{Everywhere, Inside, Country, State, Only}
use Rattle.rank_query.specs.declared.per.Per.{Per}
use Rattle.rank_query.specs.declared.season.Season.{Season}
use Rattle.rank_query.specs.declared.season.Season.TheVariants.{AllYear, Months, Dates}

-- what a query asks for: the k best by a score, of the stations of a region, over the days that lie in a season of each
-- year and in a period, which is a first and a last day. If there is no period, the days of all years count. `per` says
-- of which groups only the best counts.
pub record Query : Type 0 where
  pub k : ℕ
  pub score : Score
  pub region : Region
  pub season : Season
  pub period : Option (ℤ × ℤ)
  pub per : Per

-- the element that a score is about
abbrev pub score_element : Score → Element
score_element (Highest e) = e
score_element (Lowest e) = e
score_element (Sum n e) = e
score_element Dry = Prcp
score_element Wet = Prcp
score_element (Hot t) = Tmax
score_element (Cold t) = Tmin

-- the element is an amount that falls on a day, precipitation or snowfall, the only kind of element whose sums can be
-- asked for
abbrev pub is_fall : Element → Bool
is_fall Prcp = true
is_fall Snow = true
is_fall other = false

-- a number of tenths of a degree that can be asked for in hot or cold spells: from -100 to 100 degrees
abbrev pub is_heat : ℤ → Bool
is_heat t = int_le (neg_ℤ (pos 1_000)) t && int_le t (pos 1_000)

-- a score that can be asked for: the lowest values of a temperature, the only kind of element that may be negative, sums
-- of 1 to 366 days, and hot and cold spells with degrees within their limits; dry and wet spells, and the highest values,
-- always
abbrev pub is_score : Score → Bool
is_score (Lowest e) = may_be_negative e
is_score (Sum n e) = is_within 1 366 n && is_fall e
is_score (Hot t) = is_heat t
is_score (Cold t) = is_heat t
is_score other = true

-- a code is that many visible bytes
abbrev pub is_code : ℕ → List ℕ → Bool
is_code len bytes = (length bytes == len) && list_all is_visible bytes

-- a longitude, in ten-thousandths of a degree
abbrev pub is_longitude : ℤ → Bool
is_longitude z = int_le (neg_ℤ (pos 1_800_000)) z && int_le z (pos 1_800_000)

-- a region that can be asked for: the edges of a box are latitudes and longitudes, and its northern edge isn't below
-- its southern one; a code has two visible bytes, and an ID eleven
abbrev pub is_region : Region → Bool
is_region Everywhere = true
is_region (Inside south west north east) =
    int_le (neg_ℤ (pos 900_000)) south && int_le south north && int_le north (pos 900_000)
    && is_longitude west && is_longitude east
is_region (Country code) = is_code 2 code
is_region (State code) = is_code 2 code
is_region (Only id) = is_code 11 id.0

-- a day of the year 2000, which has 29 February
abbrev pub is_day_of_2000 : ℤ → Bool
is_day_of_2000 day = int_le (pos 10_957) day && int_le day (pos 11_322)

-- a season that can be asked for: all year, two months by their numbers, or two days of the year 2000
abbrev pub is_season : Season → Bool
is_season AllYear = true
is_season (Months first last) = is_within 1 12 first && is_within 1 12 last
is_season (Dates first last) = is_day_of_2000 first && is_day_of_2000 last

-- a period that can be asked for: none, or two days, the second not before the first
abbrev pub is_period : Option (ℤ × ℤ) → Bool
is_period None = true
is_period (Some p) = is_day p.0 && is_day p.1 && int_le p.0 p.1

-- a query can be asked: its k is from 1 to 1000, and its score, region, season and period can be asked for
pub record IsAsked (q : Query) : Type 0 where
  pub k : IsTrue (is_within 1 1000 q.k)
  pub score : IsTrue (is_score q.score)
  pub region : IsTrue (is_region q.region)
  pub season : IsTrue (is_season q.season)
  pub period : IsTrue (is_period q.period)

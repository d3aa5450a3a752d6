-- The stations and days that a query admits.
use Rattle.std.specs.Prelude.{Bool, true, ◌&&◌, ◌||◌, if◌then◌else◌, take, Option, None, Some, ℤ, pos}
use Rattle.std.specs.Prelude.{int_le}
use Rattle.jiff_core.specs.Calendar.{days_from_civil}
use Rattle.ghcn_fields.specs.Meaning.Bytes.{same_bytes}
use Rattle.ghcn_fields.specs.Meaning.Dates.{civil}
use Rattle.ghcn_fields.specs.Meaning.Days.{is_day}
use Rattle.ghcn_files.specs.declared.station.Station.{Station}
use Rattle.ghcn_files.specs.Meaning.Ids.{same_id}
use Rattle.rank_query.specs.declared.region.Region.{Region}
use Rattle.rank_query.specs.declared.region.Region.TheVariants.{Everywhere, Inside, Country, State, Only}
use Rattle.rank_query.specs.declared.season.Season.{Season}
use Rattle.rank_query.specs.declared.season.Season.TheVariants.{AllYear, Months, Dates}
use Rattle.rank_query.specs.Meaning.Asked.{Query}

-- a number lies from a first to a last edge, edges included: a longitude from west to east, or a month or a day in a
-- year. If the first edge is greater, the range goes over the date line or the turn of the year: the number lies from the
-- first edge on, or up to the last.
abbrev pub is_between_edges : ℤ → ℤ → ℤ → Bool
is_between_edges first last z =
    if int_le first last then int_le first z && int_le z last else int_le first z || int_le z last

-- the region holds the station
abbrev pub region_holds : Region → Station → Bool
region_holds Everywhere s = true
region_holds (Inside south west north east) s =
    int_le south s.latitude && int_le s.latitude north && is_between_edges west east s.longitude
region_holds (Country code) s = same_bytes (take 2 s.id.0) code
region_holds (State code) s = same_bytes s.state code
region_holds (Only id) s = same_id s.id id

-- the period holds the day; without one every day does
abbrev pub period_holds : Option (ℤ × ℤ) → ℤ → Bool
period_holds None day = true
period_holds (Some p) day = int_le p.0 day && int_le day p.1

-- the day of the year 2000, which has 29 February, with the month and the day of the month of a day
abbrev pub in_2000 : ℤ → ℤ
in_2000 day = days_from_civil (pos 2000) (civil day).1 (civil day).2

-- the season holds the day, by its month, or by its month and its day of the month
abbrev pub season_holds : Season → ℤ → Bool
season_holds AllYear day = true
season_holds (Months first last) day = is_between_edges (pos first) (pos last) (pos (civil day).1)
season_holds (Dates first last) day = is_between_edges first last (in_2000 day)

-- the query admits the day: it is in the years 1 to 9999, and the period and the season hold it
abbrev pub admits_day : Query → ℤ → Bool
admits_day q day = is_day day && period_holds q.period day && season_holds q.season day

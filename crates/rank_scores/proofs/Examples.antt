-- Worked examples, by computation.
use Rattle.std.proofs.Common.{true, ◌≡◌, ℕ, zero, suc, List, [], ◌∷◌, refl, Some, None, Option}
use Rattle.std.specs.Prelude.{codes, ℤ, pos, neg_ℤ, ◌+ℤ◌}
use Rattle.jiff_core.specs.Calendar.{days_from_civil, day_count, days_of_years, days_of_months}
use Rattle.ghcn_files.specs.declared.station.StationId.{StationId}
use Rattle.ghcn_files.specs.declared.element.Element.{Element}
use Rattle.ghcn_files.specs.declared.element.Element.TheVariants.{Tmax, Tmin, Prcp, Snow}
use Rattle.ghcn_fields.specs.Meaning.Dates.{year_and_rest, month_and_day}
use Rattle.ghcn_series.specs.Meaning.Series.{DayValue, Series}
use Rattle.ghcn_series.specs.Series.{Data}
use Rattle.rank_query.specs.declared.score.Score.{Score}
use Rattle.rank_query.specs.declared.score.Score.TheVariants.{Highest, Lowest, Sum, Dry, Wet, Hot, Cold}
use Rattle.rank_query.specs.declared.season.Season.TheVariants.{Months, Dates}
use Rattle.rank_query.specs.Meaning.Asked.{Query}
use Rattle.rank_query.specs.Asked.{top}
use Rattle.rank_scores.specs.Runs.{run_from}
use Rattle.rank_scores.specs.declared.candidate.Candidate.{Candidate}
use Rattle.rank_scores.specs.Candidates.{candidates}
use Rattle.rank_scores.specs.Meaning.Order.{precedes}
use Rattle.rank_scores.specs.Order.{best, kth_score}
use Rattle.rank_scores.specs.OneElement.{data_for}
use Rattle.rank_scores.specs.Spells.{first_with, ended_by}

-- the first station
abbrev pub id_a : StationId
id_a = record { 0 = codes "ZZA00000001" }

-- the second station
abbrev pub id_b : StationId
id_b = record { 0 = codes "ZZA00000002" }

-- the third station
abbrev pub id_c : StationId
id_c = record { 0 = codes "ZZA00000003" }

-- a series
abbrev pub series : StationId → Element → List DayValue → Series
series id e days = record { id = id; element = e; days = days }

-- a query without a region
abbrev pub ask : ℕ → Score → Option (ℤ × ℤ) → Query
ask k score period = record (top k score) { period = period }

-- a query of some months
abbrev pub ask_in : ℕ → Score → ℕ × ℕ → Query
ask_in k score season = record (top k score) { season = Months season.0 season.1 }

-- a query of some days of each year, from a first to a last day of the year 2000
abbrev pub ask_days : ℕ → Score → ℕ → ℕ → Query
ask_days k score first last = record (top k score) { season = Dates (pos first) (pos last) }

-- a candidate
abbrev pub found : StationId → ℤ → ℤ → ℤ → Candidate
found id first last score = record { id = id; first = first; last = last; score = score }

-- a value on each of n days from one on
abbrev pub each_day : ℤ → ℕ → ℤ → List DayValue
each_day day zero v = []
each_day day (suc n) v = (day, v) ∷ each_day (day +ℤ pos 1) n v

-- 2020-07-01 is day 18444
highest_one : candidates (ask 1 (Highest Tmax) None) (series id_a Tmax ((pos 18444, pos 311) ∷ []))
    ≡ found id_a (pos 18444) (pos 18444) (pos 311) ∷ []
highest_one = refl

-- three stations, the two best
two_best : best 2 (found id_b (pos 18444) (pos 18444) (pos 311) ∷ found id_a (pos 18444) (pos 18444) (pos 311) ∷
    found id_a (pos 18445) (pos 18445) (pos 305) ∷ [])
    ≡ found id_a (pos 18444) (pos 18444) (pos 311) ∷ found id_b (pos 18444) (pos 18444) (pos 311) ∷ []
two_best = refl

-- rain on three days, and on three after a missing one
abbrev pub rain : List DayValue
rain = (pos 18258, pos 10) ∷ (pos 18259, pos 20) ∷ (pos 18260, pos 30) ∷ (pos 18262, pos 5) ∷
    (pos 18263, pos 6) ∷ (pos 18264, pos 7) ∷ []

-- a gap ends a window: 2019-12-31 is missing
sum_with_gap : best 5 (candidates (ask 5 (Sum 3 Prcp) (Some (pos 18258, pos 18264))) (series id_a Prcp rain))
    ≡ found id_a (pos 18258) (pos 18260) (pos 60) ∷ found id_a (pos 18262) (pos 18264) (pos 18) ∷ []
sum_with_gap = refl

-- 34 days of rain over three blocks
long_sums : (candidates (ask 1 (Sum 33 Prcp) None) (series id_a Prcp (each_day (pos 18463) 34 (pos 10)))
    ≡ found id_a (pos 18463) (pos 18495) (pos 330) ∷ found id_a (pos 18464) (pos 18496) (pos 330) ∷ [])
    × (candidates (ask 1 (Sum 34 Prcp) None) (series id_a Prcp (each_day (pos 18463) 34 (pos 10)))
    ≡ found id_a (pos 18463) (pos 18496) (pos 340) ∷ [])
long_sums = (refl, refl)

-- a day without rain, one of 0.9 mm, two of 1 mm and one of 0.9 mm
abbrev pub mixed : List DayValue
mixed = (pos 18444, pos 0) ∷ (pos 18445, pos 9) ∷ (pos 18446, pos 10) ∷ (pos 18447, pos 10) ∷ (pos 18448, pos 9) ∷ []

-- spells around two wet days
dry_spells : best 3 (candidates (ask 3 Dry None) (series id_a Prcp mixed))
    ≡ found id_a (pos 18444) (pos 18445) (pos 2) ∷ found id_a (pos 18448) (pos 18448) (pos 1) ∷ []
unfolding run_from
dry_spells = refl

-- the wet spell between them
wet_spells : candidates (ask 3 Wet None) (series id_a Prcp mixed) ≡ found id_a (pos 18446) (pos 18447) (pos 2) ∷ []
unfolding run_from
wet_spells = refl

-- a period cuts a spell
cut_spell : candidates (ask 2 Dry (Some (pos 18448, pos 18453))) (series id_a Prcp (each_day (pos 18444) 31 (pos 0)))
    ≡ found id_a (pos 18448) (pos 18453) (pos 6) ∷ []
unfolding run_from
cut_spell = refl

-- warm days of which the third isn't hot
abbrev pub warm : List DayValue
warm = (pos 18444, pos 300) ∷ (pos 18445, pos 310) ∷ (pos 18446, pos 299) ∷ (pos 18447, pos 305) ∷ []

-- spells of 30 degrees and more
hot_spells : best 2 (candidates (ask 2 (Hot (pos 300)) None) (series id_a Tmax warm))
    ≡ found id_a (pos 18444) (pos 18445) (pos 2) ∷ found id_a (pos 18447) (pos 18447) (pos 1) ∷ []
unfolding run_from
hot_spells = refl

-- frost of one station, of which the third day isn't below -10 degrees, and of another over a leap day
abbrev pub frost_a : Series
frost_a = series id_a Tmin ((pos 18262, neg_ℤ (pos 100)) ∷ (pos 18263, neg_ℤ (pos 105)) ∷
    (pos 18264, neg_ℤ (pos 99)) ∷ (pos 18265, neg_ℤ (pos 110)) ∷ [])

-- 2020-02-29 is day 18321
abbrev pub frost_b : Series
frost_b = series id_b Tmin ((pos 18321, neg_ℤ (pos 150)) ∷ (pos 18322, neg_ℤ (pos 120)) ∷ [])

-- spells of -10 degrees and less
cold_spells : (candidates (ask 3 (Cold (neg_ℤ (pos 100))) None) frost_a
    ≡ found id_a (pos 18262) (pos 18263) (pos 2) ∷ found id_a (pos 18265) (pos 18265) (pos 1) ∷ [])
    × (candidates (ask 3 (Cold (neg_ℤ (pos 100))) None) frost_b ≡ found id_b (pos 18321) (pos 18322) (pos 2) ∷ [])
    × (candidates (ask 3 (Cold (neg_ℤ (pos 111))) None) frost_a ≡ [])
unfolding run_from
cold_spells = (refl, refl, refl)

-- the best of both
cold_best : best 3 (found id_a (pos 18262) (pos 18263) (pos 2) ∷ found id_a (pos 18265) (pos 18265) (pos 1)
    ∷ found id_b (pos 18321) (pos 18322) (pos 2) ∷ [])
    ≡ found id_a (pos 18262) (pos 18263) (pos 2) ∷ found id_b (pos 18321) (pos 18322) (pos 2)
    ∷ found id_a (pos 18265) (pos 18265) (pos 1) ∷ []
cold_best = refl

-- rain over the turn of a year
abbrev pub winter_rain : List DayValue
winter_rain = (pos 18258, pos 10) ∷ (pos 18259, pos 20) ∷ (pos 18260, pos 30) ∷ (pos 18261, pos 40) ∷
    (pos 18262, pos 5) ∷ (pos 18263, pos 6) ∷ (pos 18264, pos 7) ∷ []

-- December and January are neighbours, and without one of them a window ends with the year
winter_sums : (best 2 (candidates (ask_in 2 (Sum 3 Prcp) (12, 1)) (series id_a Prcp winter_rain))
    ≡ found id_a (pos 18259) (pos 18261) (pos 90) ∷ found id_a (pos 18260) (pos 18262) (pos 75) ∷ [])
    × (best 2 (candidates (ask_in 2 (Sum 3 Prcp) (1, 1)) (series id_a Prcp winter_rain))
    ≡ found id_a (pos 18262) (pos 18264) (pos 18) ∷ [])
    × (candidates (ask_in 2 (Sum 3 Prcp) (2, 11)) (series id_a Prcp winter_rain) ≡ [])
unfolding year_and_rest month_and_day
winter_sums = (refl, refl, refl)

-- a season cuts a spell: 2020-06-29 to 2020-07-02 in June
june_spell : candidates (ask_in 2 Dry (6, 6)) (series id_a Prcp (each_day (pos 18442) 4 (pos 0)))
    ≡ found id_a (pos 18442) (pos 18443) (pos 2) ∷ []
unfolding run_from year_and_rest month_and_day
june_spell = refl

-- so does one of days: 1 July alone, and 30 June to 1 July
july_spell : (candidates (ask_days 2 Dry 11_139 11_139) (series id_a Prcp (each_day (pos 18442) 4 (pos 0)))
    ≡ found id_a (pos 18444) (pos 18444) (pos 1) ∷ [])
    × (candidates (ask_days 2 Dry 11_138 11_139) (series id_a Prcp (each_day (pos 18442) 4 (pos 0)))
    ≡ found id_a (pos 18443) (pos 18444) (pos 2) ∷ [])
unfolding run_from year_and_rest month_and_day days_from_civil day_count days_of_years days_of_months
july_spell = (refl, refl)

-- 2 July of 2019, 2020 and 2021, of two stations
second_of_july : (candidates (ask_days 2 (Highest Tmax) 11_140 11_140)
    (series id_a Tmax ((pos 18_079, pos 311) ∷ (pos 18_444, pos 311) ∷ (pos 18_628, pos 70) ∷ []))
    ≡ found id_a (pos 18_079) (pos 18_079) (pos 311) ∷ [])
    × (candidates (ask_days 2 (Highest Tmax) 11_140 11_140)
    (series id_b Tmax ((pos 18_444, pos 320) ∷ (pos 18_445, pos 318) ∷ []))
    ≡ found id_b (pos 18_445) (pos 18_445) (pos 318) ∷ [])
unfolding year_and_rest month_and_day days_from_civil day_count days_of_years days_of_months
second_of_july = (refl, refl)

-- sums over the turn of the year, 31 December and 1 January: 2019-12-30 to 2020-01-02
new_year_sums : candidates (ask_days 2 (Sum 2 Prcp) 11_322 10_957) (series id_c Prcp
    ((pos 18_260, pos 100) ∷ (pos 18_261, pos 200) ∷ (pos 18_262, pos 300) ∷ (pos 18_263, pos 50) ∷ []))
    ≡ found id_c (pos 18_261) (pos 18_262) (pos 500) ∷ []
unfolding run_from year_and_rest month_and_day days_from_civil day_count days_of_years days_of_months
new_year_sums = refl

-- the end of February of 2020 and 2021
abbrev pub february_rain : List DayValue
february_rain = (pos 18_320, pos 120) ∷ (pos 18_321, pos 130) ∷ (pos 18_322, pos 20) ∷ (pos 18_686, pos 90) ∷
    (pos 18_687, pos 80) ∷ []

-- in a common year 28 February and 1 March are neighbours, and in a leap year 29 February is between them
leap_sums : best 3 (candidates (ask_days 3 (Sum 2 Prcp) 11_015 11_017) (series id_a Prcp february_rain))
    ≡ found id_a (pos 18_320) (pos 18_321) (pos 250) ∷ found id_a (pos 18_686) (pos 18_687) (pos 170) ∷
    found id_a (pos 18_321) (pos 18_322) (pos 150) ∷ []
unfolding run_from year_and_rest month_and_day days_from_civil day_count days_of_years days_of_months
leap_sums = refl

-- leap days alone
leap_days : candidates (ask_days 3 (Highest Prcp) 11_016 11_016) (series id_a Prcp february_rain)
    ≡ found id_a (pos 18_321) (pos 18_321) (pos 130) ∷ []
unfolding year_and_rest month_and_day days_from_civil day_count days_of_years days_of_months
leap_days = refl

-- below and above zero, the lowest first
lowest : best 2 (candidates (ask 2 (Lowest Tmin) None)
    (series id_a Tmin ((pos 18444, neg_ℤ (pos 5)) ∷ (pos 18445, pos 3) ∷ [])))
    ≡ found id_a (pos 18444) (pos 18444) (pos 5) ∷ found id_a (pos 18445) (pos 18445) (neg_ℤ (pos 3)) ∷ []
lowest = refl

-- windows of one day are single days
snow_sums : best 3 (candidates (ask 3 (Sum 1 Snow) None)
    (series id_a Snow ((pos 18262, pos 10) ∷ (pos 18263, pos 20) ∷ (pos 18265, pos 30) ∷ [])))
    ≡ found id_a (pos 18265) (pos 18265) (pos 30) ∷ found id_a (pos 18263) (pos 18263) (pos 20) ∷
    found id_a (pos 18262) (pos 18262) (pos 10) ∷ []
snow_sums = refl

-- one candidate has no second best
none_of_two : kth_score 2 (found id_a (pos 1) (pos 1) (pos 5) ∷ []) ≡ None
none_of_two = refl

-- the second best score of three stations
second_of_three : kth_score 2 (found id_b (pos 18444) (pos 18444) (pos 311) ∷
    found id_c (pos 18444) (pos 18444) (pos 250) ∷ found id_a (pos 18445) (pos 18445) (pos 305) ∷ [])
    ≡ Some (pos 305)
second_of_three = refl

-- there is no candidate before the first
no_zeroth : kth_score 0 (found id_a (pos 1) (pos 1) (pos 5) ∷ []) ≡ None
no_zeroth = refl

-- of equal scores the smaller ID precedes, though its day is later
station_before_day :
    precedes (found id_a (pos 18445) (pos 18445) (pos 311)) (found id_b (pos 18444) (pos 18444) (pos 311)) ≡ true
station_before_day = refl

-- rain and heat of one station
abbrev pub rain_and_heat : Data
rain_and_heat = record {
  stations = [];
  series = series id_a Prcp rain ∷ series id_a Tmax ((pos 18444, pos 311) ∷ []) ∷ [];
  unlisted = 0;
}

-- a query of heat needs the heat, and one of dry days the rain
needed_series : ((data_for (ask 1 (Highest Tmax) None) rain_and_heat).series
    ≡ series id_a Tmax ((pos 18444, pos 311) ∷ []) ∷ [])
    × ((data_for (ask 1 Dry None) rain_and_heat).series ≡ series id_a Prcp rain ∷ [])
needed_series = (refl, refl)

-- the day right after an open spell belongs to it, and a later day ends it
day_after_spell : (first_with (Some (pos 0, pos 4)) (pos 5) ≡ pos 0)
    × (ended_by id_a (Some (pos 0, pos 4)) (pos 5) ≡ [])
    × (first_with (Some (pos 0, pos 4)) (pos 6) ≡ pos 6)
    × (ended_by id_a (Some (pos 0, pos 4)) (pos 6) ≡ found id_a (pos 0) (pos 4) (pos 5) ∷ [])
day_after_spell = (refl, refl, refl, refl)

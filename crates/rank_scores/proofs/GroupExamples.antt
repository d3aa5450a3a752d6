-- Worked examples of groups, by computation.
use Rattle.std.proofs.Common.{◌≡◌, true, false, [], ◌∷◌, ◌++◌, List, refl, None, Some}
use Rattle.std.specs.Prelude.{pos, neg_ℤ}
use Rattle.ghcn_files.specs.declared.element.Element.TheVariants.{Tmax, Tmin, Prcp}
use Rattle.ghcn_fields.specs.Meaning.Dates.{year_and_rest, month_and_day}
use Rattle.jiff_core.specs.Calendar.{days_from_civil, day_count, days_of_years, days_of_months}
use Rattle.ghcn_series.specs.Meaning.Series.{Series}
use Rattle.rank_query.specs.declared.per.Per.{Per}
use Rattle.rank_query.specs.declared.per.Per.TheVariants.{Each, Station, Year}
use Rattle.rank_query.specs.declared.score.Score.TheVariants.{Highest, Wet, Cold}
use Rattle.rank_query.specs.declared.season.Season.TheVariants.{Months}
use Rattle.rank_query.specs.Meaning.Asked.{Query}
use Rattle.rank_query.specs.Asked.{top}
use Rattle.rank_scores.specs.Runs.{run_from}
use Rattle.rank_scores.specs.declared.candidate.Candidate.{Candidate}
use Rattle.rank_scores.specs.Candidates.{candidates}
use Rattle.rank_scores.specs.Meaning.Groups.{same_group, are_rivals}
use Rattle.rank_scores.specs.Leading.{group_end}
use Rattle.rank_scores.specs.Order.{best, kth_score}
use Rattle.rank_scores.proofs.Examples.{id_a, id_b, id_c, series, found}

-- the hottest days, of each group the best alone
abbrev hottest : Per → Query
hottest per = record (top 3 (Highest Tmax)) { per = per }

-- the heat of three stations: of the first on 2019-07-02, 2020-07-01 and 2021-01-01
abbrev heat_a : Series
heat_a = series id_a Tmax ((pos 18079, pos 311) ∷ (pos 18444, pos 311) ∷ (pos 18628, pos 70) ∷ [])

-- of the second on 2020-07-01 and the day after
abbrev heat_b : Series
heat_b = series id_b Tmax ((pos 18444, pos 320) ∷ (pos 18445, pos 318) ∷ [])

-- and of the third on 2020-07-01
abbrev heat_c : Series
heat_c = series id_c Tmax ((pos 18444, pos 250) ∷ [])

-- all candidates
abbrev all_hottest : Per → List Candidate
all_hottest per = candidates (hottest per) heat_a ++ candidates (hottest per) heat_b ++ candidates (hottest per) heat_c

-- of each station the hottest day, of equal ones the first
hottest_of_stations : (best 2 (all_hottest Station)
    ≡ found id_b (pos 18444) (pos 18444) (pos 320) ∷ found id_a (pos 18079) (pos 18079) (pos 311) ∷ [])
    × (kth_score 2 (all_hottest Station) ≡ Some (pos 311)) × (kth_score 4 (all_hottest Station) ≡ None)
unfolding year_and_rest month_and_day
hottest_of_stations = (refl, refl, refl)

-- of each year of a station
hottest_of_years : (best 3 (all_hottest Year)
    ≡ found id_b (pos 18444) (pos 18444) (pos 320) ∷ found id_a (pos 18079) (pos 18079) (pos 311)
    ∷ found id_a (pos 18444) (pos 18444) (pos 311) ∷ [])
    × (best 9 (candidates (hottest Year) heat_a)
    ≡ found id_a (pos 18079) (pos 18079) (pos 311) ∷ found id_a (pos 18444) (pos 18444) (pos 311)
    ∷ found id_a (pos 18628) (pos 18628) (pos 70) ∷ [])
unfolding year_and_rest month_and_day
hottest_of_years = (refl, refl)

-- without a group each day
hottest_days : candidates (hottest Each) heat_b
    ≡ found id_b (pos 18444) (pos 18444) (pos 320) ∷ found id_b (pos 18445) (pos 18445) (pos 318) ∷ []
hottest_days = refl

-- frost of March, of 2020-02-29 and the day after
march_frost : candidates (record (top 2 (Cold (neg_ℤ (pos 100)))) { season = Months 3 3; per = Station })
    (series id_b Tmin ((pos 18321, neg_ℤ (pos 150)) ∷ (pos 18322, neg_ℤ (pos 120)) ∷ []))
    ≡ found id_b (pos 18322) (pos 18322) (pos 1) ∷ []
unfolding run_from year_and_rest month_and_day
march_frost = refl

-- a wet spell of 2019-12-30 to 2020-01-02 belongs to the year in which it begins, and leaves 2020 to another
new_year : candidates (record (top 9 Wet) { per = Year }) (series id_c Prcp
    ((pos 18260, pos 100) ∷ (pos 18261, pos 200) ∷ (pos 18262, pos 300) ∷ (pos 18263, pos 50) ∷ (pos 18265, pos 10) ∷ []))
    ≡ found id_c (pos 18260) (pos 18263) (pos 4) ∷ found id_c (pos 18265) (pos 18265) (pos 1) ∷ []
unfolding run_from year_and_rest month_and_day
new_year = refl

-- 2019-12-31 and 2020-01-01 are of one station, and not of one year; 2020-01-01 and 2020-12-31 are
days_of_groups : (same_group Station (pos 18261) (pos 18262) ≡ true) × (same_group Year (pos 18261) (pos 18262) ≡ false)
    × (same_group Year (pos 18262) (pos 18627) ≡ true) × (same_group Each (pos 18262) (pos 18262) ≡ false)
unfolding year_and_rest month_and_day
days_of_groups = (refl, refl, refl, refl)

-- days of two stations are never rivals
stations_apart : are_rivals Station (found id_a (pos 1) (pos 1) (pos 5)) (found id_b (pos 1) (pos 1) (pos 5)) ≡ false
stations_apart = refl

-- 2020 ends on its 366th day
year_ends : (group_end Year (pos 18262) ≡ pos 18627) × (group_end Year (pos 18627) ≡ pos 18627)
    × (group_end Year (pos 18261) ≡ pos 18261)
unfolding year_and_rest month_and_day days_from_civil day_count days_of_years days_of_months
year_ends = (refl, refl, refl)

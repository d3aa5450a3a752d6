-- Worked examples, by computation.
use Rattle.rank_query.proofs.Cited.{◌≡◌, ℕ, [], ◌∷◌, ◌++◌, refl, Some, Ok, Err, codes, pos, neg_ℤ, ℤ, days_from_civil}
use Rattle.rank_query.proofs.Cited.{day_count, days_of_years, days_of_months, Tmax, Tmin, Prcp, Score, Highest, Lowest}
use Rattle.rank_query.proofs.Cited.{Sum, Dry, Wet, Hot, Cold, Region, Inside, Country, Season, Months, Dates, State}
use Rattle.rank_query.proofs.Cited.{Only, UnexpectedWord, QueryEnds, OutOfLimits, BadDate, BadBox, EmptyPeriod, Query}
use Rattle.rank_query.proofs.Cited.{words_of, says, keyword, number, element, heat, months, dates, degrees, code, date}
use Rattle.rank_query.proofs.Cited.{sum_at, no_score_at, score_at, box_at, region_at, season_at, days_at, period_at}
use Rattle.rank_query.proofs.Cited.{per_at, read_words, read_query, group, Station as ByStation, Year as ByYear}
use Rattle.rank_query.specs.Asked.{top}

-- a query of a region and all days
abbrev pub asked_in : Region → ℕ → Score → Query
asked_in r k s = record (top k s) { region = r }

-- the words of a text, whatever the blanks
words : words_of (codes "  top 007  highest TMAX ") ≡ codes "top" ∷ codes "007" ∷ codes "highest" ∷ codes "TMAX" ∷ []
words = refl

-- a blank alone separates words, and neither a tab nor a return does
no_blanks : (read_query (codes "top" ++ 9 ∷ codes "1 wet") ≡ Err (UnexpectedWord 1))
    × (read_query (codes "top 1" ++ 9 ∷ codes " wet") ≡ Err (UnexpectedWord 2))
    × (read_query (codes "top 1 wet" ++ 13 ∷ []) ≡ Err (UnexpectedWord 3))
unfolding read_query read_words keyword says number score_at no_score_at region_at season_at period_at per_at
no_blanks = (refl, refl, refl)

-- texts that are read
read : (read_query (codes "top 1000 highest TMAX") ≡ Ok (top 1000 (Highest Tmax)))
    × (read_query (codes " top  0001 highest   PRCP ") ≡ Ok (top 1 (Highest Prcp)))
unfolding read_query read_words keyword says number element score_at no_score_at region_at season_at period_at per_at
read = (refl, refl)

-- k is from 1 to 1000, however many digits it has
pub out_of_limits : (read_query (codes "top 1001 highest TMAX") ≡ Err (OutOfLimits 2))
    × (read_query (codes "top 0 highest TMAX") ≡ Err (OutOfLimits 2))
    × (read_query (codes "top 18446744073709551617 highest TMAX") ≡ Err (OutOfLimits 2))
unfolding read_query read_words keyword says number element score_at no_score_at region_at season_at period_at per_at
out_of_limits = (refl, refl, refl)

-- a word is needed and there is none
pub ends : (read_query (codes "top 1") ≡ Err QueryEnds) × (read_query [] ≡ Err QueryEnds)
    × (read_query (codes "top 1 highest") ≡ Err QueryEnds)
unfolding read_query read_words keyword says number element score_at no_score_at region_at season_at period_at per_at
ends = (refl, refl, refl)

-- a word that can't be there
unexpected : (read_query (codes "Top 1 highest TMAX") ≡ Err (UnexpectedWord 1))
    × (read_query (codes "top +1 highest TMAX") ≡ Err (UnexpectedWord 2))
    × (read_query (codes "top 1 highest TAVG") ≡ Err (UnexpectedWord 4))
    × (read_query (codes "top 1 highest TMAX TMAX") ≡ Err (UnexpectedWord 5))
unfolding read_query read_words keyword says number element score_at no_score_at region_at season_at period_at per_at
unexpected = (refl, refl, refl, refl)

-- the other scores
scores : (read_query (codes "top 2 lowest TMIN") ≡ Ok (top 2 (Lowest Tmin)))
    × (read_query (codes "top 1 sum 366 PRCP") ≡ Ok (top 1 (Sum 366 Prcp)))
    × (read_query (codes "top  007 wet") ≡ Ok (top 7 Wet)) × (read_query (codes "top 3 dry ") ≡ Ok (top 3 Dry))
unfolding read_query read_words keyword says number element score_at sum_at no_score_at region_at season_at period_at per_at
scores = (refl, refl, refl, refl)

-- lowest values are of temperatures, and sums of rain or snow over 1 to 366 days
pub scores_refused : (read_query (codes "top 1 lowest PRCP") ≡ Err (UnexpectedWord 4))
    × (read_query (codes "top 1 sum 367 PRCP") ≡ Err (OutOfLimits 4))
    × (read_query (codes "top 1 sum 0 PRCP") ≡ Err (OutOfLimits 4))
    × (read_query (codes "top 1 sum 3 SNWD") ≡ Err (UnexpectedWord 5))
    × (read_query (codes "top 1 sum PRCP") ≡ Err (UnexpectedWord 4))
    × (read_query (codes "top 1 hotter 30") ≡ Err (UnexpectedWord 3))
    × (read_query (codes "top 1 dry PRCP") ≡ Err (UnexpectedWord 4))
unfolding read_query read_words keyword says number element score_at sum_at no_score_at region_at season_at period_at per_at
scores_refused = (refl, refl, refl, refl, refl, refl, refl)

-- the first of several errors of a box is reported at its word: no latitude and no longitude,
-- the north south of the south, and then nothing more
pub boxes_refused : (read_query (codes "top 1 highest TMAX box -91 0 10 10") ≡ Err (BadBox 6))
    × (read_query (codes "top 1 highest TMAX box 10 0 -10") ≡ Err (BadBox 8))
    × (read_query (codes "top 1 highest TMAX box 0 181 0 x") ≡ Err (BadBox 7))
    × (read_query (codes "top 1 highest TMAX box 0 0 0 1.00000") ≡ Err (BadBox 9))
    × (read_query (codes "top 1 highest TMAX box 0 0 0") ≡ Err QueryEnds)
unfolding read_query read_words keyword says number element score_at no_score_at region_at season_at period_at per_at box_at
    degrees
boxes_refused = (refl, refl, refl, refl, refl)

-- wet spells in a box
abbrev pub in_box_of : ℤ → ℤ → ℤ → ℤ → Query
in_box_of south west north east = asked_in (Inside south west north east) 1 Wet

-- a box over the date line, and one at the edges of the world
boxes_read : (read_query (codes "top 3 highest TMAX box -10 170 10.0000 -170") ≡ Ok
    (asked_in (Inside (neg_ℤ (pos 100_000)) (pos 1_700_000) (pos 100_000) (neg_ℤ (pos 1_700_000))) 3 (Highest Tmax)))
    × (read_query (codes "top 3 highest TMAX box -90 -180.0 0090 180.0000") ≡ Ok
    (asked_in (Inside (neg_ℤ (pos 900_000)) (neg_ℤ (pos 1_800_000)) (pos 900_000) (pos 1_800_000)) 3 (Highest Tmax)))
unfolding read_query read_words keyword says number element score_at no_score_at region_at season_at period_at per_at box_at
    degrees
boxes_read = (refl, refl)

-- the edges of the world in each place of a box, and a box of one point
at_the_edges : (read_query (codes "top 1 wet box 90 180 90 -180") ≡ Ok
    (in_box_of (pos 900_000) (pos 1_800_000) (pos 900_000) (neg_ℤ (pos 1_800_000))))
    × (read_query (codes "top 1 wet box -90.0000 -180.0000 -90 180") ≡ Ok
    (in_box_of (neg_ℤ (pos 900_000)) (neg_ℤ (pos 1_800_000)) (neg_ℤ (pos 900_000)) (pos 1_800_000)))
    × (read_query (codes "top 1 wet box 12 22 12.0 22.00") ≡ Ok
    (in_box_of (pos 120_000) (pos 220_000) (pos 120_000) (pos 220_000)))
unfolding read_query read_words keyword says number score_at no_score_at region_at season_at period_at per_at box_at degrees
at_the_edges = (refl, refl, refl)

-- past them by the last decimal; a point without decimals, and decimals without a digit before them
past_the_world : (read_query (codes "top 1 wet box -90.0001 0 0 0") ≡ Err (BadBox 5))
    × (read_query (codes "top 1 wet box 90.0001 0 0 0") ≡ Err (BadBox 5))
    × (read_query (codes "top 1 wet box 0 -180.0001 0 0") ≡ Err (BadBox 6))
    × (read_query (codes "top 1 wet box 0 180.0001 0 0") ≡ Err (BadBox 6))
    × (read_query (codes "top 1 wet box 0 0 90.0001 0") ≡ Err (BadBox 7))
    × (read_query (codes "top 1 wet box 0 0 0 -180.0001") ≡ Err (BadBox 8))
    × (read_query (codes "top 1 wet box 0 0 0 180.0001") ≡ Err (BadBox 8))
    × (read_query (codes "top 1 wet box 1. 0 2 0") ≡ Err (BadBox 5))
    × (read_query (codes "top 1 wet box .5 0 2 0") ≡ Err (BadBox 5))
unfolding read_query read_words keyword says number score_at no_score_at region_at season_at period_at per_at box_at degrees
past_the_world = (refl, refl, refl, refl, refl, refl, refl, refl, refl)

-- a northern edge one ten-thousandth south of the southern one, and a word that isn't a number, before what follows
turned : (read_query (codes "top 1 wet box 1 0 0.9999 181") ≡ Err (BadBox 7))
    × (read_query (codes "top 1 wet box south 0 95 0") ≡ Err (BadBox 5))
unfolding read_query read_words keyword says number score_at no_score_at region_at season_at period_at per_at box_at degrees
turned = (refl, refl)

-- codes of another length, and bytes that don't show in print
codes_refused : (read_query (codes "top 1 highest TMAX country ZZZ") ≡ Err (UnexpectedWord 6))
    × (read_query (codes "top 1 highest TMAX state N") ≡ Err (UnexpectedWord 6))
    × (read_query (codes "top 1 highest TMAX station ZZA0000000") ≡ Err (UnexpectedWord 6))
    × (read_query (codes "top 1 highest TMAX country" ++ 32 ∷ 127 ∷ 33 ∷ []) ≡ Err (UnexpectedWord 6))
    × (read_query (codes "top 1 highest TMAX state NY country ZZ") ≡ Err (UnexpectedWord 7))
unfolding read_query read_words keyword says number element score_at no_score_at region_at season_at period_at per_at code
codes_refused = (refl, refl, refl, refl, refl)

-- a letter of two bytes isn't a code, and neither is a control byte; the first and the last byte that show in print are
no_codes : (read_query (codes "top 1 wet country " ++ 195 ∷ 169 ∷ []) ≡ Err (UnexpectedWord 5))
    × (read_query (codes "top 1 wet state N" ++ 1 ∷ []) ≡ Err (UnexpectedWord 5))
    × (read_query (codes "top 1 wet state N" ++ 128 ∷ []) ≡ Err (UnexpectedWord 5))
    × (read_query (codes "top 1 wet station ZZA0000000" ++ 127 ∷ []) ≡ Err (UnexpectedWord 5))
    × (read_query (codes "top 1 wet state !~") ≡ Ok
    (asked_in (State (codes "!~")) 1 Wet))
unfolding read_query read_words keyword says number element score_at no_score_at region_at season_at period_at per_at code
no_codes = (refl, refl, refl, refl, refl)

-- codes that are read
codes_read : (read_query (codes "top 1 highest TMAX state NY") ≡ Ok
    (asked_in (State (codes "NY")) 1 (Highest Tmax)))
    × (read_query (codes "top 1 highest TMAX country from") ≡ Err (UnexpectedWord 6))
    × (read_query (codes "top 1 highest TMAX country ZZ") ≡ Ok
    (asked_in (Country (codes "ZZ")) 1 (Highest Tmax)))
    × (read_query (codes "top 1 highest TMAX station ZZA00000003") ≡ Ok
    (asked_in (Only (record { 0 = codes "ZZA00000003" })) 1 (Highest Tmax)))
unfolding read_query read_words keyword says number element score_at no_score_at region_at season_at period_at per_at code
codes_read = (refl, refl, refl, refl)

-- degrees, with a minus or without, and with one decimal at most
heats_read : (read_query (codes "top 2 hot 30") ≡ Ok (top 2 (Hot (pos 300))))
    × (read_query (codes "top 1 hot -0") ≡ Ok (top 1 (Hot (pos 0))))
    × (read_query (codes "top 1 hot -00.5") ≡ Ok (top 1 (Hot (neg_ℤ (pos 5)))))
    × (read_query (codes "top 1 hot 100.0") ≡ Ok (top 1 (Hot (pos 1_000))))
unfolding read_query read_words keyword says number heat score_at no_score_at region_at season_at period_at per_at
heats_read = (refl, refl, refl, refl)

-- from -100 to 100 degrees, however many digits there are
heats_refused : (read_query (codes "top 1 hot 100.1") ≡ Err (OutOfLimits 4))
    × (read_query (codes "top 1 hot -100.1") ≡ Err (OutOfLimits 4))
    × (read_query (codes "top 1 hot 99999999999999999999") ≡ Err (OutOfLimits 4))
    × (read_query (codes "top 1 hot 30.05") ≡ Err (UnexpectedWord 4))
    × (read_query (codes "top 1 hot 30.") ≡ Err (UnexpectedWord 4))
    × (read_query (codes "top 1 hot +30") ≡ Err (UnexpectedWord 4)) × (read_query (codes "top 1 hot") ≡ Err QueryEnds)
unfolding read_query read_words keyword says number heat score_at no_score_at region_at season_at period_at per_at
heats_refused = (refl, refl, refl, refl, refl, refl, refl)

-- degrees of cold days are written as those of hot ones, and "cold" needs them
colds_read : (read_query (codes "top 3 cold -10") ≡ Ok (top 3 (Cold (neg_ℤ (pos 100)))))
    × (read_query (codes "top 1 cold 0.5") ≡ Ok (top 1 (Cold (pos 5))))
    × (read_query (codes "top 1 cold -100.1") ≡ Err (OutOfLimits 4))
    × (read_query (codes "top 1 cold 100.1") ≡ Err (OutOfLimits 4))
    × (read_query (codes "top 1 cold -10.05") ≡ Err (UnexpectedWord 4))
    × (read_query (codes "top 1 cold") ≡ Err QueryEnds) × (read_query (codes "top 1 colder 0") ≡ Err (UnexpectedWord 3))
unfolding read_query read_words keyword says number heat score_at no_score_at region_at season_at period_at per_at
colds_read = (refl, refl, refl, refl, refl, refl, refl)

-- dry days of a season
abbrev dry_in : Season → Query
dry_in s = record (top 1 Dry) { season = s }

-- of some months
abbrev pub dry_months : ℕ → ℕ → Query
dry_months first last = dry_in (Months first last)

-- and of some days of the year 2000, from a first to a last one
abbrev pub dry_days : ℤ → ℤ → Query
dry_days first last = dry_in (Dates first last)

-- seasons, of one year or over its turn
seasons_read : (read_query (codes "top 1 dry months 6..6") ≡ Ok (dry_months 6 6))
    × (read_query (codes "top 1 dry months 012..02") ≡ Ok (dry_months 12 2))
unfolding read_query read_words keyword says number months score_at no_score_at region_at season_at period_at per_at
seasons_read = (refl, refl)

-- two numbers of 1 to 12 with two points between them, before a period
seasons_refused : (read_query (codes "top 1 dry months 0..3") ≡ Err (OutOfLimits 5))
    × (read_query (codes "top 1 dry months 1..13") ≡ Err (OutOfLimits 5))
    × (read_query (codes "top 1 dry months 1-3") ≡ Err (UnexpectedWord 5))
    × (read_query (codes "top 1 dry months 1.3") ≡ Err (UnexpectedWord 5))
    × (read_query (codes "top 1 dry months 1...3") ≡ Err (UnexpectedWord 5))
    × (read_query (codes "top 1 dry months ..3") ≡ Err (UnexpectedWord 5))
    × (read_query (codes "top 1 dry months") ≡ Err QueryEnds)
unfolding read_query read_words keyword says number months score_at no_score_at region_at season_at period_at per_at
seasons_refused = (refl, refl, refl, refl, refl, refl, refl)

-- seasons of days: 1 July alone, 15 December to 15 January, 29 February alone, all days but that
days_read : (read_query (codes "top 1 dry days 07-01..07-01") ≡ Ok (dry_days (pos 11_139) (pos 11_139)))
    × (read_query (codes " top 1  dry days 12-15..01-15 ") ≡ Ok (dry_days (pos 11_306) (pos 10_971)))
    × (read_query (codes "top 1 dry days 02-29..02-29") ≡ Ok (dry_days (pos 11_016) (pos 11_016)))
    × (read_query (codes "top 1 dry days 03-01..02-28") ≡ Ok (dry_days (pos 11_017) (pos 11_015)))
unfolding read_query read_words keyword says number dates score_at no_score_at region_at season_at period_at per_at
    days_from_civil day_count days_of_years days_of_months
days_read = (refl, refl, refl, refl)

-- another word isn't two days, whatever form it has; a season comes once, before a period
days_refused : (read_query (codes "top 1 dry days 02-30..03-01") ≡ Err (BadDate 5))
    × (read_query (codes "top 1 dry days 07-01") ≡ Err (BadDate 5))
    × (read_query (codes "top 1 dry days 7-1..7-31") ≡ Err (BadDate 5))
    × (read_query (codes "top 1 dry days 07-01...7-31") ≡ Err (BadDate 5))
    × (read_query (codes "top 1 dry days 6..8") ≡ Err (BadDate 5))
    × (read_query (codes "top 1 dry days 2020-07-01..2020-07-31") ≡ Err (BadDate 5))
    × (read_query (codes "top 1 dry days") ≡ Err QueryEnds)
    × (read_query (codes "top 1 dry days 12-15..01-15 months 1..2") ≡ Err (UnexpectedWord 6))
    × (read_query (codes "top 1 dry months 1..2 days 12-15..01-15") ≡ Err (UnexpectedWord 6))
    × (read_query (codes "top 1 dry from 2020-07-01 to 2020-07-01 days 12-15..01-15") ≡ Err (UnexpectedWord 8))
unfolding read_query read_words keyword says number months dates score_at no_score_at region_at season_at period_at per_at
    days_at date days_from_civil day_count days_of_years days_of_months
days_refused = (refl, refl, refl, refl, refl, refl, refl, refl, refl, refl)

-- no dates
pub dates_refused : (read_query (codes "top 1 highest TMAX from 2019-02-29 to 2019-03-01") ≡ Err (BadDate 6))
    × (read_query (codes "top 1 highest TMAX from 2020-07-01 2020-07-02") ≡ Err (UnexpectedWord 7))
    × (read_query (codes "top 1 highest TMAX from 2020-07-01 to") ≡ Err QueryEnds)
unfolding read_query read_words keyword says number element score_at no_score_at region_at season_at period_at per_at days_at
    date
dates_refused = (refl, refl, refl)

-- dry days of a period
abbrev pub dry_from : ℤ → ℤ → Query
dry_from first last = record (top 1 Dry) { period = Some (first, last) }

-- a period from a day to itself, one that ends before it begins, reported before a word too many, and a word too many
periods : (read_query (codes "top 1 dry from 2020-07-01 to 2020-07-01") ≡ Ok (dry_from (pos 18444) (pos 18444)))
    × (read_query (codes "top 1 dry from 2020-07-02 to 2020-07-01 now") ≡ Err EmptyPeriod)
    × (read_query (codes "top 1 dry from 2020-07-01 to 2020-07-01 now") ≡ Err (UnexpectedWord 8))
unfolding read_query read_words keyword says number score_at no_score_at region_at season_at period_at per_at days_at date
    days_from_civil day_count days_of_years days_of_months
periods = (refl, refl, refl)

-- region, season and period come in this order
in_order : (read_query (codes "top 1 dry months 6..8 country ZZ") ≡ Err (UnexpectedWord 6))
    × (read_query (codes "top 1 dry from 2020-07-01 to 2020-07-01 months 6..8") ≡ Err (UnexpectedWord 8))
    × (read_query (codes "top 1 country ZZ dry") ≡ Err (UnexpectedWord 3))
unfolding read_query read_words keyword says number months code score_at no_score_at region_at season_at period_at per_at
    days_at date days_from_civil day_count days_of_years days_of_months
in_order = (refl, refl, refl)

-- the hottest days, and of which groups each the best alone
hottest_of : (read_query (codes "top 2 highest TMAX per station") ≡ Ok (record (top 2 (Highest Tmax)) { per = ByStation }))
    × (read_query (codes " top 02 highest TMAX  per year ") ≡ Ok (record (top 2 (Highest Tmax)) { per = ByYear }))
unfolding read_query read_words keyword says number element score_at no_score_at region_at season_at period_at per_at
    group
hottest_of = (refl, refl)

-- a group comes last, and is a station or a year
groups_refused : (read_query (codes "top 1 highest TMAX per") ≡ Err QueryEnds)
    × (read_query (codes "top 1 highest TMAX per day") ≡ Err (UnexpectedWord 6))
    × (read_query (codes "top 1 highest TMAX per Year") ≡ Err (UnexpectedWord 6))
    × (read_query (codes "top 1 highest TMAX per year months 1..2") ≡ Err (UnexpectedWord 7))
    × (read_query (codes "top 1 highest TMAX per year per station") ≡ Err (UnexpectedWord 7))
    × (read_query (codes "top 1 highest TMAX station") ≡ Err QueryEnds)
    × (read_query (codes "top 1 highest TMAX year") ≡ Err (UnexpectedWord 5))
unfolding read_query read_words keyword says number element code score_at no_score_at region_at season_at period_at
    per_at group
groups_refused = (refl, refl, refl, refl, refl, refl, refl)

-- a region of one station needs its ID
no_id : read_query (codes "top 1 dry station per station from 2020-07-01 to 2020-07-01 per year")
    ≡ Err (UnexpectedWord 5)
unfolding read_query read_words keyword says number element code score_at no_score_at region_at season_at period_at
    per_at group
no_id = refl

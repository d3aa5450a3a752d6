-- Worked examples of how queries are written, and of which stations and days they admit, by computation.
use Rattle.rank_query.proofs.Cited.{◌≡◌, true, false, [], ◌∷◌, refl, None, codes, pos, neg_ℤ, ℤ, map, days_from_civil}
use Rattle.rank_query.proofs.Cited.{day_count, days_of_years, days_of_months, year_and_rest, month_and_day, Tmax}
use Rattle.rank_query.proofs.Cited.{Highest, Dry, Wet, Hot, Cold, Region, Inside, Country, State, Only, query_text}
use Rattle.rank_query.proofs.Cited.{Station as ByStation, Year as ByYear, Tmin, Prcp, Lowest, Sum}
use Rattle.rank_query.specs.Asked.{top}
use Rattle.std.specs.Fmt.{digits}
use Rattle.ghcn_files.specs.declared.station.Station.{Station}
use Rattle.rank_query.specs.Meaning.Admits.{region_holds, admits_day}
use Rattle.rank_query.proofs.Examples.{asked_in, in_box_of, dry_months, dry_days, dry_from}

-- canonical texts
canonical_texts : (query_text (top 1000 (Highest Tmax)) ≡ codes "top 1000 highest TMAX")
    × (query_text (top 2 (Lowest Tmin)) ≡ codes "top 2 lowest TMIN")
    × (query_text (top 5 (Sum 3 Prcp)) ≡ codes "top 5 sum 3 PRCP") × (query_text (top 3 Dry) ≡ codes "top 3 dry")
    × (query_text (top 7 Wet) ≡ codes "top 7 wet") × (query_text (top 1 (Hot (pos 0))) ≡ codes "top 1 hot 0.0")
    × (query_text (top 2 (Hot (neg_ℤ (pos 5)))) ≡ codes "top 2 hot -0.5")
    × (query_text (top 2 (Hot (pos 300))) ≡ codes "top 2 hot 30.0")
    × (query_text (top 3 (Cold (neg_ℤ (pos 100)))) ≡ codes "top 3 cold -10.0")
unfolding digits
canonical_texts = (refl, refl, refl, refl, refl, refl, refl, refl, refl)

-- with a season
season_text : query_text (dry_months 12 2) ≡ codes "top 1 dry months 12..2"
unfolding digits
season_text = refl

-- by months or by days
days_texts : (query_text (dry_days (pos 11_306) (pos 10_971)) ≡ codes "top 1 dry days 12-15..01-15")
    × (query_text (dry_days (pos 11_016) (pos 11_016)) ≡ codes "top 1 dry days 02-29..02-29")
unfolding digits year_and_rest month_and_day
days_texts = (refl, refl)

-- with a region
box_text : query_text
    (asked_in (Inside (neg_ℤ (pos 100_000)) (pos 1_700_000) (pos 100_000) (neg_ℤ (pos 1_700_000))) 3 (Highest Tmax))
    ≡ codes "top 3 highest TMAX box -10.0000 170.0000 10.0000 -170.0000"
unfolding digits
box_text = refl

-- less than one degree, and no degree at all
small_box_text : query_text (in_box_of (neg_ℤ (pos 5)) (pos 0) (pos 12_345) (pos 1_800_000))
    ≡ codes "top 1 wet box -0.0005 0.0000 1.2345 180.0000"
unfolding digits
small_box_text = refl

-- with a code
region_texts : (query_text (asked_in (Country (codes "ZZ")) 1 Dry) ≡ codes "top 1 dry country ZZ")
    × (query_text (asked_in (State (codes "NY")) 1 Dry) ≡ codes "top 1 dry state NY")
    × (query_text (asked_in (Only (record { 0 = codes "ZZA00000003" })) 1 Dry) ≡ codes "top 1 dry station ZZA00000003")
unfolding digits
region_texts = (refl, refl, refl)

-- with a group
group_texts : (query_text (record (top 1 Dry) { per = ByStation }) ≡ codes "top 1 dry per station")
    × (query_text (record (top 1 Dry) { per = ByYear }) ≡ codes "top 1 dry per year")
unfolding digits
group_texts = (refl, refl)

-- with a period
period_text : query_text (dry_from (pos 18444) (pos 18444)) ≡ codes "top 1 dry from 2020-07-01 to 2020-07-01"
unfolding digits year_and_rest month_and_day
period_text = refl

-- a station at that many ten-thousandths of a degree
abbrev at : ℤ → ℤ → Station
at latitude longitude =
    record {
      id = record { 0 = codes "ZZA00000001" };
      latitude = latitude;
      longitude = longitude;
      elevation = None;
      state = codes "NY";
      name = codes "ZZ                            ";
    }

-- a box over the date line: 170 degrees east to 170 degrees west, and 10 degrees south to 10 degrees north
abbrev over_the_date_line : Region
over_the_date_line = Inside (neg_ℤ (pos 100_000)) (pos 1_700_000) (pos 100_000) (neg_ℤ (pos 1_700_000))

-- both edges belong to it, and so do 180 degrees east and west
in_box : map (λ z. region_holds over_the_date_line (at (pos 100_000) z))
    (pos 1_700_000 ∷ pos 1_800_000 ∷ neg_ℤ (pos 1_800_000) ∷ neg_ℤ (pos 1_700_000) ∷ []) ≡ true ∷ true ∷ true ∷ true ∷
    []
in_box = refl

-- what lies between its edges on the other side doesn't
outside : map (λ z. region_holds over_the_date_line (at (pos 0) z))
    (pos 1_699_999 ∷ pos 0 ∷ neg_ℤ (pos 1_699_999) ∷ []) ≡ false ∷ false ∷ false ∷ []
outside = refl

-- the southern and the northern edge belong to it, and nothing past them
edges : map (λ z. region_holds over_the_date_line (at z (pos 1_750_000)))
    (neg_ℤ (pos 100_001) ∷ neg_ℤ (pos 100_000) ∷ pos 100_000 ∷ pos 100_001 ∷ []) ≡ false ∷ true ∷ true ∷ false ∷ []
edges = refl

-- a box of one point, and an ordinary one
boxes : (region_holds (Inside (pos 120_000) (pos 220_000) (pos 120_000) (pos 220_000))
    (at (pos 120_000) (pos 220_000)) ≡ true)
    × (region_holds (Inside (pos 0) (pos 0) (pos 100_000) (pos 100_000)) (at (pos 50_000) (pos 100_001)) ≡ false)
boxes = (refl, refl)

-- 180 and -180 degrees aren't one longitude, and a box of one meridian isn't the world
one_meridian : (region_holds (Inside (pos 0) (pos 1_700_000) (pos 100_000) (pos 1_800_000))
    (at (pos 50_000) (neg_ℤ (pos 1_800_000))) ≡ false)
    × (region_holds (Inside (pos 0) (neg_ℤ (pos 1_800_000)) (pos 100_000) (neg_ℤ (pos 1_700_000)))
    (at (pos 50_000) (pos 1_800_000)) ≡ false)
    × (region_holds (Inside (pos 0) (pos 200_000) (pos 100_000) (pos 200_000)) (at (pos 50_000) (pos 200_001)) ≡ false)
    × (region_holds (Inside (pos 0) (pos 200_000) (pos 100_000) (pos 200_000)) (at (pos 50_000) (pos 200_000)) ≡ true)
one_meridian = (refl, refl, refl, refl)

-- the western and the eastern edge belong to an ordinary box, and nothing past them
meridians : map (λ z. region_holds (Inside (pos 0) (neg_ℤ (pos 200_000)) (pos 100_000) (pos 300_000)) (at (pos 0) z))
    (neg_ℤ (pos 200_001) ∷ neg_ℤ (pos 200_000) ∷ pos 300_000 ∷ pos 300_001 ∷ []) ≡ false ∷ true ∷ true ∷ false ∷ []
meridians = refl

-- by the first two bytes of the ID, by the state and not the name, by the ID
by_code : (map (λ r. region_holds r (at (pos 0) (pos 0)))
    (Country (codes "ZZ") ∷ State (codes "NY") ∷ State (codes "ZZ") ∷ Country (codes "NY") ∷ Only
    (record { 0 = codes "ZZA00000001" }) ∷ Only (record { 0 = codes "ZZA00000002" }) ∷ []))
    ≡ true ∷ true ∷ false ∷ false ∷ true ∷ false ∷ []
by_code = refl

-- the first and the last day of a period belong to it
days : map (λ day. admits_day (dry_from (pos 18444) (pos 18445)) day)
    (pos 18443 ∷ pos 18444 ∷ pos 18445 ∷ pos 18446 ∷ []) ≡ false ∷ true ∷ true ∷ false ∷ []
days = refl

-- without a period each day of the years 1 to 9999 does
all_days : map (λ day. admits_day (top 1 Dry) day)
    (neg_ℤ (pos 719_163) ∷ neg_ℤ (pos 719_162) ∷ pos 2_932_896 ∷ pos 2_932_897 ∷ []) ≡ false ∷ true ∷ true ∷ false ∷ []
all_days = refl

-- a season over the turn of the year has its first and its last month: 2019-11-30 to 2019-12-01, 2020-01-31 to
-- 2020-02-01
winter : map (λ day. admits_day (dry_months 12 1) day) (pos 18230 ∷ pos 18231 ∷ pos 18292 ∷ pos 18293 ∷ [])
    ≡ false ∷ true ∷ true ∷ false ∷ []
unfolding year_and_rest month_and_day
winter = refl

-- one of one year has what lies between: 2020-05-31 to 2020-06-01, 2020-06-30 to 2020-07-01
june : map (λ day. admits_day (dry_months 6 6) day) (pos 18413 ∷ pos 18414 ∷ pos 18443 ∷ pos 18444 ∷ [])
    ≡ false ∷ true ∷ true ∷ false ∷ []
unfolding year_and_rest month_and_day
june = refl

-- a season of days has its first and its last day, of every year: 1 July of 2019, 2020 and 2021, and the days around it
first_of_july : map (λ day. admits_day (dry_days (pos 11_139) (pos 11_139)) day)
    (pos 18_077 ∷ pos 18_078 ∷ pos 18_079 ∷ pos 18_443 ∷ pos 18_444 ∷ pos 18_445 ∷ pos 18_809 ∷ [])
    ≡ false ∷ true ∷ false ∷ false ∷ true ∷ false ∷ true ∷ []
unfolding year_and_rest month_and_day days_from_civil day_count days_of_years days_of_months
first_of_july = refl

-- over the turn of the year: 2019-12-14 to 2019-12-15, 2020-01-15 to 2020-01-16
over_the_turn : map (λ day. admits_day (dry_days (pos 11_306) (pos 10_971)) day)
    (pos 18_244 ∷ pos 18_245 ∷ pos 18_261 ∷ pos 18_262 ∷ pos 18_276 ∷ pos 18_277 ∷ [])
    ≡ false ∷ true ∷ true ∷ true ∷ true ∷ false ∷ []
unfolding year_and_rest month_and_day days_from_civil day_count days_of_years days_of_months
over_the_turn = refl

-- 29 February is there in leap years alone: 2019-02-28 and 2019-03-01, 2020-02-28 to 2020-03-01
leap_days : map (λ day. admits_day (dry_days (pos 11_016) (pos 11_016)) day)
    (pos 17_955 ∷ pos 17_956 ∷ pos 18_320 ∷ pos 18_321 ∷ pos 18_322 ∷ []) ≡ false ∷ false ∷ false ∷ true ∷ false ∷ []
unfolding year_and_rest month_and_day days_from_civil day_count days_of_years days_of_months
leap_days = refl

-- and all others are from 1 March to 28 February
no_leap_days : map (λ day. admits_day (dry_days (pos 11_017) (pos 11_015)) day)
    (pos 17_955 ∷ pos 17_956 ∷ pos 18_320 ∷ pos 18_321 ∷ pos 18_322 ∷ []) ≡ true ∷ true ∷ true ∷ false ∷ true ∷ []
unfolding year_and_rest month_and_day days_from_civil day_count days_of_years days_of_months
no_leap_days = refl

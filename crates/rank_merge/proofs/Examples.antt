-- Worked merges, by computation.
use Rattle.std.proofs.Common.{◌≡◌, ℕ, List, [], ◌∷◌, ◌++◌, length, refl, Ok, Err, codes}
use Rattle.std.specs.Fmt.{decimal, digits}
use Rattle.std.specs.List.{flat_map}
use Rattle.jiff_core.specs.Calendar.{days_from_civil, day_count, days_of_years, days_of_months}
use Rattle.ghcn_fields.specs.Meaning.Dates.{year_and_rest, month_and_day}
use Rattle.ghcn_files.specs.declared.element.Element.TheVariants.{Tmax}
use Rattle.rank_query.specs.declared.per.Per.TheVariants.{Station as ByStation}
use Rattle.rank_query.specs.declared.score.Score.TheVariants.{Highest}
use Rattle.rank_query.specs.Meaning.Asked.{Query}
use Rattle.rank_query.specs.Asked.{top}
use Rattle.rank_query.specs.Words.{says}
use Rattle.rank_query.specs.Readers.{keyword}
use Rattle.rank_query.specs.WordValues.{number, element, group}
use Rattle.rank_query.specs.Reading.{no_score_at, score_at, region_at, season_at, period_at, per_at, read_words, read_query}
use Rattle.rank_merge.specs.declared.fault.MergeFault.TheVariants.{BadReport, BadCertificate, OtherQuery, OutOfOrder}
use Rattle.rank_merge.specs.declared.fault.MergeFault.TheVariants.{OtherFloor, NotRising, NotScanned, NotCounted, Twice}
use Rattle.rank_merge.specs.Merging.{Texts, merge}

-- lines, each with a line feed
abbrev text : List (List ℕ) → List ℕ
text [] = []
text (l ∷ ls) = l ++ 10 ∷ text ls

-- the k highest of all
abbrev ask : ℕ → Query
ask k = top k (Highest Tmax)

-- the line of a query for that many
abbrev asking : List ℕ → List ℕ
asking k = codes "query top " ++ k ++ codes " highest TMAX"

-- a report of that many
abbrev report_with : List ℕ → List (List ℕ) → List ℕ
report_with k rows = text (codes "extremes report 1" ∷ asking k ∷ rows)

-- it, and a certificate of version 2
abbrev papers : List ℕ → List (List ℕ) → List (List ℕ) → Texts
papers k rows lines = (report_with k rows, text (codes "extremes certificate 2" ∷ asking k ∷ lines))

-- the row of the highest one
abbrev alpha : List ℕ
alpha = codes "1 ZZA00000001 2020-07-01 2020-07-01 31.1 C ALPHA"

-- ---- the highest one, of a part with two stations and one with the third

-- the report and the certificate of the part with two stations
abbrev two : Texts
two = papers (codes "1") (alpha ∷ codes "end 1" ∷ []) (codes "kth 311" ∷ codes "scan ZZA00000001 311 1"
    ∷ codes "skip ZZA00000002 310" ∷ codes "end 2" ∷ [])

-- those of the other
abbrev one : Texts
one = (
  report_with (codes "1") (codes "1 ZZA00000003 2020-07-01 2020-07-01 25.0 C CHARLIE" ∷ codes "end 1" ∷ []),
  text (codes "extremes certificate 1" ∷ asking (codes "1") ∷ codes "kth 250" ∷ codes "scan ZZA00000003 250"
      ∷ codes "end 1" ∷ []),
)

-- and those of both
abbrev two_and_one : Texts
two_and_one = papers (codes "1") (alpha ∷ codes "end 1" ∷ []) (codes "kth 311" ∷ codes "scan ZZA00000001 311 1"
    ∷ codes "skip ZZA00000002 310" ∷ codes "scan ZZA00000003 250 0" ∷ codes "end 3" ∷ [])

-- in either order the parts merge into these
merged : (merge (ask 1) (two ∷ one ∷ []) ≡ Ok two_and_one) × (merge (ask 1) (one ∷ two ∷ []) ≡ Ok two_and_one)
unfolding digits year_and_rest month_and_day read_query read_words keyword says number element score_at no_score_at
    region_at season_at period_at per_at days_from_civil day_count days_of_years days_of_months
merged = (refl, refl)

-- a station in two certificates, another query before a line in no format, and a certificate cut short
refused : (merge (ask 1) (two ∷ two ∷ []) ≡ Err (Twice (record { 0 = codes "ZZA00000001" })))
    × (merge (ask 2) (two ∷ ([], []) ∷ []) ≡ Err (OtherQuery 1))
    × (merge (ask 1) (two ∷ (one.0, text (codes "extremes certificate 1" ∷ [])) ∷ []) ≡ Err (BadCertificate 2 2))
    × (merge (ask 1) (([], one.1) ∷ two ∷ []) ≡ Err (BadReport 1 1))
unfolding digits year_and_rest month_and_day read_query read_words keyword says number element score_at no_score_at
    region_at season_at period_at per_at days_from_civil day_count days_of_years days_of_months
refused = (refl, refl, refl, refl)

-- ---- two stations in two parts each

-- the report and the certificate of a part with lines of these stations
abbrev of_stations : List (List ℕ) → Texts
of_stations ids = papers (codes "1") (codes "end 0 all" ∷ [])
    (codes "kth none" ∷ flat_map (λ id. (codes "scan " ++ id ++ codes " 250 0") ∷ []) ids
    ++ (codes "end " ++ decimal (length ids)) ∷ [])

-- as these parts come, the third station is the first that two of them have, but the first by ID is named
first_named : merge (ask 1) (of_stations (codes "ZZA00000003" ∷ [])
    ∷ of_stations (codes "ZZA00000001" ∷ codes "ZZA00000003" ∷ []) ∷ of_stations (codes "ZZA00000001" ∷ []) ∷ [])
    ≡ Err (Twice (record { 0 = codes "ZZA00000001" }))
unfolding digits year_and_rest month_and_day read_query read_words keyword says number element score_at no_score_at
    region_at season_at period_at per_at days_from_civil day_count days_of_years days_of_months
first_named = refl

-- ---- the three highest, if each part has fewer

-- the report and the certificate of one part
abbrev few : Texts
few = papers (codes "3") (alpha ∷ codes "2 ZZA00000001 2020-07-02 2020-07-02 30.5 C ALPHA" ∷ codes "end 2 all" ∷ [])
    (codes "kth none" ∷ codes "scan ZZA00000001 311 2" ∷ codes "end 1" ∷ [])

-- those of another
abbrev others : Texts
others = papers (codes "3") (codes "1 ZZA00000002 2020-07-01 2020-07-01 31.1 C BRAVO"
    ∷ codes "2 ZZA00000003 2020-07-01 2020-07-01 25.0 C CHARLIE" ∷ codes "end 2 all" ∷ [])
    (codes "kth none" ∷ codes "scan ZZA00000002 311 1" ∷ codes "scan ZZA00000003 250 1" ∷ codes "end 2" ∷ [])

-- and those of both
abbrev few_and_others : Texts
few_and_others = papers (codes "3") (alpha ∷ codes "2 ZZA00000002 2020-07-01 2020-07-01 31.1 C BRAVO"
    ∷ codes "3 ZZA00000001 2020-07-02 2020-07-02 30.5 C ALPHA" ∷ codes "end 3" ∷ [])
    (codes "kth 305" ∷ codes "scan ZZA00000001 311 2" ∷ codes "scan ZZA00000002 311 1"
    ∷ codes "scan ZZA00000003 250 0" ∷ codes "end 3" ∷ [])

-- a count falls if a row is left out
three_merged : merge (ask 3) (others ∷ few ∷ []) ≡ Ok few_and_others
unfolding digits year_and_rest month_and_day read_query read_words keyword says number element score_at no_score_at
    region_at season_at period_at per_at days_from_civil day_count days_of_years days_of_months
three_merged = refl

-- ---- heads

-- a report with two rows in order, and its certificate
abbrev two_rows : List (List ℕ) → Texts
two_rows lines =
    papers (codes "2") (alpha ∷ codes "2 ZZA00000002 2020-07-01 2020-07-01 30.5 C" ∷ codes "end 2" ∷ []) lines

-- the line that each reason names
heads_refused : (merge (ask 2) (papers (codes "2") (codes "1 ZZA00000002 2020-07-01 2020-07-01 30.5 C"
    ∷ codes "2 ZZA00000001 2020-07-01 2020-07-01 31.1 C" ∷ codes "end 2" ∷ []) (codes "kth none" ∷ codes "end 0" ∷ [])
    ∷ []) ≡ Err (OutOfOrder 1 4))
    × (merge (ask 2) (two_rows (codes "kth none" ∷ codes "end 0" ∷ []) ∷ []) ≡ Err (OtherFloor 1))
    × (merge (ask 2) (two_rows (codes "kth 305" ∷ codes "skip ZZA00000002 3" ∷ codes "skip ZZA00000001 3"
    ∷ codes "end 2" ∷ []) ∷ []) ≡ Err (NotRising 1 5))
    × (merge (ask 2) (two_rows (codes "kth 305" ∷ codes "scan ZZA00000001 311 0" ∷ codes "skip ZZA00000002 3"
    ∷ codes "end 2" ∷ []) ∷ []) ≡ Err (NotScanned 1 4))
    × (merge (ask 2) (two_rows (codes "kth 305" ∷ codes "scan ZZA00000001 311 1" ∷ codes "scan ZZA00000002 305 0"
    ∷ codes "end 2" ∷ []) ∷ []) ≡ Err (NotCounted 1 5))
unfolding digits year_and_rest month_and_day read_query read_words keyword says number element score_at no_score_at
    region_at season_at period_at per_at days_from_civil day_count days_of_years days_of_months
heads_refused = (refl, refl, refl, refl, refl)

-- ---- groups

-- the report and the certificate of the two hottest days, of each station the best alone
abbrev papers_of_stations : List (List ℕ) → List (List ℕ) → Texts
papers_of_stations rows lines =
    let asked : List ℕ = codes "query top 2 highest TMAX per station" in
    (text (codes "extremes report 1" ∷ asked ∷ rows), text (codes "extremes certificate 2" ∷ asked ∷ lines))

-- those of the part with the first station, of which only one day counts
abbrev first_part : Texts
first_part = papers_of_stations (codes "1 ZZA00000001 2019-07-02 2019-07-02 31.1 C ALPHA" ∷ codes "end 1 all" ∷ [])
    (codes "kth none" ∷ codes "scan ZZA00000001 311 1" ∷ codes "end 1" ∷ [])

-- those of the part with two others
abbrev other_part : Texts
other_part = papers_of_stations (codes "1 ZZA00000002 2020-07-01 2020-07-01 32.0 C BRAVO"
    ∷ codes "2 ZZA00000003 2020-07-01 2020-07-01 25.0 C CHARLIE" ∷ codes "end 2" ∷ [])
    (codes "kth 250" ∷ codes "scan ZZA00000002 320 1" ∷ codes "scan ZZA00000003 250 1" ∷ codes "end 2" ∷ [])

-- and those of both
abbrev both_parts : Texts
both_parts = papers_of_stations (codes "1 ZZA00000002 2020-07-01 2020-07-01 32.0 C BRAVO"
    ∷ codes "2 ZZA00000001 2019-07-02 2019-07-02 31.1 C ALPHA" ∷ codes "end 2" ∷ [])
    (codes "kth 311" ∷ codes "scan ZZA00000001 311 1" ∷ codes "scan ZZA00000002 320 1"
    ∷ codes "scan ZZA00000003 250 0" ∷ codes "end 3" ∷ [])

-- parts with a group merge into these
stations_merged : merge (record (ask 2) { per = ByStation }) (first_part ∷ other_part ∷ []) ≡ Ok both_parts
unfolding digits year_and_rest month_and_day read_query read_words keyword says number element group score_at
    no_score_at region_at season_at period_at per_at days_from_civil day_count days_of_years days_of_months
stations_merged = refl

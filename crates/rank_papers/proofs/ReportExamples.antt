-- Worked reports, by computation.
use Rattle.std.proofs.Common.{◌≡◌, ℕ, List, [], ◌∷◌, ◌++◌, refl, Ok, Err}
use Rattle.std.specs.Prelude.{codes, ℤ, pos, neg_ℤ}
use Rattle.std.specs.Fmt.{digits}
use Rattle.jiff_core.specs.Calendar.{days_from_civil, day_count, days_of_years, days_of_months}
use Rattle.ghcn_fields.specs.Meaning.Dates.{year_and_rest, month_and_day}
use Rattle.ghcn_files.specs.declared.station.StationId.{StationId}
use Rattle.ghcn_files.specs.declared.element.Element.TheVariants.{Tmax, Tmin}
use Rattle.rank_query.specs.declared.score.Score.TheVariants.{Highest, Lowest, Dry}
use Rattle.rank_query.specs.Asked.{top}
use Rattle.rank_query.specs.Words.{says}
use Rattle.rank_query.specs.Readers.{keyword}
use Rattle.rank_query.specs.WordValues.{number, element}
use Rattle.rank_query.specs.Reading.{no_score_at, score_at, region_at, season_at, period_at, per_at, read_words}
use Rattle.rank_query.specs.Reading.{read_query}
use Rattle.rank_scores.specs.declared.candidate.Candidate.{Candidate}
use Rattle.rank_papers.specs.Meaning.Report.{report_text}
use Rattle.rank_papers.specs.Report.{Named}
use Rattle.rank_papers.specs.ReportLines.{read_report}

-- the stations
abbrev a : StationId
a = record { 0 = codes "ZZA00000001" }

abbrev b : StationId
b = record { 0 = codes "ZZA00000002" }

abbrev c : StationId
c = record { 0 = codes "ZZA00000003" }

-- lines, each with a line feed
abbrev text : List (List ℕ) → List ℕ
text [] = []
text (l ∷ ls) = l ++ 10 ∷ text ls

-- a candidate of one day
abbrev on_day : StationId → ℤ → ℤ → Candidate
on_day id day score = record { id = id; first = day; last = day; score = score }

-- four rows
abbrev top_ten : List Named
top_ten =
    (on_day a (pos 18444) (pos 311), codes "ALPHA")
    ∷ (on_day b (pos 18444) (pos 311), codes "BRAVO")
    ∷ (on_day a (pos 18445) (pos 305), codes "ALPHA")
    ∷ (on_day c (pos 18444) (pos 250), codes "CHARLIE")
    ∷ []

-- the report with them, if ten were asked for
abbrev top_ten_text : List ℕ
top_ten_text = text (
    codes "extremes report 1"
    ∷ codes "query top 10 highest TMAX"
    ∷ codes "1 ZZA00000001 2020-07-01 2020-07-01 31.1 C ALPHA"
    ∷ codes "2 ZZA00000002 2020-07-01 2020-07-01 31.1 C BRAVO"
    ∷ codes "3 ZZA00000001 2020-07-02 2020-07-02 30.5 C ALPHA"
    ∷ codes "4 ZZA00000003 2020-07-01 2020-07-01 25.0 C CHARLIE"
    ∷ codes "end 4 all"
    ∷ [])

-- it is written
report_written : report_text (top 10 (Highest Tmax)) top_ten ≡ top_ten_text
unfolding digits year_and_rest month_and_day
report_written = refl

-- and read
report_read : read_report top_ten_text ≡ Ok (record { query = top 10 (Highest Tmax); rows = top_ten })
unfolding digits year_and_rest month_and_day read_query read_words keyword says number element score_at no_score_at
    region_at season_at period_at per_at days_from_civil day_count days_of_years days_of_months
report_read = refl

-- the lowest: the printed value is the negated score
abbrev lowest : List (List ℕ) → List ℕ
lowest rows = text (codes "extremes report 1" ∷ codes "query top 2 lowest TMIN" ∷ rows)

-- two rows, the second without a name
lowest_read : read_report (lowest (
    codes "1 ZZA00000001 2020-07-01 2020-07-01 -0.5 C ALPHA"
    ∷ codes "2 ZZA00000001 2020-07-02 2020-07-02 0.3 C"
    ∷ codes "end 2"
    ∷ []))
    ≡ Ok (record {
      query = top 2 (Lowest Tmin);
      rows = (on_day a (pos 18444) (pos 5), codes "ALPHA") ∷ (on_day a (pos 18445) (neg_ℤ (pos 3)), []) ∷ [];
    })
unfolding digits year_and_rest month_and_day read_query read_words keyword says number element score_at no_score_at
    region_at season_at period_at per_at days_from_civil day_count days_of_years days_of_months
lowest_read = refl

-- other spellings of a value, a wrong rank, a blank at the end, a row too many, and an end that disagrees
bad_rows : (read_report (lowest (codes "1 ZZA00000001 2020-07-01 2020-07-01 -0.50 C ALPHA" ∷ [])) ≡ Err 3)
    × (read_report (lowest (codes "1 ZZA00000001 2020-07-01 2020-07-01 -0.0 C ALPHA" ∷ [])) ≡ Err 3)
    × (read_report (lowest (codes "2 ZZA00000001 2020-07-01 2020-07-01 0.3 C ALPHA" ∷ [])) ≡ Err 3)
    × (read_report (lowest (codes "1 ZZA00000001 2020-07-01 2020-07-01 0.3 C " ∷ [])) ≡ Err 3)
    × (read_report (lowest (codes "1 ZZA00000001 2020-07-01 2020-07-01 0.3 C" ∷ codes "end 1" ∷ [])) ≡ Err 4)
    × (read_report (lowest (codes "1 ZZA00000001 2020-07-01 2020-07-01 0.3 C" ∷ codes "end 1 all" ∷ [] ∷ [])) ≡ Err 5)
    × (read_report (lowest (
    codes "1 ZZA00000001 2020-07-01 2020-07-01 0.3 C"
    ∷ codes "2 ZZA00000001 2020-07-01 2020-07-01 0.3 C"
    ∷ codes "3 ZZA00000001 2020-07-01 2020-07-01 0.3 C"
    ∷ codes "end 3"
    ∷ [])) ≡ Err 5)
    × (read_report (lowest (codes "1 ZZA00000001 2020-02-30 2020-07-01 0.3 C" ∷ [])) ≡ Err 3)
unfolding digits year_and_rest month_and_day read_query read_words keyword says number element score_at no_score_at
    region_at season_at period_at per_at days_from_civil day_count days_of_years days_of_months
bad_rows = (refl, refl, refl, refl, refl, refl, refl, refl)

-- a name may begin with a blank and have two blanks inside, and both come back
names_read : read_report (lowest (codes "1 ZZA00000001 2020-07-01 2020-07-01 0.3 C  A  B" ∷ codes "end 1 all" ∷ []))
    ≡ Ok (record { query = top 2 (Lowest Tmin); rows = (on_day a (pos 18444) (neg_ℤ (pos 3)), codes " A  B") ∷ [] })
unfolding digits year_and_rest month_and_day read_query read_words keyword says number element score_at no_score_at
    region_at season_at period_at per_at days_from_civil day_count days_of_years days_of_months
names_read = refl

-- the longest dry spell
abbrev spells : List (List ℕ) → List ℕ
spells rows = text (codes "extremes report 1" ∷ codes "query top 1 dry" ∷ rows)

-- a span of days, another unit, a name of 31 bytes, too many rows, and what follows the end
spell_read : (read_report (spells (codes "1 ZZA00000001 2020-06-29 2020-07-02 4 days ALPHA" ∷ codes "end 1" ∷ []))
    ≡ Ok (record {
      query = top 1 Dry;
      rows = (record { id = a; first = pos 18442; last = pos 18445; score = pos 4 }, codes "ALPHA") ∷ [];
    }))
    × (read_report (spells (codes "1 ZZA00000001 2020-06-29 2020-07-02 4 C ALPHA" ∷ codes "end 1" ∷ [])) ≡ Err 3)
    × (read_report (spells (
    codes "1 ZZA00000001 2020-06-29 2020-07-02 4 days ABCDEFGHIJABCDEFGHIJABCDEFGHIJK"
    ∷ codes "end 1"
    ∷ [])) ≡ Err 3)
    × (read_report (spells (codes "end 1" ∷ [])) ≡ Err 3)
    × (read_report (spells (codes "end 0 all" ∷ codes "x" ∷ [])) ≡ Err 4)
unfolding digits year_and_rest month_and_day read_query read_words keyword says number element score_at no_score_at
    region_at season_at period_at per_at days_from_civil day_count days_of_years days_of_months
spell_read = (refl, refl, refl, refl, refl)

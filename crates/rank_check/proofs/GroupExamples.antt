-- Worked verdicts on reports and certificates of a query with a group, by computation.
use Rattle.std.proofs.Common.{◌≡◌, ℕ, true, false, List, [], ◌∷◌, ◌++◌, refl, Option, None, Some}
use Rattle.std.specs.Prelude.{codes, pos, ℤ}
use Rattle.std.specs.Fmt.{digits}
use Rattle.jiff_core.specs.Calendar.{days_from_civil, day_count, days_of_years, days_of_months}
use Rattle.ghcn_fields.specs.Meaning.Dates.{year_and_rest, month_and_day}
use Rattle.ghcn_fields.specs.Faults.{first_failing}
use Rattle.ghcn_files.specs.declared.element.Element.TheVariants.{Tmax}
use Rattle.ghcn_files.specs.declared.station.Station.{Station}
use Rattle.ghcn_files.specs.StationLines.{station_of}
use Rattle.ghcn_series.specs.Meaning.Series.{DayValue, Series}
use Rattle.ghcn_series.specs.Series.{Data}
use Rattle.rank_query.specs.declared.per.Per.TheVariants.{Station as ByStation}
use Rattle.rank_query.specs.declared.score.Score.TheVariants.{Highest}
use Rattle.rank_query.specs.Meaning.Asked.{Query}
use Rattle.rank_query.specs.Asked.{top}
use Rattle.rank_query.specs.Words.{says}
use Rattle.rank_query.specs.Readers.{keyword}
use Rattle.rank_query.specs.WordValues.{number, element, group}
use Rattle.rank_query.specs.Reading.{no_score_at, score_at, region_at, season_at, period_at, per_at, read_words}
use Rattle.rank_query.specs.Reading.{read_query}
use Rattle.rank_scores.specs.declared.candidate.Candidate.{Candidate}
use Rattle.rank_papers.specs.declared.fault.Paper.TheVariants.{Report, Certificate}
use Rattle.rank_check.specs.declared.verdict.Why.{Why}
use Rattle.rank_check.specs.declared.verdict.Why.TheVariants.{NotACandidate, NotBest, NotCounted}
use Rattle.rank_check.specs.declared.verdict.Verdict.{Verdict}
use Rattle.rank_check.specs.declared.verdict.Verdict.TheVariants.{Accepted, Refused}
use Rattle.rank_check.specs.Tests.{verdict}
use Rattle.rank_check.specs.Pieces.{is_morsel, piece_tests}

-- the two hottest days, of each station the best alone
abbrev hottest : Query
hottest = record (top 2 (Highest Tmax)) { per = ByStation }

-- the stations
abbrev at_alpha : Station
at_alpha = station_of (codes "ZZA00000001  10.0000   20.0000  100.0    ALPHA")

abbrev at_bravo : Station
at_bravo = station_of (codes "ZZA00000002  11.0000   21.0000  100.0    BRAVO")

abbrev at_charlie : Station
at_charlie = station_of (codes "ZZA00000003  12.0000   22.0000  100.0    CHARLIE")

-- a series of daily maxima
abbrev warm : Station → List DayValue → Series
warm st days = record { id = st.id; element = Tmax; days = days }

-- the heat of the first on 2019-07-02, 2020-07-01 and 2021-01-01, of the second on 2020-07-01 and the day after, and of
-- the third on 2020-07-01
abbrev of_alpha : Series
of_alpha = warm at_alpha ((pos 18079, pos 311) ∷ (pos 18444, pos 311) ∷ (pos 18628, pos 70) ∷ [])

abbrev of_bravo : Series
of_bravo = warm at_bravo ((pos 18444, pos 320) ∷ (pos 18445, pos 318) ∷ [])

abbrev of_charlie : Series
of_charlie = warm at_charlie ((pos 18444, pos 250) ∷ [])

abbrev dataset : Data
dataset = record {
  stations = at_alpha ∷ at_bravo ∷ at_charlie ∷ [];
  series = of_alpha ∷ of_bravo ∷ of_charlie ∷ [];
  unlisted = 0;
}

-- lines, each with a line feed
abbrev text : List (List ℕ) → List ℕ
text [] = []
text (l ∷ ls) = l ++ 10 ∷ text ls

-- the verdict on a report whose second row is this, and on a certificate of this head with these lines
abbrev of_papers : List ℕ → List ℕ → List (List ℕ) → Verdict
of_papers row head lines =
    verdict hottest dataset
    (text (codes "extremes report 1" ∷ codes "query top 2 highest TMAX per station"
    ∷ codes "1 ZZA00000002 2020-07-01 2020-07-01 32.0 C BRAVO" ∷ row ∷ codes "end 2" ∷ []))
    (text (head ∷ codes "query top 2 highest TMAX per station" ∷ codes "kth 311" ∷ lines))

-- the earlier of the two hottest days of the first station, and the later, which its rival precedes
abbrev earlier : List ℕ
earlier = codes "2 ZZA00000001 2019-07-02 2019-07-02 31.1 C ALPHA"

abbrev later : List ℕ
later = codes "2 ZZA00000001 2020-07-01 2020-07-01 31.1 C ALPHA"

-- the lines of the right certificate, with counts
abbrev counted : List (List ℕ)
counted = codes "scan ZZA00000001 311 1" ∷ codes "scan ZZA00000002 320 1" ∷ codes "skip ZZA00000003 250"
    ∷ codes "end 3" ∷ []

-- the right report and certificate, by both versions; a later day of a station as a row; and the count of all days of
-- a station
verdicts : (of_papers earlier (codes "extremes certificate 2") counted ≡ Accepted)
    × (of_papers earlier (codes "extremes certificate 1") (codes "scan ZZA00000001 311" ∷ codes "scan ZZA00000002 320"
    ∷ codes "skip ZZA00000003 250" ∷ codes "end 3" ∷ []) ≡ Accepted)
    × (of_papers later (codes "extremes certificate 2") counted ≡ Refused Report 4 NotACandidate)
    × (of_papers earlier (codes "extremes certificate 2") (codes "scan ZZA00000001 311 2"
    ∷ codes "scan ZZA00000002 320 1" ∷ codes "skip ZZA00000003 250" ∷ codes "end 3" ∷ [])
    ≡ Refused Certificate 4 NotCounted)
unfolding digits year_and_rest month_and_day read_query read_words keyword says number element group score_at
    no_score_at region_at season_at period_at per_at days_from_civil day_count days_of_years days_of_months
verdicts = (refl, refl, refl, refl)

-- a candidate of the first station, on this day
abbrev on : ℤ → Candidate
on day = record { id = at_alpha.id; first = day; last = day; score = pos 311 }

-- the judgement of the line of the first station by itself, with this row, beside the last row of the report
abbrev alone : ℕ → ℤ → Option Why
alone printed day = first_failing (piece_tests hottest at_alpha (Some of_alpha)
    (record { id = at_alpha.id; bound = pos 311; skipped = false }) printed ((on day, codes "ALPHA") ∷ [])
    (Some (on (pos 18079))))

-- a right line; that of a later day; no row, although there is a candidate
lines : (alone 1 (pos 18079) ≡ None) × (alone 1 (pos 18444) ≡ Some NotACandidate)
    × (first_failing (piece_tests hottest at_alpha (Some of_alpha)
    (record { id = at_alpha.id; bound = pos 311; skipped = false }) 0 [] (Some (on (pos 18079)))) ≡ Some NotBest)
lines = (refl, refl, refl)

-- a station whose day is outside the period needs no line
absent : (is_morsel hottest at_charlie (Some of_charlie) ≡ true)
    × (is_morsel (record hottest { period = Some (pos 18445, pos 18628) }) at_charlie (Some of_charlie) ≡ false)
absent = (refl, refl)

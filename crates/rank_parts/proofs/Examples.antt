-- Worked verdicts of parts, by computation.
use Rattle.std.proofs.Common.{◌++◌}
use Rattle.std.specs.Prelude.{codes, pos}
use Rattle.std.specs.Fmt.{digits}
use Rattle.jiff_core.specs.Calendar.{days_from_civil, day_count, days_of_years, days_of_months}
use Rattle.ghcn_fields.specs.Meaning.Dates.{year_and_rest, month_and_day}
use Rattle.ghcn_files.specs.declared.element.Element.TheVariants.{Tmax}
use Rattle.ghcn_files.specs.StationLines.{station_of}
use Rattle.ghcn_series.specs.Meaning.Series.{DayValue}
use Rattle.rank_query.specs.declared.score.Score.TheVariants.{Highest}
use Rattle.rank_query.specs.Asked.{top}
use Rattle.rank_query.specs.Words.{says}
use Rattle.rank_query.specs.Readers.{keyword}
use Rattle.rank_query.specs.WordValues.{number, element}
use Rattle.rank_query.specs.Reading.{no_score_at, score_at, region_at, season_at, period_at, per_at, read_words}
use Rattle.rank_query.specs.Reading.{read_query}
use Rattle.rank_papers.specs.declared.fault.Paper.TheVariants.{Report, Certificate}
use Rattle.rank_check.specs.declared.verdict.Why.TheVariants.{Form, OtherQuery, OutOfOrder, OtherFloor}
use Rattle.rank_parts.specs.declared.verdict.PartVerdict.{PartVerdict}
use Rattle.rank_parts.specs.Parts.{part_verdict}
use Rattle.rank_parts.specs.Texts.{verdict_text}
use Rattle.rank_parts.proofs.Cited.{◌≡◌, ℕ, List, [], ◌∷◌, refl, Series, Data, Query, Why, NotACandidate, NotBest}
use Rattle.rank_parts.proofs.Cited.{OtherSeries, NoBound, NotBelow, NotCounted, refusal, Accepted, Refused}

-- what a verdict computes with, besides what unfolds everywhere
verdicts : Unit {0}
unfolding digits year_and_rest month_and_day read_query read_words keyword says number element score_at no_score_at
    region_at season_at period_at per_at days_from_civil day_count days_of_years days_of_months
verdicts = tt

-- ---- the data

-- a series of daily maxima
abbrev warm : List ℕ → List DayValue → Series
warm id days = record { id = record { 0 = id }; element = Tmax; days = days }

-- the data of a part of three listed stations
abbrev part : List Series → Data
part series = record {
  stations = station_of (codes "ZZA00000001  10.0000   20.0000  100.0    ALPHA")
      ∷ station_of (codes "ZZA00000002  11.0000   21.0000  100.0    BRAVO")
      ∷ station_of (codes "ZZA00000003  12.0000   22.0000  100.0    CHARLIE") ∷ [];
  series = series;
  unlisted = 0;
}

-- two parts of these: the first series has the two greatest values of all, one of them tied
abbrev first_part : Data
first_part = part (warm (codes "ZZA00000001") ((pos 18444, pos 311) ∷ (pos 18445, pos 305) ∷ [])
    ∷ warm (codes "ZZA00000003") ((pos 18444, pos 250) ∷ []) ∷ [])

abbrev second_part : Data
second_part = part (warm (codes "ZZA00000002") ((pos 18444, pos 311) ∷ []) ∷ [])

-- the k highest of all
abbrev ask : ℕ → Query
ask k = top k (Highest Tmax)

-- ---- the report and the certificate

-- lines, each with a line feed
abbrev text : List (List ℕ) → List ℕ
text [] = []
text (l ∷ ls) = l ++ 10 ∷ text ls

-- a report of one row
abbrev report : List ℕ → List ℕ
report row = text (codes "extremes report 1" ∷ codes "query top 1 highest TMAX" ∷ row ∷ codes "end 1" ∷ [])

-- that of the highest one
abbrev right_report : List ℕ
right_report = report (codes "1 ZZA00000001 2020-07-01 2020-07-01 31.1 C ALPHA")

-- a certificate of version 2, by its query, its k-th score and what comes after these
abbrev headed : List ℕ → List ℕ → List (List ℕ) → List ℕ
headed query kth ls = text (codes "extremes certificate 2" ∷ query ∷ kth ∷ ls)

-- with the right query and the right k-th score, and with the first two lines
abbrev counted : List (List ℕ) → List ℕ
counted ls = headed (codes "query top 1 highest TMAX") (codes "kth 311") ls

abbrev two_counted : List (List ℕ) → List ℕ
two_counted ls = counted (codes "scan ZZA00000001 311 1" ∷ codes "scan ZZA00000002 311 0" ∷ ls)

-- a certificate of version 1, and one with three lines, by their bounds
abbrev plain : List (List ℕ) → List ℕ
plain ls = text (codes "extremes certificate 1" ∷ codes "query top 1 highest TMAX" ∷ codes "kth 311" ∷ ls)

abbrev bounded : List ℕ → List ℕ → List ℕ → List ℕ
bounded a b c = plain ((codes "scan ZZA00000001 " ++ a) ∷ (codes "scan ZZA00000002 " ++ b)
    ∷ (codes "skip ZZA00000003 " ++ c) ∷ codes "end 3" ∷ [])

-- the right ones
abbrev right_counted : List ℕ
right_counted = two_counted (codes "skip ZZA00000003 250" ∷ codes "end 3" ∷ [])

abbrev right_plain : List ℕ
right_plain = bounded (codes "311") (codes "311") (codes "250")

-- the verdicts of the two parts, and of the first on a certificate beside the right report
abbrev of_both : List ℕ → List ℕ → PartVerdict × PartVerdict
of_both r z = (part_verdict (ask 1) first_part r z, part_verdict (ask 1) second_part r z)

abbrev of_certificate : List ℕ → PartVerdict
of_certificate z = part_verdict (ask 1) first_part right_report z

-- a verdict of the part without series
abbrev seen : List ℕ → List ℕ → PartVerdict
seen r z = part_verdict (ask 1) (part []) r z

-- a refusal of a line of the certificate
abbrev bad_line : ℕ → Why → PartVerdict
bad_line line why = Refused (refusal Certificate line why)

-- ---- verdicts

-- each part accepts its own series of the three lines, in both versions, and a part without series none: 2, 1 and 0 add
-- up to 3
accepted : (of_both right_report right_counted ≡ (Accepted 2 3, Accepted 1 3))
    × (seen right_report right_counted ≡ Accepted 0 3)
    × (of_both right_report right_plain ≡ (Accepted 2 3, Accepted 1 3))
unfolding verdicts
accepted = (refl, refl, refl)

-- a line that stands for no series isn't seen by any part: each accepts, and 2 and 1 don't add up to 4; a series
-- without a line is seen by the part that has it, at the end line, and by no other
more_and_fewer : (of_both right_report
    (two_counted (codes "skip ZZA00000003 250" ∷ codes "scan ZZA00000004 9 0" ∷ codes "end 4" ∷ []))
    ≡ (Accepted 2 4, Accepted 1 4))
    × (of_both right_report (two_counted (codes "end 2" ∷ [])) ≡ (bad_line 6 OtherSeries, Accepted 1 2))
unfolding verdicts
more_and_fewer = (refl, refl)

-- lines of a part: a bound below a candidate, a skip at the k-th score; a bound of a series of another part isn't seen
bad_lines : (of_certificate (bounded (codes "310") (codes "311") (codes "250")) ≡ bad_line 4 NoBound)
    × (of_certificate (bounded (codes "311") (codes "311") (codes "311")) ≡ bad_line 6 NotBelow)
    × (of_both right_report (bounded (codes "311") (codes "9") (codes "250")) ≡ (Accepted 2 3, bad_line 5 NoBound))
unfolding verdicts
bad_lines = (refl, refl, refl)

-- rows of a part's series: another value, another name, the best candidate left out; the part that doesn't have the
-- series sees none of these
bad_rows : (part_verdict (ask 1) first_part (report (codes "1 ZZA00000001 2020-07-02 2020-07-02 31.1 C ALPHA"))
    right_counted ≡ bad_line 4 NotACandidate)
    × (of_both (report (codes "1 ZZA00000001 2020-07-01 2020-07-01 31.1 C BRAVO")) right_counted
    ≡ (bad_line 4 NotACandidate, Accepted 1 3))
    × (of_both (report (codes "1 ZZA00000002 2020-07-01 2020-07-01 31.1 C BRAVO")) right_plain
    ≡ (bad_line 4 NotBest, Accepted 1 3))
unfolding verdicts
bad_rows = (refl, refl, refl)

-- ---- the head, which each part sees, also one without series

-- the forms, the queries, the k-th score
heads : (seen [] [] ≡ Refused (refusal Report 1 Form)) × (seen right_report [] ≡ bad_line 1 Form)
    × (part_verdict (ask 2) (part []) right_report right_counted ≡ Refused (refusal Report 2 OtherQuery))
    × (seen right_report (headed (codes "query top 2 highest TMAX") (codes "kth 311")
    (codes "scan ZZA00000001 311 1" ∷ codes "end 1" ∷ [])) ≡ bad_line 2 OtherQuery)
    × (seen right_report (headed (codes "query top 1 highest TMAX") (codes "kth 310")
    (codes "scan ZZA00000001 311 1" ∷ codes "end 1" ∷ [])) ≡ bad_line 3 OtherFloor)
unfolding verdicts
heads = (refl, refl, refl, refl, refl)

-- lines that don't rise, a row of no line that was scanned, a count of another number of rows, and rows out of order
lines_of_heads : (seen right_report (counted (codes "scan ZZA00000002 311 0" ∷ codes "scan ZZA00000001 311 1"
    ∷ codes "end 2" ∷ [])) ≡ bad_line 5 OtherSeries)
    × (seen right_report (counted (codes "skip ZZA00000001 300" ∷ codes "scan ZZA00000002 311 0" ∷ codes "end 2" ∷ []))
    ≡ Refused (refusal Report 3 NotACandidate))
    × (seen right_report (counted (codes "scan ZZA00000001 311 0" ∷ codes "end 1" ∷ [])) ≡ bad_line 4 NotCounted)
    × (part_verdict (ask 2) (part []) (text (codes "extremes report 1" ∷ codes "query top 2 highest TMAX"
    ∷ codes "1 ZZA00000001 2020-07-02 2020-07-02 30.5 C ALPHA"
    ∷ codes "2 ZZA00000002 2020-07-01 2020-07-01 31.1 C BRAVO" ∷ codes "end 2" ∷ []))
    (headed (codes "query top 2 highest TMAX") (codes "kth 305")
    (codes "scan ZZA00000001 311 1" ∷ codes "scan ZZA00000002 311 1" ∷ codes "end 2" ∷ []))
    ≡ Refused (refusal Report 4 OutOfOrder))
unfolding verdicts
lines_of_heads = (refl, refl, refl, refl)

-- ---- what is reported first

-- the head before a line, a line before the next one, and a line before one that is missing
in_turn : (of_certificate (headed (codes "query top 1 highest TMAX") (codes "kth 310")
    (codes "scan ZZA00000001 310 1" ∷ codes "end 1" ∷ [])) ≡ bad_line 3 OtherFloor)
    × (of_certificate (plain (codes "scan ZZA00000001 310" ∷ codes "skip ZZA00000003 311" ∷ codes "end 2" ∷ []))
    ≡ bad_line 4 NoBound)
    × (of_certificate (plain (codes "scan ZZA00000001 310" ∷ codes "end 1" ∷ [])) ≡ bad_line 4 NoBound)
unfolding verdicts
in_turn = (refl, refl, refl)

-- the lines that are printed
printed : (verdict_text (Accepted 120 3000) ≡ codes "accepted 120 of 3000")
    × (verdict_text (bad_line 6 OtherSeries) ≡ codes "refused certificate line 6 OtherSeries")
unfolding digits
printed = (refl, refl)

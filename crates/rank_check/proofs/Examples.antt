-- Worked verdicts, by computation.
use Rattle.std.proofs.Common.{◌≡◌, ℕ, List, [], ◌∷◌, ◌++◌, refl}
use Rattle.std.specs.Prelude.{codes, pos}
use Rattle.std.specs.Fmt.{digits}
use Rattle.jiff_core.specs.Calendar.{days_from_civil, day_count, days_of_years, days_of_months}
use Rattle.ghcn_fields.specs.Meaning.Dates.{year_and_rest, month_and_day}
use Rattle.ghcn_files.specs.declared.element.Element.TheVariants.{Tmax}
use Rattle.ghcn_files.specs.StationLines.{station_of}
use Rattle.ghcn_series.specs.Meaning.Series.{DayValue, Series}
use Rattle.ghcn_series.specs.Series.{Data}
use Rattle.rank_query.specs.declared.score.Score.TheVariants.{Highest}
use Rattle.rank_query.specs.Meaning.Asked.{Query}
use Rattle.rank_query.specs.Asked.{top}
use Rattle.rank_query.specs.Words.{says}
use Rattle.rank_query.specs.Readers.{keyword}
use Rattle.rank_query.specs.WordValues.{number, element}
use Rattle.rank_query.specs.Reading.{no_score_at, score_at, region_at, season_at, period_at, per_at, read_words}
use Rattle.rank_query.specs.Reading.{read_query}
use Rattle.rank_papers.specs.declared.fault.Paper.TheVariants.{Report, Certificate}
use Rattle.rank_check.specs.declared.verdict.Why.{Why}
use Rattle.rank_check.specs.declared.verdict.Why.TheVariants.{Form, OtherQuery, NotACandidate, OutOfOrder, NotBest}
use Rattle.rank_check.specs.declared.verdict.Why.TheVariants.{TooFew, OtherSeries, NoBound, NotBelow, NotCounted}
use Rattle.rank_check.specs.declared.verdict.Why.TheVariants.{OtherFloor}
use Rattle.rank_check.specs.declared.verdict.Verdict.{Verdict}
use Rattle.rank_check.specs.declared.verdict.Verdict.TheVariants.{Accepted, Refused}
use Rattle.rank_check.specs.Tests.{verdict}

-- a series of daily maxima
abbrev pub warm : List ℕ → List DayValue → Series
warm id days = record { id = record { 0 = id }; element = Tmax; days = days }

-- three stations: two with the same greatest value, of which the first has one more day, and one below them
abbrev dataset : Data
dataset = record {
  stations = station_of (codes "ZZA00000001  10.0000   20.0000  100.0    ALPHA")
      ∷ station_of (codes "ZZA00000002  11.0000   21.0000  100.0    BRAVO")
      ∷ station_of (codes "ZZA00000003  12.0000   22.0000  100.0    CHARLIE")
      ∷ [];
  series = warm (codes "ZZA00000001") ((pos 18444, pos 311) ∷ (pos 18445, pos 305) ∷ [])
      ∷ warm (codes "ZZA00000002") ((pos 18444, pos 311) ∷ [])
      ∷ warm (codes "ZZA00000003") ((pos 18444, pos 250) ∷ [])
      ∷ [];
  unlisted = 0;
}

-- the k highest of all
abbrev pub ask : ℕ → Query
ask k = top k (Highest Tmax)

-- lines, each with a line feed
abbrev pub text : List (List ℕ) → List ℕ
text [] = []
text (l ∷ ls) = l ++ 10 ∷ text ls

-- ---- the right report and certificate of the highest one, and what is between their heads and ends

-- the row of the highest
abbrev row : List ℕ
row = codes "1 ZZA00000001 2020-07-01 2020-07-01 31.1 C ALPHA"

-- a report of one row, by what comes after its head
abbrev pub report : List (List ℕ) → List ℕ
report ls = text (codes "extremes report 1" ∷ codes "query top 1 highest TMAX" ∷ ls)

-- the right one
abbrev right_report : List ℕ
right_report = report (row ∷ codes "end 1" ∷ [])

-- a certificate, by what comes after its head
abbrev pub certificate : List (List ℕ) → List ℕ
certificate ls = text (codes "extremes certificate 1" ∷ codes "query top 1 highest TMAX" ∷ ls)

-- two scanned, and then
abbrev scanned : List (List ℕ) → List ℕ
scanned ls = certificate (codes "kth 311" ∷ codes "scan ZZA00000001 311" ∷ codes "scan ZZA00000002 311" ∷ ls)

-- a right one
abbrev right_certificate : List ℕ
right_certificate = scanned (codes "skip ZZA00000003 250" ∷ codes "end 3" ∷ [])

-- the verdict on a report beside the right certificate
abbrev of_report : List ℕ → Verdict
of_report r = verdict (ask 1) dataset r right_certificate

-- and on a certificate beside the right report
abbrev of_certificate : List ℕ → Verdict
of_certificate z = verdict (ask 1) dataset right_report z

-- the line of a report is refused
abbrev bad_row : ℕ → Why → Verdict
bad_row line why = Refused Report line why

-- the line of a certificate is refused
abbrev bad_entry : ℕ → Why → Verdict
bad_entry line why = Refused Certificate line why

-- the right report and certificate are accepted
accepted : verdict (ask 1) dataset right_report right_certificate ≡ Accepted
unfolding digits year_and_rest month_and_day read_query read_words keyword says number element score_at no_score_at
    region_at season_at period_at per_at days_from_civil day_count days_of_years days_of_months
accepted = refl

-- another bound that is above all candidates and below the k-th score, and no skip at all
also_accepted : (of_certificate (scanned (codes "skip ZZA00000003 310" ∷ codes "end 3" ∷ [])) ≡ Accepted)
    × (of_certificate (scanned (codes "scan ZZA00000003 9999" ∷ codes "end 3" ∷ [])) ≡ Accepted)
unfolding digits year_and_rest month_and_day read_query read_words keyword says number element score_at no_score_at
    region_at season_at period_at per_at days_from_civil day_count days_of_years days_of_months
also_accepted = (refl, refl)

-- a skip at the k-th score, a bound below a candidate, a series left out, a wrong number of lines, another k-th score
certificates : (of_certificate (scanned (codes "skip ZZA00000003 311" ∷ codes "end 3" ∷ [])) ≡ bad_entry 6 NotBelow)
    × (of_certificate (scanned (codes "skip ZZA00000003 249" ∷ codes "end 3" ∷ [])) ≡ bad_entry 6 NoBound)
    × (of_certificate (scanned (codes "end 2" ∷ [])) ≡ bad_entry 6 OtherSeries)
    × (of_certificate (scanned (codes "end 3" ∷ [])) ≡ bad_entry 6 Form)
    × (of_certificate (certificate (codes "kth 310" ∷ codes "scan ZZA00000001 311" ∷ codes "scan ZZA00000002 311"
    ∷ codes "skip ZZA00000003 250" ∷ codes "end 3" ∷ [])) ≡ bad_entry 3 OtherFloor)
unfolding digits year_and_rest month_and_day read_query read_words keyword says number element score_at no_score_at
    region_at season_at period_at per_at days_from_civil day_count days_of_years days_of_months
certificates = (refl, refl, refl, refl, refl)

-- a certificate with the first series twice, and this end
abbrev with_one_twice : List ℕ → List ℕ
with_one_twice end =
    certificate (codes "kth 311" ∷ codes "scan ZZA00000001 311" ∷ codes "scan ZZA00000001 311"
    ∷ codes "scan ZZA00000002 311" ∷ codes "skip ZZA00000003 250" ∷ end ∷ [])

-- a line doubled, alone and with its number in the end line, and two ends
doubled : (of_certificate (with_one_twice (codes "end 3")) ≡ bad_entry 8 Form)
    × (of_certificate (with_one_twice (codes "end 4")) ≡ bad_entry 5 OtherSeries)
    × (of_certificate (scanned (codes "skip ZZA00000003 250" ∷ codes "end 3" ∷ codes "end 3" ∷ [])) ≡ bad_entry 8 Form)
    × (of_report (report (row ∷ row ∷ codes "end 2" ∷ [])) ≡ bad_row 4 Form)
unfolding digits year_and_rest month_and_day read_query read_words keyword says number element score_at no_score_at
    region_at season_at period_at per_at days_from_civil day_count days_of_years days_of_months
doubled = (refl, refl, refl, refl)

-- the verdict on a report with this row
abbrev of_one : List ℕ → Verdict
of_one line = of_report (report (line ∷ codes "end 1" ∷ []))

-- another value, another name, another candidate, no row, another query
reports : (of_one (codes "1 ZZA00000001 2020-07-01 2020-07-01 31.0 C ALPHA") ≡ bad_row 3 NotACandidate)
    × (of_one (codes "1 ZZA00000001 2020-07-01 2020-07-01 31.1 C BRAVO") ≡ bad_row 3 NotACandidate)
    × (of_one (codes "1 ZZA00000002 2020-07-01 2020-07-01 31.1 C BRAVO") ≡ bad_row 3 NotBest)
    × (of_report (report (codes "end 0 all" ∷ [])) ≡ bad_row 3 TooFew)
    × (verdict (ask 2) dataset right_report right_certificate ≡ bad_row 2 OtherQuery)
unfolding digits year_and_rest month_and_day read_query read_words keyword says number element score_at no_score_at
    region_at season_at period_at per_at days_from_civil day_count days_of_years days_of_months
reports = (refl, refl, refl, refl, refl)

-- the verdict on a report with these two rows
abbrev two_rows : List (List ℕ) → Verdict
two_rows rows =
    let head : List (List ℕ) = codes "extremes report 1" ∷ codes "query top 2 highest TMAX" ∷ [] in
    verdict (ask 2) dataset (text (head ++ rows ++ codes "end 2" ∷ [])) right_certificate

-- the first one twice, and two in the wrong order; the right two, beside the certificate of another query
of_two : (two_rows (row ∷ codes "2 ZZA00000001 2020-07-01 2020-07-01 31.1 C ALPHA" ∷ []) ≡ bad_row 4 OutOfOrder)
    × (two_rows (codes "1 ZZA00000001 2020-07-02 2020-07-02 30.5 C ALPHA"
    ∷ codes "2 ZZA00000002 2020-07-01 2020-07-01 31.1 C BRAVO" ∷ []) ≡ bad_row 3 NotBest)
    × (two_rows (row ∷ codes "2 ZZA00000002 2020-07-01 2020-07-01 31.1 C BRAVO" ∷ []) ≡ bad_entry 2 OtherQuery)
unfolding digits year_and_rest month_and_day read_query read_words keyword says number element score_at no_score_at
    region_at season_at period_at per_at days_from_civil day_count days_of_years days_of_months
of_two = (refl, refl, refl)

-- ---- version 2

-- a certificate of version 2, by what comes after its head
abbrev counted : List (List ℕ) → Verdict
counted ls = of_certificate
    (text (codes "extremes certificate 2" ∷ codes "query top 1 highest TMAX" ∷ codes "kth 311" ∷ ls))

-- the right counts; these exchanged; a count on a skip; none on a scan; another version
versions : (counted (codes "scan ZZA00000001 311 1" ∷ codes "scan ZZA00000002 311 0" ∷ codes "skip ZZA00000003 250"
    ∷ codes "end 3" ∷ []) ≡ Accepted)
    × (counted (codes "scan ZZA00000001 311 0" ∷ codes "scan ZZA00000002 311 1" ∷ codes "skip ZZA00000003 250"
    ∷ codes "end 3" ∷ []) ≡ bad_entry 4 NotCounted)
    × (counted (codes "scan ZZA00000001 311 1" ∷ codes "scan ZZA00000002 311 0" ∷ codes "skip ZZA00000003 250 0"
    ∷ codes "end 3" ∷ []) ≡ bad_entry 6 Form)
    × (counted (codes "scan ZZA00000001 311" ∷ []) ≡ bad_entry 4 Form)
    × (of_certificate (text (codes "extremes certificate 3" ∷ [])) ≡ bad_entry 1 Form)
unfolding digits year_and_rest month_and_day read_query read_words keyword says number element score_at no_score_at
    region_at season_at period_at per_at days_from_civil day_count days_of_years days_of_months
versions = (refl, refl, refl, refl, refl)

-- ---- of two errors the one of the earlier test is reported

-- the report's query before its rows; the form of the certificate before the report's query
early : (verdict (ask 2) dataset
    (report (codes "1 ZZA00000001 2020-07-01 2020-07-01 31.0 C ALPHA" ∷ codes "end 1" ∷ []))
    right_certificate ≡ bad_row 2 OtherQuery)
    × (verdict (ask 2) dataset right_report (scanned (codes "end 3" ∷ [])) ≡ bad_entry 6 Form)
unfolding digits year_and_rest month_and_day read_query read_words keyword says number element score_at no_score_at
    region_at season_at period_at per_at days_from_civil day_count days_of_years days_of_months
early = (refl, refl)

-- the verdict on a report that has this row and says that there are no more, if two are asked for, beside the
-- certificate of another query
abbrev one_of_two : List ℕ → Verdict
one_of_two line =
    verdict (ask 2) dataset
    (text (codes "extremes report 1" ∷ codes "query top 2 highest TMAX" ∷ line ∷ codes "end 1 all"
    ∷ [])) right_certificate

-- a wrong name before the wrong order; a row before the next one; a row before the number of rows; the number of rows,
-- reported at the end line, before the certificate's query
rows_in_turn : (two_rows (row ∷ codes "2 ZZA00000001 2020-07-01 2020-07-01 31.1 C BRAVO" ∷ [])
    ≡ bad_row 4 NotACandidate)
    × (two_rows (codes "1 ZZA00000001 2020-07-02 2020-07-02 30.5 C ALPHA"
    ∷ codes "2 ZZA00000001 2020-07-01 2020-07-01 31.0 C ALPHA" ∷ []) ≡ bad_row 3 NotBest)
    × (one_of_two (codes "1 ZZA00000001 2020-07-01 2020-07-01 31.0 C ALPHA") ≡ bad_row 3 NotACandidate)
    × (one_of_two row ≡ bad_row 4 TooFew)
unfolding digits year_and_rest month_and_day read_query read_words keyword says number element score_at no_score_at
    region_at season_at period_at per_at days_from_civil day_count days_of_years days_of_months
rows_in_turn = (refl, refl, refl, refl)

-- the verdict on a certificate of these lines beside the right two rows
abbrev beside_two : List (List ℕ) → Verdict
beside_two ls =
    verdict (ask 2) dataset (text (codes "extremes report 1" ∷ codes "query top 2 highest TMAX" ∷ row
    ∷ codes "2 ZZA00000002 2020-07-01 2020-07-01 31.1 C BRAVO" ∷ codes "end 2" ∷ [])) (certificate ls)

-- the verdict on a certificate of these lines beside the right three rows, of which the last has 305
abbrev beside_three : List (List ℕ) → Verdict
beside_three ls =
    verdict (ask 3) dataset (text (codes "extremes report 1" ∷ codes "query top 3 highest TMAX" ∷ row
    ∷ codes "2 ZZA00000002 2020-07-01 2020-07-01 31.1 C BRAVO"
    ∷ codes "3 ZZA00000001 2020-07-02 2020-07-02 30.5 C ALPHA" ∷ codes "end 3" ∷ []))
    (text (codes "extremes certificate 1" ∷ codes "query top 3 highest TMAX" ∷ ls))

-- the certificate's query before its k-th score; the bound before the skip; the series before the skip
entries_in_turn : (beside_two (codes "kth 310" ∷ codes "scan ZZA00000001 311" ∷ codes "end 1" ∷ [])
    ≡ bad_entry 2 OtherQuery)
    × (beside_three (codes "kth 305" ∷ codes "skip ZZA00000001 310" ∷ codes "end 1" ∷ []) ≡ bad_entry 4 NoBound)
    × (of_certificate (scanned (codes "skip ZZA00000004 311" ∷ codes "end 3" ∷ [])) ≡ bad_entry 6 OtherSeries)
unfolding digits year_and_rest month_and_day read_query read_words keyword says number element score_at no_score_at
    region_at season_at period_at per_at days_from_civil day_count days_of_years days_of_months
entries_in_turn = (refl, refl, refl)

-- a line before the next one, and before the number of lines; of two lines too many the first
lines_in_turn : (of_certificate (certificate (codes "kth 311" ∷ codes "scan ZZA00000001 310"
    ∷ codes "scan ZZA00000003 311" ∷ codes "end 2" ∷ [])) ≡ bad_entry 4 NoBound)
    × (of_certificate (certificate (codes "kth 311" ∷ codes "skip ZZA00000001 311" ∷ codes "scan ZZA00000002 310"
    ∷ codes "end 2" ∷ [])) ≡ bad_entry 4 NotBelow)
    × (of_certificate (scanned (codes "skip ZZA00000003 250" ∷ codes "scan ZZA00000004 1" ∷ codes "scan ZZA00000005 1"
    ∷ codes "end 5" ∷ [])) ≡ bad_entry 7 OtherSeries)
unfolding digits year_and_rest month_and_day read_query read_words keyword says number element score_at no_score_at
    region_at season_at period_at per_at days_from_civil day_count days_of_years days_of_months
lines_in_turn = (refl, refl, refl)

-- the report's form before the certificate's; the k-th score before the lines; the series before the bound
firsts : (verdict (ask 1) dataset [] [] ≡ bad_row 1 Form)
    × (of_certificate (certificate (codes "kth 310" ∷ codes "scan ZZA00000001 310" ∷ codes "end 1" ∷ []))
    ≡ bad_entry 3 OtherFloor)
    × (of_certificate (certificate (codes "kth 311" ∷ codes "scan ZZA00000001 311" ∷ codes "skip ZZA00000003 250"
    ∷ codes "end 2" ∷ [])) ≡ bad_entry 5 OtherSeries)
unfolding digits year_and_rest month_and_day read_query read_words keyword says number element score_at no_score_at
    region_at season_at period_at per_at days_from_civil day_count days_of_years days_of_months
firsts = (refl, refl, refl)

-- if there are fewer candidates than were asked for there is no k-th score, and no series may be skipped
without_kth : verdict (ask 10) dataset (text (codes "extremes report 1" ∷ codes "query top 10 highest TMAX" ∷ row
    ∷ codes "2 ZZA00000002 2020-07-01 2020-07-01 31.1 C BRAVO"
    ∷ codes "3 ZZA00000001 2020-07-02 2020-07-02 30.5 C ALPHA"
    ∷ codes "4 ZZA00000003 2020-07-01 2020-07-01 25.0 C CHARLIE" ∷ codes "end 4 all" ∷ []))
    (text (codes "extremes certificate 1" ∷ codes "query top 10 highest TMAX" ∷ codes "kth none"
    ∷ codes "skip ZZA00000001 311" ∷ codes "end 1" ∷ [])) ≡ bad_entry 4 NotBelow
unfolding digits year_and_rest month_and_day read_query read_words keyword says number element score_at no_score_at
    region_at season_at period_at per_at days_from_civil day_count days_of_years days_of_months
without_kth = refl

-- of version 2: the series, the bound and the skip before the count of the same line, and that before the next line and
-- the number of lines
counts_in_turn : (counted (codes "scan ZZA00000002 311 1" ∷ codes "end 1" ∷ []) ≡ bad_entry 4 OtherSeries)
    × (counted (codes "scan ZZA00000001 310 0" ∷ codes "end 1" ∷ []) ≡ bad_entry 4 NoBound)
    × (counted (codes "skip ZZA00000001 311" ∷ codes "end 1" ∷ []) ≡ bad_entry 4 NotBelow)
    × (counted (codes "scan ZZA00000001 311 0" ∷ codes "scan ZZA00000002 310 0" ∷ codes "end 2" ∷ [])
    ≡ bad_entry 4 NotCounted)
    × (counted (codes "scan ZZA00000001 311 2" ∷ codes "end 1" ∷ []) ≡ bad_entry 4 NotCounted)
unfolding digits year_and_rest month_and_day read_query read_words keyword says number element score_at no_score_at
    region_at season_at period_at per_at days_from_civil day_count days_of_years days_of_months
counts_in_turn = (refl, refl, refl, refl, refl)

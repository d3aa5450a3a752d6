-- Worked verdicts on lines by themselves, and of cold spells, by computation.
use Rattle.std.proofs.Common.{◌≡◌, ℕ, Bool, true, false, List, [], ◌∷◌, refl, Option, None, Some}
use Rattle.std.specs.Prelude.{codes, pos, neg_ℤ, ℤ}
use Rattle.std.specs.Fmt.{digits}
use Rattle.jiff_core.specs.Calendar.{days_from_civil, day_count, days_of_years, days_of_months}
use Rattle.ghcn_fields.specs.Meaning.Dates.{year_and_rest, month_and_day}
use Rattle.ghcn_files.specs.declared.element.Element.TheVariants.{Tmin}
use Rattle.ghcn_files.specs.StationLines.{station_of}
use Rattle.ghcn_series.specs.Meaning.Series.{DayValue, Series}
use Rattle.ghcn_series.specs.Series.{Data}
use Rattle.rank_query.specs.declared.score.Score.TheVariants.{Cold}
use Rattle.rank_query.specs.Asked.{top}
use Rattle.rank_query.specs.Words.{says}
use Rattle.rank_query.specs.Readers.{keyword}
use Rattle.rank_query.specs.WordValues.{number, heat}
use Rattle.rank_query.specs.Reading.{no_score_at, score_at, region_at, season_at, period_at, per_at, read_words}
use Rattle.rank_query.specs.Reading.{read_query}
use Rattle.rank_check.specs.declared.verdict.Why.{Why}
use Rattle.rank_check.specs.declared.verdict.Why.TheVariants.{NotACandidate, NotBest}
use Rattle.rank_check.specs.declared.verdict.Why.TheVariants.{OtherSeries, NoBound, NotBelow, NotCounted}
use Rattle.rank_check.specs.declared.verdict.Verdict.TheVariants.{Accepted}
use Rattle.ghcn_fields.specs.Faults.{first_failing}
use Rattle.ghcn_files.specs.declared.station.Station.{Station}
use Rattle.rank_scores.specs.declared.candidate.Candidate.{Candidate}
use Rattle.rank_scores.specs.Runs.{run_from}
use Rattle.rank_papers.specs.Report.{Named}
use Rattle.rank_papers.specs.Certificate.{Line}
use Rattle.rank_check.specs.Tests.{verdict}
use Rattle.rank_check.specs.Pieces.{is_morsel, piece_tests}
use Rattle.rank_check.proofs.Examples.{warm, ask, text}

-- ---- pieces

-- the stations
abbrev at_alpha : Station
at_alpha = station_of (codes "ZZA00000001  10.0000   20.0000  100.0    ALPHA")

abbrev at_bravo : Station
at_bravo = station_of (codes "ZZA00000002  11.0000   21.0000  100.0    BRAVO")

abbrev at_charlie : Station
at_charlie = station_of (codes "ZZA00000003  12.0000   22.0000  100.0    CHARLIE")

-- their series
abbrev of_alpha : Series
of_alpha = warm (codes "ZZA00000001") ((pos 18444, pos 311) ∷ (pos 18445, pos 305) ∷ [])

abbrev of_bravo : Series
of_bravo = warm (codes "ZZA00000002") ((pos 18444, pos 311) ∷ [])

abbrev of_charlie : Series
of_charlie = warm (codes "ZZA00000003") ((pos 18444, pos 250) ∷ [])

-- the worst row, which is the only one
abbrev worst : Candidate
worst = record { id = record { 0 = codes "ZZA00000001" }; first = pos 18444; last = pos 18444; score = pos 311 }

-- its row
abbrev own_row : List Named
own_row = (worst, codes "ALPHA") ∷ []

-- a line
abbrev line : Bool → Station → ℤ → Line
line skipped st bound = record { id = st.id; bound = bound; skipped = skipped }

-- the judgement of a line by itself, of the highest one
abbrev alone : Station → Series → Line → ℕ → List Named → Option Why
alone st u e printed rows = first_failing (piece_tests (ask 1) st (Some u) e printed rows (Some worst))

-- right lines; a row left out, without its count and with it; a bound that is too low; a skip at the k-th score
lines : (alone at_alpha of_alpha (line false at_alpha (pos 311)) 1 own_row ≡ None)
    × (alone at_bravo of_bravo (line false at_bravo (pos 311)) 0 [] ≡ None)
    × (alone at_charlie of_charlie (line true at_charlie (pos 250)) 0 [] ≡ None)
    × (alone at_alpha of_alpha (line false at_alpha (pos 311)) 0 [] ≡ Some NotBest)
    × (alone at_alpha of_alpha (line false at_alpha (pos 311)) 1 [] ≡ Some NotCounted)
    × (alone at_charlie of_charlie (line true at_charlie (pos 249)) 0 [] ≡ Some NoBound)
    × (alone at_charlie of_charlie (line true at_charlie (pos 311)) 0 [] ≡ Some NotBelow)
    × (alone at_bravo of_alpha (line false at_alpha (pos 311)) 1 own_row ≡ Some OtherSeries)
    × (alone at_alpha of_alpha (line false at_alpha (pos 311)) 1 ((worst, codes "BRAVO") ∷ []) ≡ Some NotACandidate)
lines = (refl, refl, refl, refl, refl, refl, refl, refl, refl)

-- a station with a morsel, and none in a period without its days
absent : (is_morsel (ask 1) at_charlie (Some of_charlie) ≡ true)
    × (is_morsel (record (ask 1) { period = Some (pos 18628, pos 18629) }) at_charlie (Some of_charlie) ≡ false)
absent = (refl, refl)

-- a row that no line of the files gives
abbrev warmer : Candidate
warmer = record { id = record { 0 = codes "ZZA00000001" }; first = pos 18444; last = pos 18444; score = pos 312 }

-- the second row of the first station
abbrev second : Candidate
second = record { id = record { 0 = codes "ZZA00000001" }; first = pos 18445; last = pos 18445; score = pos 305 }

-- of a line by itself: the series, the count, the candidate and its name, a row left out, the bound, and at last the
-- skip, here of the three highest, whose k-th score is 305
alone_in_turn : (alone at_bravo of_alpha (line false at_alpha (pos 311)) 2 own_row ≡ Some OtherSeries)
    × (alone at_alpha of_alpha (line false at_alpha (pos 311)) 2 ((worst, codes "BRAVO") ∷ []) ≡ Some NotCounted)
    × (alone at_alpha of_alpha (line false at_alpha (pos 311)) 1 ((warmer, codes "ALPHA") ∷ []) ≡ Some NotACandidate)
    × (alone at_alpha of_alpha (line false at_alpha (pos 310)) 0 [] ≡ Some NotBest)
    × (first_failing (piece_tests (ask 3) at_alpha (Some of_alpha) (line true at_alpha (pos 310)) 2
    ((worst, codes "ALPHA") ∷ (second, codes "ALPHA") ∷ []) (Some second)) ≡ Some NoBound)
alone_in_turn = (refl, refl, refl, refl, refl)

-- ---- cold spells

-- a series of daily minima
abbrev frost : List ℕ → List DayValue → Series
frost id days = record { id = record { 0 = id }; element = Tmin; days = days }

-- two stations: of one the third day isn't as cold as -10 degrees, and of the other two days are, from a leap day on
abbrev frosts : Data
frosts = record {
  stations = station_of (codes "ZZA00000001  10.0000   20.0000  100.0    ALPHA")
      ∷ station_of (codes "ZZA00000002  11.0000   21.0000  100.0    BRAVO")
      ∷ [];
  series = frost (codes "ZZA00000001") ((pos 18262, neg_ℤ (pos 100)) ∷ (pos 18263, neg_ℤ (pos 105))
      ∷ (pos 18264, neg_ℤ (pos 99)) ∷ (pos 18265, neg_ℤ (pos 110)) ∷ [])
      ∷ frost (codes "ZZA00000002") ((pos 18321, neg_ℤ (pos 150)) ∷ (pos 18322, neg_ℤ (pos 120)) ∷ [])
      ∷ [];
  unlisted = 0;
}

-- the three longest of their spells, by length, then by ID
cold_accepted : verdict (top 3 (Cold (neg_ℤ (pos 100)))) frosts
    (text (codes "extremes report 1" ∷ codes "query top 3 cold -10.0"
    ∷ codes "1 ZZA00000001 2020-01-01 2020-01-02 2 days ALPHA"
    ∷ codes "2 ZZA00000002 2020-02-29 2020-03-01 2 days BRAVO"
    ∷ codes "3 ZZA00000001 2020-01-04 2020-01-04 1 days ALPHA" ∷ codes "end 3" ∷ []))
    (text (codes "extremes certificate 2" ∷ codes "query top 3 cold -10.0" ∷ codes "kth 1"
    ∷ codes "scan ZZA00000001 32 2" ∷ codes "scan ZZA00000002 32 1" ∷ codes "end 2" ∷ [])) ≡ Accepted
unfolding digits year_and_rest month_and_day read_query read_words keyword says number heat score_at no_score_at
    region_at season_at period_at per_at days_from_civil day_count days_of_years days_of_months run_from
cold_accepted = refl

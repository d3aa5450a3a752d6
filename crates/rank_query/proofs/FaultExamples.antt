-- Worked examples of the errors of queries, by computation.
use Rattle.rank_query.proofs.Cited.{◌≡◌, ℕ, [], ◌∷◌, refl, inl, inr, Err, replicate, codes, arith, pos, map, repeat}
use Rattle.rank_query.proofs.Cited.{ints, year_and_rest, month_and_day, Tmax, Lowest, QueryTooLong, UnexpectedWord}
use Rattle.rank_query.proofs.Cited.{QueryEnds, OutOfLimits, BadDate, BadBox, words_of, says, keyword, number, element}
use Rattle.rank_query.proofs.Cited.{edge, place_behind, BeginQuery, EndsTooEarly, StandsIn, no_score_at, score_at}
use Rattle.rank_query.proofs.Cited.{region_at, season_at, period_at, per_at, read_words, read_query}
use Rattle.rank_query.specs.Asked.{top}
use Rattle.std.specs.Fmt.{digits}
use Rattle.rank_query.specs.FaultKinds.{number as a_number, heat as a_heat, season as a_season, date as a_date}
use Rattle.rank_query.specs.FaultKinds.{dates as two_dates, other as another}
use Rattle.rank_query.proofs.FaultPlaces.{fault_stands, one_place}
use Rattle.rank_query.proofs.Examples.{out_of_limits, ends, scores_refused, boxes_refused, dates_refused}

-- a text of 257 blanks is too long, one of 256 has no word
too_long : (read_query (replicate 257 32) ≡ Err QueryTooLong) × (read_query (replicate 256 32) ≡ Err QueryEnds)
unfolding read_query read_words keyword says number element score_at no_score_at region_at season_at period_at per_at
too_long = (refl, refl)

-- the length is that in bytes: 129 letters of two bytes are too long, 128 are one word
two_byte_letters : (read_query (repeat 129 (195 ∷ 169 ∷ [])) ≡ Err QueryTooLong)
    × (read_query (repeat 128 (195 ∷ 169 ∷ [])) ≡ Err (UnexpectedWord 1))
unfolding read_query read_words keyword says number score_at no_score_at region_at season_at period_at per_at
two_byte_letters = (refl, refl)

-- what the grammar has after words, of which the nearest comes first: K and the days of a sum, the four edges of a
-- box, no fifth one, both dates, and after codes whatever comes next
places_behind : map place_behind ((codes "top" ∷ []) ∷ (codes "sum" ∷ codes "1" ∷ codes "top" ∷ []) ∷ [])
    ≡ a_number ∷ a_number ∷ []
places_behind = refl

-- of a box: after four numbers no edge comes
edges_behind : map place_behind (
    (codes "box" ∷ codes "dry" ∷ [])
    ∷ (codes "-1.5" ∷ codes "box" ∷ [])
    ∷ (codes "7" ∷ codes "0" ∷ codes "-1.5" ∷ codes "box" ∷ [])
    ∷ (codes "8" ∷ codes "7" ∷ codes "0" ∷ codes "-1.5" ∷ codes "box" ∷ [])
    ∷ [])
    ≡ edge ∷ edge ∷ edge ∷ another ∷ []
edges_behind = refl

-- degrees, months and the days of a season
others_behind : map place_behind ((codes "hot" ∷ codes "1" ∷ []) ∷ (codes "30" ∷ codes "hot" ∷ [])
    ∷ (codes "cold" ∷ codes "1" ∷ []) ∷ (codes "30" ∷ codes "cold" ∷ [])
    ∷ (codes "months" ∷ codes "dry" ∷ []) ∷ (codes "1..2" ∷ codes "months" ∷ [])
    ∷ (codes "days" ∷ codes "dry" ∷ []) ∷ (codes "01-01..02-29" ∷ codes "days" ∷ []) ∷ [])
    ≡ a_heat ∷ another ∷ a_heat ∷ another ∷ a_season ∷ another ∷ two_dates ∷ another ∷ []
others_behind = refl

-- of a period: "to" may be a country too
dates_behind : map place_behind (
    (codes "from" ∷ codes "dry" ∷ [])
    ∷ (codes "2020-07-01" ∷ codes "from" ∷ [])
    ∷ (codes "to" ∷ codes "2020-07-01" ∷ codes "from" ∷ [])
    ∷ (codes "to" ∷ codes "country" ∷ [])
    ∷ (codes "country" ∷ codes "dry" ∷ [])
    ∷ [])
    ≡ a_date ∷ another ∷ a_date ∷ another ∷ another ∷ []
dates_behind = refl

-- where errors are: at an element that can't be ranked so, at a northern edge south of the southern one,
-- at the end, past 256 bytes, at a number, at a date
places : StandsIn (codes "top 1 lowest PRCP") (UnexpectedWord 4)
    × StandsIn (codes "top 1 highest TMAX box 10 0 -10") (BadBox 8) × StandsIn (codes "top 1 highest") QueryEnds
    × StandsIn (replicate 257 32) QueryTooLong
    × StandsIn (codes "top 1001 highest TMAX") (OutOfLimits 2)
    × StandsIn (codes "top 1 highest TMAX from 2019-02-29 to 2019-03-01") (BadDate 6)
places = (
  fault_stands (codes "top 1 lowest PRCP") (UnexpectedWord 4) scores_refused.0,
  fault_stands (codes "top 1 highest TMAX box 10 0 -10") (BadBox 8) boxes_refused.1,
  fault_stands (codes "top 1 highest") QueryEnds ends.2,
  fault_stands (replicate 257 32) QueryTooLong too_long.0,
  fault_stands (codes "top 1001 highest TMAX") (OutOfLimits 2) out_of_limits.0,
  fault_stands (codes "top 1 highest TMAX from 2019-02-29 to 2019-03-01") (BadDate 6) dates_refused.0,
)

-- words that begin a query, since TMAX can follow
begun : BeginQuery (codes "top" ∷ codes "007" ∷ codes "lowest" ∷ [])
begun = record {
  query = top 7 (Lowest Tmax);
  can_be_asked = record { k = refl; score = refl; region = refl; season = refl; period = refl };
  more = codes "TMAX" ∷ [];
  spelt = (refl, (record { some_digit = omega arith; digits_alone = refl; value = refl }, (refl, (refl, tt))));
}

-- an error is at no word before or after its own
other_places : (n : ℕ) → StandsIn (codes "top 1 lowest PRCP") (UnexpectedWord n) → n ≡ 4
other_places n (inl long) = absurd (omega (arith, long.0))
other_places n (inr other) =
    elim places.0 [
      | inl long ↦ absurd (omega (arith, long.0))
      | inr here ↦ one_place
          (words_of (codes "top 1 lowest PRCP")) n 4 other.1 here.1
    ]

-- a second date before the first
too_early : EndsTooEarly (codes "top" ∷ codes "1" ∷ codes "dry" ∷ codes "from" ∷ codes "2020-07-02" ∷ codes "to" ∷ [])
    (codes "2020-07-01")
unfolding digits year_and_rest month_and_day
too_early =
    record {
      earlier = codes "top" ∷ codes "1" ∷ codes "dry" ∷ codes "from" ∷ [];
      first = pos 18445;
      last = pos 18444;
      are_days = refl;
      period = refl;
      date = refl;
      order = omega (arith, ints);
    }

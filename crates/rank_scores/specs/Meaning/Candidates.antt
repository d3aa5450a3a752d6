-- The candidates of a series under a query.
use Rattle.std.specs.Prelude.{◌≡◌, ℕ, Bool, true, false, ◌&&◌, List, [], ◌∷◌, length, filter, Some, ℤ, pos, neg_ℤ, ◌+ℤ◌}
use Rattle.std.specs.Prelude.{int_le, int_lt}
use Rattle.std.specs.Option.{option_map_or}
use Rattle.ghcn_series.specs.Meaning.Series.{DayValue, Series, value_on}
use Rattle.rank_query.specs.declared.score.Score.{Score}
use Rattle.rank_query.specs.declared.score.Score.TheVariants.{Highest, Lowest, Sum, Dry, Wet, Hot, Cold}
use Rattle.rank_query.specs.Meaning.Asked.{Query}
use Rattle.rank_query.specs.Meaning.Admits.{admits_day}
use Rattle.rank_scores.specs.declared.candidate.Candidate.{Candidate}
use Rattle.rank_scores.specs.Meaning.Order.{precedes}
use Rattle.rank_scores.specs.Meaning.Groups.{are_rivals}
use Rattle.rank_scores.specs.Meaning.Runs.{IsRun}

-- what a score ranks: single days by a number made of their value, windows of n days by the sum of their values, or
-- spells of days whose values pass a test, by their length
pub data Shape : Type 0 where
  Days : (ℤ → ℤ) → Shape
  Windows : ℕ → Shape
  Spells : (ℤ → Bool) → Shape

-- what a score of the query language ranks: of spells, days of less than 1 mm, of at least 1 mm, of at least that many
-- tenths of a degree, or of at most that many; precipitation is in tenths of a millimetre
abbrev pub shape : Score → Shape
shape (Highest e) = Days (λ v. v)
shape (Lowest e) = Days neg_ℤ
shape (Sum n e) = Windows n
shape Dry = Spells (λ v. int_lt v (pos 10))
shape Wet = Spells (λ v. int_le (pos 10) v)
shape (Hot t) = Spells (λ v. int_le t v)
shape (Cold t) = Spells (λ v. int_le v t)

-- the admitted usable days of a series, with their values
abbrev pub admitted : Query → Series → List DayValue
admitted q s = filter (λ x. admits_day q x.0) s.days

-- those of some days that lie from a first to a last one
abbrev pub days_within : ℤ → ℤ → List DayValue → List DayValue
days_within first last days = filter (λ x. int_le first x.0 && int_le x.0 last) days

-- the sum of the values of some days
abbrev pub sum_of_values : List DayValue → ℤ
sum_of_values [] = pos 0
sum_of_values (x ∷ xs) = x.1 +ℤ sum_of_values xs

-- from this first to this last day there are n days, each has a value, and the score is the sum of their values
pub record IsWindow (days : List DayValue) (n : ℕ) (first last score : ℤ) : Type 0 where
  pub ends : last +ℤ pos 1 ≡ first +ℤ pos n
  pub whole : length (days_within first last days) ≡ n
  pub sum : score ≡ sum_of_values (days_within first last days)

-- the day has a value, and the value passes the test
abbrev pub is_such : (ℤ → Bool) → List DayValue → ℤ → Bool
is_such test days a = option_map_or test (value_on days a) false

-- if these are the admitted usable days: from this first to this last day there is a contender with this score, which
-- is a day, a window of n days or a whole spell
abbrev pub IsContender : Shape → List DayValue → ℤ → ℤ → ℤ → Type 0
IsContender (Days f) days first last score = (last ≡ first) × (v : ℤ) × (value_on days first ≡ Some v) × (score ≡ f v)
IsContender (Windows n) days first last score = IsWindow days n first last score
IsContender (Spells test) days first last score =
    (len : ℕ) × (score ≡ pos len) × IsRun (is_such test days) first last len

-- c belongs to the station of the series, and is a contender from its first to its last day with its score
abbrev pub IsContenderOf : Query → Series → Candidate → Type 0
IsContenderOf q s c = (c.id ≡ s.id) × IsContender (shape q.score) (admitted q s) c.first c.last c.score

-- a candidate is a contender of the series that none of its rivals precedes
abbrev pub IsCandidateOf : Query → Series → Candidate → Type 0
IsCandidateOf q s c = IsContenderOf q s c
    × ((d : Candidate) → IsContenderOf q s d → are_rivals q.per d c ≡ true → precedes d c ≡ false)

-- The contenders and the candidates of a series as lists.
use Rattle.std.specs.Prelude.{◌↔◌, ℕ, zero, suc, Bool, if◌then◌else◌, List, map, Option, None, Some, ℤ, pos, ◌+ℤ◌, ◌-ℤ◌}
use Rattle.std.specs.Prelude.{int_le, int_lt}
use Rattle.std.specs.List.{filter_map, Contains}
use Rattle.std.specs.List.Sorted.{IsStrictlySortedBy}
use Rattle.std.specs.Option.{option_map}
use Rattle.std.specs.Ordering.{int_cmp}
use Rattle.ghcn_files.specs.declared.station.StationId.{StationId}
use Rattle.ghcn_series.specs.Meaning.Series.{DayValue, Series, value_on}
use Rattle.rank_query.specs.Meaning.Asked.{Query}
use Rattle.rank_scores.specs.declared.candidate.Candidate.{Candidate}
use Rattle.rank_scores.specs.declared.spell.Spell.{Spell}
use Rattle.rank_scores.specs.declared.spell.Spell.TheVariants as spells
use Rattle.rank_scores.specs.Groups.{leaders}
use Rattle.rank_scores.specs.Runs.{run_len, begins_run}
use Rattle.rank_scores.specs.Meaning.Candidates.{Shape, Days, Windows, Spells, shape, admitted, is_such, IsContenderOf}
use Rattle.rank_scores.specs.Meaning.Candidates.{IsCandidateOf}

-- the test that the values of a spell's days pass: less than 1 mm, at least 1 mm, at least that many tenths of a
-- degree, at most that many; precipitation is in tenths of a millimetre
abbrev pub test_of : Spell → ℤ → Bool
test_of spells.Dry v = int_lt v (pos 10)
test_of spells.Wet v = int_le (pos 10) v
test_of (spells.Hot t) v = int_le t v
test_of (spells.Cold t) v = int_le v t

-- the sum of two numbers, if there are both
abbrev pub plus : Option ℤ → Option ℤ → Option ℤ
plus None b = None
plus (Some a) None = None
plus (Some a) (Some b) = Some (a +ℤ b)

-- the total of the n days from a on, if each has a value
abbrev pub window_total : List DayValue → ℕ → ℤ → Option ℤ
window_total days zero a = Some (pos 0)
window_total days (suc n) a = plus (value_on days a) (window_total days n (a +ℤ pos 1))

-- the last day and the score of the contender that begins on one of the days, if one does
abbrev pub begun : Shape → List DayValue → DayValue → Option (ℤ × ℤ)
begun (Days f) days x = Some (x.0, f x.1)
begun (Windows n) days x = option_map (λ total. (x.0 +ℤ pos n -ℤ pos 1, total)) (window_total days n x.0)
begun (Spells test) days x =
    if begins_run (is_such test days) x.0
    then Some (x.0 +ℤ pos (run_len (is_such test days) x.0) -ℤ pos 1, pos (run_len (is_such test days) x.0))
    else None

-- the contender of a station that begins on a day, by its last day and its score
abbrev pub candidate : StationId → ℤ → ℤ × ℤ → Candidate
candidate id first e = record { id = id; first = first; last = e.0; score = e.1 }

-- the contenders of a station, if these are its admitted usable days, by increasing first day
abbrev pub contenders_among : StationId → Shape → List DayValue → List Candidate
contenders_among id sh days = filter_map (λ x. option_map (candidate id x.0) (begun sh days x)) days

-- the contenders of a series, its station taken as admitted
abbrev pub contenders : Query → Series → List Candidate
contenders q s = contenders_among s.id (shape q.score) (admitted q s)

-- the candidates of a series, its station taken as admitted: contenders that no rival precedes
abbrev pub candidates : Query → Series → List Candidate
candidates q s = leaders q.per (contenders q s)

-- the list has the contenders of the series, and nothing else
abbrev pub AreTheContenders : Query → Series → List Candidate → Type 0
AreTheContenders q s list = (c : Candidate) → Contains list c ↔ IsContenderOf q s c

-- the list has the candidates of the series, and nothing else
abbrev pub AreTheCandidates : Query → Series → List Candidate → Type 0
AreTheCandidates q s list = (c : Candidate) → Contains list c ↔ IsCandidateOf q s c

-- each begins on a later day than those before it
abbrev pub RiseByFirstDay : List Candidate → Type 0
RiseByFirstDay list = IsStrictlySortedBy int_cmp (map (λ c. c.first) list)

-- The series that a query is about, and all its candidates.
use Rattle.std.specs.Prelude.{◌≡◌, ◌<◌, ℤ, ◌≤ℤ◌, Option, Some, None, Bool, not, if◌then◌else◌, ◌==◌, List, length, filter}
use Rattle.std.specs.List.{flat_map, filter_map, AllByRecursion}
use Rattle.std.specs.Ordering.{is_le, nat_cmp}
use Rattle.std.specs.Cmp.Lexicographic.{slice_cmp}
use Rattle.ghcn_fields.specs.Sorting.{sorted_by}
use Rattle.ghcn_files.specs.declared.station.StationId.{StationId}
use Rattle.ghcn_files.specs.declared.station.Station.{Station}
use Rattle.ghcn_series.specs.Meaning.Series.{Series}
use Rattle.ghcn_series.specs.Series.{Data, IsSeries, series_of}
use Rattle.rank_query.specs.Meaning.Asked.{Query, score_element}
use Rattle.rank_query.specs.Admits.{admits_station}
use Rattle.rank_scores.specs.declared.candidate.Candidate.{Candidate}
use Rattle.rank_scores.specs.Meaning.Candidates.{admitted, IsCandidateOf}
use Rattle.rank_scores.specs.Candidates.{candidates}
use Rattle.rank_scores.specs.Order.{best, kth_score}

-- the series of the query's element of each admitted station that has one, in file order
abbrev pub admitted_series : Query → Data → List Series
admitted_series q c = filter_map (λ st. series_of c st.id (score_element q.score))
    (filter (admits_station q) c.stations)

-- all candidates of a query
abbrev pub all_candidates : Query → Data → List Candidate
all_candidates q c = flat_map (candidates q) (admitted_series q c)

-- an ID that comes before another, or is the same
abbrev pub id_comes_first : StationId → StationId → Bool
id_comes_first a b = is_le (slice_cmp nat_cmp a.0 b.0)

-- the series has an admitted usable day
abbrev pub has_admitted : Query → Series → Bool
has_admitted q s = not (length (admitted q s) == 0)

-- those of these series that have an admitted day, by increasing ID
abbrev pub morsels : Query → Data → List Series
morsels q c = sorted_by (λ a b. id_comes_first a.id b.id) (filter (has_admitted q) (admitted_series q c))

-- a value, if it passes
abbrev pub passing : {A : Type 0} → (A → Bool) → Option A → Option A
passing test None = None
passing test (Some x) = if test x then Some x else None

-- the series that a query is about at a station: that of its element, if it admits the station
abbrev pub series_at : Query → Data → Station → Option Series
series_at q c st = if admits_station q st then series_of c st.id (score_element q.score) else None

-- the morsel at a station: the series there, if it has an admitted day
abbrev pub morsel_at : Query → Data → Station → Option Series
morsel_at q c st = passing (has_admitted q) (series_at q c st)

-- a series that a query asks about: of the query's element, with an admitted usable day
pub record IsAskedOf (q : Query) (s : Series) : Type 0 where
  pub series : IsSeries s
  pub element : s.element ≡ score_element q.score
  pub admitted_day : 0 < length (admitted q s)

-- the best candidates of a query
abbrev pub best_of_query : Query → Data → List Candidate
best_of_query q c = best q.k (all_candidates q c)

-- the score of the k-th best candidate of a query
abbrev pub kth_of_query : Query → Data → Option ℤ
kth_of_query q c = kth_score q.k (all_candidates q c)

-- no listed candidate of the series has a score above this number
abbrev pub IsAbove : Query → Series → ℤ → Type 0
IsAbove q s bound = AllByRecursion (λ c. c.score ≤ℤ bound) (candidates q s)

-- no candidate of the series has a score above this number
abbrev pub NoneIsAbove : Query → Series → ℤ → Type 0
NoneIsAbove q s bound = (c : Candidate) → IsCandidateOf q s c → c.score ≤ℤ bound

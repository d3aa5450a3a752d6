-- One line of a certificate of version 2 by itself, and one station without a line: a certificate is checked in pieces,
-- in any order.
use Rattle.std.specs.Prelude.{◌≡◌, ◌↔◌, ℕ, ◌==◌, Bool, true, false, ◌&&◌, ◌||◌, not, List, [], ◌∷◌, length, Option}
use Rattle.std.specs.Prelude.{None}
use Rattle.std.specs.Prelude.{Some, ℤ}
use Rattle.std.specs.List.{list_all, Contains, AllByRecursion}
use Rattle.std.specs.Option.{option_map, option_map_or}
use Rattle.std.specs.Ordering.{is_eq}
use Rattle.ghcn_fields.specs.Meaning.Bytes.{same_bytes}
use Rattle.ghcn_files.specs.declared.station.Station.{Station}
use Rattle.ghcn_files.specs.Meaning.Ids.{same_id}
use Rattle.ghcn_series.specs.Meaning.Series.{Series}
use Rattle.rank_query.specs.Meaning.Asked.{Query}
use Rattle.rank_query.specs.Admits.{admits_station}
use Rattle.rank_scores.specs.declared.candidate.Candidate.{Candidate}
use Rattle.rank_scores.specs.Candidates.{candidates}
use Rattle.rank_scores.specs.Meaning.Order.{precedes}
use Rattle.rank_scores.specs.Order.{full_cmp, bound_is_below}
use Rattle.rank_scores.specs.Morsels.{has_admitted, IsAbove}
use Rattle.rank_papers.specs.Meaning.Report.{trimmed}
use Rattle.rank_papers.specs.Report.{Named}
use Rattle.rank_papers.specs.Certificate.{Line}
use Rattle.rank_papers.specs.Papers.{of_rows, AreInOrder}
use Rattle.rank_check.specs.declared.verdict.Why.{Why}
use Rattle.rank_check.specs.declared.verdict.Why.TheVariants.{NotACandidate, NotBest, OtherSeries, NoBound, NotBelow}
use Rattle.rank_check.specs.declared.verdict.Why.TheVariants.{NotCounted}
use Rattle.rank_check.specs.Tests.{is_one_of, is_above}

-- ---- what a piece looks at

-- the series that a query asks about at a station is a morsel: the query admits the station, and a day of the series
abbrev pub is_morsel : Query → Station → Option Series → Bool
is_morsel q st s = admits_station q st && option_map_or (has_admitted q) s false

-- a candidate is the worst row or precedes it; if there are fewer rows than were asked for, there is no worst row,
-- and each is within
abbrev pub is_within_worst : Option Candidate → Candidate → Bool
is_within_worst None c = true
is_within_worst (Some worst) c = precedes c worst || is_eq (full_cmp c worst)

-- the k-th score: that of the worst row, if there is one
abbrev pub score_of : Option Candidate → Option ℤ
score_of worst = option_map (λ c. c.score) worst

-- rows of one report: each precedes the next, and none comes after the worst
pub record AreRowsWithin (worst : Option Candidate) (rows : List Candidate) : Type 0 where
  pub order : AreInOrder rows
  pub within : AllByRecursion (λ c. is_within_worst worst c ≡ true) rows

-- ---- the tests of a line

-- a row is a candidate of the series, with the name of the station
abbrev pub is_row_of : Query → Station → Series → Named → Bool
is_row_of q st s row = is_one_of (candidates q s) row.0 && same_bytes (trimmed st.name) row.1

-- each candidate of the series that is the worst row or precedes it is a row
abbrev pub has_all : Query → Option Candidate → List Candidate → Series → Bool
has_all q worst rows s = list_all (λ c. not (is_within_worst worst c) || is_one_of rows c) (candidates q s)

-- the tests of the candidates of a series against the rows, the bound and the k-th score
abbrev pub last_tests : Query → Series → Line → List Candidate → Option Candidate → List (Bool × Why)
last_tests q s e rows worst =
    (has_all q worst rows s, NotBest)
    ∷ (is_above q e.bound s, NoBound)
    ∷ (not e.skipped || bound_is_below (score_of worst) e.bound, NotBelow)
    ∷ []

-- the tests of a line with its count, of its station and series, and of the report's rows of the station, in their
-- order
abbrev pub piece_tests : Query → Station → Option Series → Line → ℕ → List Named → Option Candidate → List (Bool × Why)
piece_tests q st s e printed rows worst =
    (same_id st.id e.id && is_morsel q st s, OtherSeries)
    ∷ (printed == length rows, NotCounted)
    ∷ (option_map_or (λ u. list_all (is_row_of q st u) rows) s true, NotACandidate)
    ∷ (option_map_or (has_all q worst (of_rows rows)) s true, NotBest)
    ∷ (option_map_or (is_above q e.bound) s true, NoBound)
    ∷ (not e.skipped || bound_is_below (score_of worst) e.bound, NotBelow)
    ∷ []

-- ---- a right line

-- the line names a morsel of this station; the rows are exactly its candidates that are the worst row or precede it,
-- each with the station's name, and the count is theirs; no candidate scores above the bound; and it is skipped
-- only if the bound is strictly below the k-th score
pub record IsRightPiece (q : Query) (st : Station) (s : Option Series) (e : Line) (printed : ℕ) (rows : List Named)
    (worst : Option Candidate) : Type 0 where
  pub series : Series
  pub there : s ≡ Some series
  pub named : st.id ≡ e.id
  pub morsel : is_morsel q st s ≡ true
  pub counted : printed ≡ length rows
  pub rows_are : (c : Candidate) →
      Contains (of_rows rows) c ↔ (Contains (candidates q series) c × (is_within_worst worst c ≡ true))
  pub names : AllByRecursion (λ row. trimmed st.name ≡ row.1) rows
  pub above : IsAbove q series e.bound
  pub passed_over : e.skipped ≡ true → bound_is_below (score_of worst) e.bound ≡ true

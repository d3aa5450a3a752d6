-- The right report and the right certificates of a query and its series, by what a candidate is and what is best, and
-- not by how these are found.
use Rattle.std.specs.Prelude.{◌≡◌, ◌⊎◌, ◌↔◌, ◌≤◌, ◌<◌, ◌≤ℤ◌, ◌<ℤ◌, ℕ, ◌-◌, true, List, ◌++◌, length, Option, Some, ℤ}
use Rattle.std.specs.Prelude.{FitsSigned, slice_get}
use Rattle.std.specs.List.{Contains, AllByRecursion, AllZip, flat_map, count_by}
use Rattle.std.specs.Option.{option_map}
use Rattle.std.specs.List.Sorted.{IsStrictlySortedBy}
use Rattle.std.specs.Int.{w64}
use Rattle.std.specs.Ordering.{nat_cmp, on}
use Rattle.std.specs.Cmp.Lexicographic.{slice_cmp}
use Rattle.std.specs.declared.cmp.Ordering.TheVariants.{Less}
use Rattle.ghcn_files.specs.declared.station.Station.{Station}
use Rattle.ghcn_files.specs.Meaning.Ids.{same_id}
use Rattle.ghcn_series.specs.Meaning.Series.{Series}
use Rattle.ghcn_series.specs.Meaning.Said.{IsMadeOf, IsSaid}
use Rattle.rank_query.specs.Meaning.Asked.{Query, score_element}
use Rattle.rank_query.specs.Meaning.Admits.{region_holds}
use Rattle.rank_scores.specs.declared.candidate.Candidate.{Candidate}
use Rattle.rank_scores.specs.Meaning.Candidates.{admitted, IsCandidateOf}
use Rattle.rank_scores.specs.Meaning.Order.{rank_cmp}
use Rattle.rank_sched.specs.declared.line.Line.{Line}
use Rattle.rank_papers.specs.Meaning.Report.{query_line}
use Rattle.rank_papers.specs.Meaning.Certificate.{title_line, kth_line, entry_line, end_line}

-- s is a series of the query's element and of an admitted station of the list, and is made of what the daily files say
-- of them; it may have no admitted day
pub record IsAdmittedSeries (q : Query) (stations : List Station) (files : List (List ℕ)) (s : Series) : Type 0 where
  pub station : (st : Station) × Contains stations st × (st.id ≡ s.id) × (region_holds q.region st ≡ true)
  pub of_element : s.element ≡ score_element q.score
  pub made : IsMadeOf (IsSaid files) s

-- x is a candidate of the query, in one of the series of which `IsOne` is true
abbrev pub IsOfQuery : Query → (Series → Type 0) → Candidate → Type 0
IsOfQuery q IsOne x = (s : Series) × IsOne s × IsCandidateOf q s x

-- these are the best candidates of a query in the series of which `IsOne` is true: at most k, each before all those
-- after it. A candidate that isn't among them comes after all of them, and then there are k of them. So no two of them
-- tie.
pub record AreBest (q : Query) (IsOne : Series → Type 0) (best : List Candidate) : Type 0 where
  pub few : length best ≤ q.k
  pub of_query : AllByRecursion (IsOfQuery q IsOne) best
  pub order : IsStrictlySortedBy rank_cmp best
  pub others : (x : Candidate) → IsOfQuery q IsOne x
      → Contains best x ⊎ ((length best ≡ q.k) × AllByRecursion (λ b. rank_cmp b x ≡ Less) best)

-- these are the series of the query, by increasing ID: of those of which `IsOne` is true, all that have a day that the
-- query admits, and no others
pub record AreSeriesOf (q : Query) (IsOne : Series → Type 0) (series : List Series) : Type 0 where
  pub are : (s : Series) → Contains series s ↔ (IsOne s × (0 < length (admitted q s)))
  pub by_id : IsStrictlySortedBy (on (λ s. s.id.0) (slice_cmp nat_cmp)) series

-- an entry is true of a series: it names it, no candidate of the series has a score above the bound, and it is skipped
-- only if there is a k-th score and the bound is strictly below it
pub record IsTrueEntry (q : Query) (kth : Option ℤ) (e : Line) (s : Series) : Type 0 where
  pub named : e.id ≡ s.id
  pub above : (c : Candidate) → IsCandidateOf q s c → c.score ≤ℤ e.bound
  pub fits : FitsSigned w64 e.bound
  pub passed_over : e.skipped ≡ true → (score : ℤ) × (kth ≡ Some score) × (e.bound <ℤ score)

-- a right certificate of a version for these best candidates, whatever its bounds and skips: it has the query, the score
-- of the k-th of the best or none, a true entry for each series of the query, and in version 2, if a series wasn't
-- skipped, how many of the best belong to it
pub record IsCertificateOfBest (version : ℕ) (q : Query) (IsOne : Series → Type 0) (best : List Candidate) (bytes : List ℕ)
    : Type 0 where
  pub known : (version ≡ 1) ⊎ (version ≡ 2)
  pub kth : Option ℤ
  pub of_last : kth ≡ option_map (λ x. x.score) (slice_get best (q.k - 1))
  pub series : List Series
  pub all : AreSeriesOf q IsOne series
  pub entries : List Line
  pub right : AllZip (IsTrueEntry q kth) entries series
  pub text : bytes
      ≡ title_line version ++ query_line q ++ kth_line kth
      ++ flat_map (λ e. entry_line version (record { entry = e; count = count_by (λ b. same_id b.id e.id) best }))
      entries
      ++ end_line (length entries)

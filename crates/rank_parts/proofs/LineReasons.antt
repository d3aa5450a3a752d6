-- Why a line is refused, by what is looked up of its station, and what the head shows of its rows.
use Rattle.rank_parts.proofs.Cited.{option_and_then, nil_from_length, AllByRecursion, admits_station, first_failing, []}
use Rattle.rank_parts.proofs.Cited.{is_station_of, score_element, tied_itself, in-contains, IsRightHead, bytes_total, ℕ}
use Rattle.rank_parts.proofs.Cited.{piece_tests, why_of_line, same_id-is, IsReported, is_scanned, scanned_at, and_right}
use Rattle.rank_parts.proofs.Cited.{both_ways, StationId, series_of, Candidate, Certified, is_morsel, rows_with, Option}
use Rattle.rank_parts.proofs.Cited.{Data, for_each, found_in, Reported, count_of, by_bytes, worst_of, Station, Bool}
use Rattle.rank_parts.proofs.Cited.{of_rows, IdsRise, AreSeen, Series, of_one, why_at, IsSeen, false, subst, Query, ◌≡◌}
use Rattle.rank_parts.proofs.Cited.{Named, true, cond, List, Some, None, refl, find, Line, not, sym, ◌∙◌, Why, ap, In}
use Rattle.rank_parts.proofs.StationRows.{few_rows, count_rows}

-- ---- what is looked up

module _ (q : Query) (d : Data) (rows : List Named) (e : Line) where
  -- the first test that the line fails, of a station and its series
  abbrev pub failing : Station → Option Series → Option Why
  failing st o = first_failing
      (piece_tests q st o e (count_of (of_rows rows) e) (rows_with e.id rows) (worst_of q.k rows))

  -- the line is refused by it, if the series is a morsel, and otherwise not
  pub why_is : (st : Station) (o : Option Series) (b : Bool) → series_of d e.id (score_element q.score) ≡ o
      → find (is_station_of e.id) d.stations ≡ Some st → is_morsel q st o ≡ b
      → why_of_line q d rows e ≡ cond b (failing st o) None
  why_is st o b s f is = let id = same_id-is st.id e.id (found_in (is_station_of e.id) d.stations st f).1 in
      ap (option_and_then (why_at q d rows e)) f
      ∙ ap (λ (u : Option Series). cond (is_morsel q st u) (failing st u) None)
      (ap (λ (i : StationId). series_of d i (score_element q.score)) id ∙ s)
      ∙ ap (λ (t : Bool). cond t (failing st o) None) is

  -- a line without a series isn't refused
  pub no_series : series_of d e.id (score_element q.score) ≡ None → None ≡ why_of_line q d rows e
  no_series s = elim (find (is_station_of e.id) d.stations) as (λ o. find (is_station_of e.id) d.stations ≡ o
      → None ≡ why_of_line q d rows e) [
        | None ↦ λ f. sym (ap (option_and_then (why_at q d rows e)) f)
        | Some st ↦ λ f. sym (why_is st None false s f (and_right (admits_station q st) false refl))
      ] refl

  -- a line whose series is a morsel is refused by the first test that it fails, with its count, its rows, and the worst
  pub of_own : (st : Station) (u : Series) (n : ℕ) (own : List Named) (worst : Option Candidate)
      → n ≡ count_of (of_rows rows) e → own ≡ rows_with e.id rows → worst ≡ worst_of q.k rows
      → series_of d e.id (score_element q.score) ≡ Some u → find (is_station_of e.id) d.stations ≡ Some st
      → is_morsel q st (Some u) ≡ true
      → first_failing (piece_tests q st (Some u) e n own worst) ≡ why_of_line q d rows e
  of_own st u n own worst count are last s f is =
      let same : first_failing (piece_tests q st (Some u) e n own worst) ≡ failing st (Some u) =
      λ i. first_failing (piece_tests q st (Some u) e (count i) (are i) (last i)) in
      same ∙ sym (why_is st (Some u) true s f is)

-- ---- what the head shows

-- a line says whether its station was scanned
scanned_line : (es : List Line) → IdsRise es → (e : Line) → In es e → is_scanned es e.id ≡ not e.skipped
scanned_line es up e h = let at = in-contains es e h in
    scanned_at e.id es at.0 e up at.1 (ap (λ (f : Line). by_bytes f.id e.id) at.2 ∙ tied_itself bytes_total e.id)
    ∙ ap (λ (f : Line). not f.skipped) at.2

-- so if no row is counted at a line, none belongs to its station
none_of : (rows : List Named) (es : List Line) → IdsRise es
    → AllByRecursion (λ (row : Named). is_scanned es row.0.id ≡ true) rows → (e : Line) → In es e
    → count_of (of_rows rows) e ≡ 0 → rows_with e.id rows ≡ []
none_of rows es up scanned e h none = nil_from_length (rows_with e.id rows) (sym (count_rows rows e (λ s row k i.
    both_ways (is_scanned es e.id) (scanned_line es up e h ∙ ap not s)
    (subst (λ (j : StationId). is_scanned es j ≡ true) i
    (of_one (λ (x : Named). is_scanned es x.0.id ≡ true) rows row scanned k)))) ∙ none)

-- a right head shows all that is asked of rows and lines
pub head_shows : (q : Query) (r : Reported) (z : Certified) → IsReported r → IsRightHead q r z
    → AreSeen q r.rows z.entries
head_shows q r z can h = let none = none_of r.rows z.entries h.rise h.scanned in
    for_each (IsSeen q r.rows) z.entries
    (λ e k. record { order = h.order; few = few_rows q r can h.report; none = none e k })

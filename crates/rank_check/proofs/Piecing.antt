-- No test of a line by itself fails if and only if the line is right.
use Rattle.std.proofs.Common.{◌≡◌, ◌↔◌, ℕ, Bool, true, false, cond, not, List, [], ◌∷◌, length}
use Rattle.std.proofs.Common.{Option, Some, None, refl, sym, ap, ◌∙◌, subst, ◌||◌, eq-eqb}
use Rattle.std.specs.Prelude.{◌==◌, ◌&&◌}
use Rattle.std.specs.List.{list_all, Contains, AllByRecursion}
use Rattle.std.specs.Cmp.Lexicographic.{bytes_decides}
use Rattle.std.proofs.lemmas.Bool.{and_parts, eqb-true}
use Rattle.ghcn_fields.specs.Meaning.Bytes.{same_bytes}
use Rattle.ghcn_fields.specs.Faults.{first_failing}
use Rattle.ghcn_files.specs.declared.station.Station.{Station}
use Rattle.ghcn_files.specs.declared.station.StationId.{StationId}
use Rattle.ghcn_files.specs.Meaning.Ids.{same_id}
use Rattle.ghcn_files.proofs.IdLaws.{same_id-is, same_id-laws}
use Rattle.ghcn_files.proofs.Among.{each-weaker}
use Rattle.ghcn_series.specs.Meaning.Series.{Series}
use Rattle.ghcn_series.proofs.Members.{contains-in, in-contains, of_each, itself}
use Rattle.rank_query.specs.Meaning.Asked.{Query}
use Rattle.rank_query.specs.Admits.{admits_station}
use Rattle.rank_scores.specs.declared.candidate.Candidate.{Candidate}
use Rattle.rank_scores.specs.Candidates.{candidates}
use Rattle.rank_scores.specs.Order.{bound_is_below}
use Rattle.rank_papers.specs.Meaning.Report.{trimmed}
use Rattle.rank_papers.specs.Report.{Named}
use Rattle.rank_papers.specs.Certificate.{Line}
use Rattle.rank_papers.specs.Papers.{of_rows}
use Rattle.rank_papers.proofs.FirstFailing.{none_fails, all_pass}
use Rattle.rank_check.specs.declared.verdict.Why.{Why}
use Rattle.rank_check.specs.declared.verdict.Why.TheVariants.{NotACandidate, OtherSeries, NotCounted, NotBest}
use Rattle.rank_check.specs.declared.verdict.Why.TheVariants.{NoBound, NotBelow}
use Rattle.rank_check.specs.Tests.{is_one_of}
use Rattle.rank_check.specs.Pieces.{is_morsel, is_within_worst, score_of, AreRowsWithin, is_row_of, has_all, last_tests}
use Rattle.rank_check.specs.Pieces.{piece_tests, IsRightPiece}
use Rattle.rank_check.specs.Survey.{top_score}
use Rattle.rank_check.proofs.Failing.{is_low, top-bounded}
use Rattle.rank_check.proofs.Members.{among_in, in_among}
use Rattle.rank_check.proofs.RightLines.{above_from, above_to, below_from, below_to}

-- ---- a piece by its first three tests

-- the error of a line by its first three tests and that of the rest
abbrev piece_by : Bool → Bool → Bool → Option Why → Option Why
piece_by own counted candidates rest =
    cond own (cond counted (cond candidates rest (Some NotACandidate)) (Some NotCounted)) (Some OtherSeries)

-- what these come to
pub piece-by : (q : Query) (st : Station) (u : Series) (e : Line) (printed : ℕ) (rows : List Named)
    (worst : Option Candidate) (own counted candidates : Bool)
    → (same_id st.id e.id && is_morsel q st (Some u)) ≡ own → (printed == length rows) ≡ counted
    → list_all (is_row_of q st u) rows ≡ candidates
    → first_failing (piece_tests q st (Some u) e printed rows worst)
    ≡ piece_by own counted candidates (first_failing (last_tests q u e (of_rows rows) worst))
piece-by q st u e printed rows worst own counted candidates f g h =
    λ i. piece_by (f i) (g i) (h i) (first_failing (last_tests q u e (of_rows rows) worst))

-- the error of a line by its last three tests
abbrev last_by : Bool → Bool → Bool → Option Why
last_by all above low = cond all (cond above (cond low None (Some NotBelow)) (Some NoBound)) (Some NotBest)

-- what these come to
pub last-by : (q : Query) (u : Series) (e : Line) (rows : List Candidate) (worst : Option Candidate)
    (all above low : Bool) → has_all q worst rows u ≡ all → is_low e.bound (top_score (candidates q u)) ≡ above
    → (not e.skipped || bound_is_below (score_of worst) e.bound) ≡ low
    → first_failing (last_tests q u e rows worst) ≡ last_by all above low
last-by q u e rows worst all above low f g h =
    λ i. last_by (f i) ((top-bounded e.bound (candidates q u) ∙ g) i) (h i)

-- ---- members

-- what is among candidates is one of the list
pub among_held : (cs : List Candidate) (c : Candidate) → is_one_of cs c ≡ true → Contains cs c
among_held cs c e = in-contains cs c (among_in cs c e)

-- and back
pub held_among : (cs : List Candidate) (c : Candidate) → Contains cs c → is_one_of cs c ≡ true
held_among cs c h = in_among cs c (contains-in cs c h)

-- what passes for all passes for each
pub each_passes : {X : Type 0} (test : X → Bool) (xs : List X) → list_all test xs ≡ true
    → AllByRecursion (λ x. test x ≡ true) xs
each_passes test [] e = tt
each_passes test (x ∷ xs) e = let two = and_parts (test x) (list_all test xs) e in (two.0, each_passes test xs two.1)

-- and back
pub all_passes : {X : Type 0} (test : X → Bool) (xs : List X) → AllByRecursion (λ x. test x ≡ true) xs
    → list_all test xs ≡ true
all_passes test [] h = refl
all_passes test (x ∷ xs) h = ap (λ (b : Bool). b && list_all test xs) h.0 ∙ all_passes test xs h.1

-- ---- rows

module _ (q : Query) (st : Station) (u : Series) where
  -- the candidates of rows that pass are the series'
  rows_among : (rows : List Named) → AllByRecursion (λ row. is_row_of q st u row ≡ true) rows
      → AllByRecursion (λ c. is_one_of (candidates q u) c ≡ true) (of_rows rows)
  rows_among [] h = tt
  rows_among (row ∷ rows) h =
      ((and_parts (is_one_of (candidates q u) row.0) (same_bytes (trimmed st.name) row.1) h.0).0, rows_among rows h.1)

  -- and their names are the station's
  rows_named : (rows : List Named) → AllByRecursion (λ row. is_row_of q st u row ≡ true) rows
      → AllByRecursion (λ row. trimmed st.name ≡ row.1) rows
  rows_named [] h = tt
  rows_named (row ∷ rows) h = (
    (bytes_decides (trimmed st.name) row.1).0
        (and_parts (is_one_of (candidates q u) row.0) (same_bytes (trimmed st.name) row.1) h.0).1,
    rows_named rows h.1,
  )

  -- and back
  rows_pass : (rows : List Named) → AllByRecursion (λ c. is_one_of (candidates q u) c ≡ true) (of_rows rows)
      → AllByRecursion (λ row. trimmed st.name ≡ row.1) rows
      → AllByRecursion (λ row. is_row_of q st u row ≡ true) rows
  rows_pass [] h k = tt
  rows_pass (row ∷ rows) h k = (
    ap (λ (b : Bool). b && same_bytes (trimmed st.name) row.1) h.0
        ∙ (bytes_decides (trimmed st.name) row.1).1 k.0,
    rows_pass rows h.1 k.1,
  )

-- one of two that isn't the first
pub or_rest : (w p : Bool) → (not w || p) ≡ true → w ≡ true → p ≡ true
or_rest true p e f = e
or_rest false p e f = absurd cc

-- and back
pub or_made : (w p : Bool) → (w ≡ true → p ≡ true) → (not w || p) ≡ true
or_made true p f = f refl
or_made false p f = refl

-- ---- both directions

module _ (q : Query) (st : Station) (e : Line) (printed : ℕ) (rows : List Named) (worst : Option Candidate)
    (within : AreRowsWithin worst (of_rows rows)) where
  -- a line whose tests pass is right
  right_from : (s : Option Series) → AllByRecursion (λ t. t.0 ≡ true) (piece_tests q st s e printed rows worst)
      → IsRightPiece q st s e printed rows worst
  right_from None h =
      let own = (and_parts (same_id st.id e.id) (is_morsel q st None) h.0).1 in
      let no : false ≡ true = (and_parts (admits_station q st) false own).1 in absurd cc
  right_from (Some u) h =
      let own = and_parts (same_id st.id e.id) (is_morsel q st (Some u)) h.0 in
      let each = each_passes (is_row_of q st u) rows h.1.1.0 in
      let all = each_passes (λ c. not (is_within_worst worst c) || is_one_of (of_rows rows) c)
      (candidates q u) h.1.1.1.0 in
      record {
        series = u;
        there = refl;
        named = same_id-is st.id e.id own.0;
        morsel = own.1;
        counted = eqb-true printed (length rows) h.1.0;
        rows_are = λ c. (
          λ k. (
            among_held (candidates q u) c
                (of_each (λ d. is_one_of (candidates q u) d ≡ true) (of_rows rows) (rows_among q st u rows each) c k),
            of_each (λ d. is_within_worst worst d ≡ true) (of_rows rows) within.within c k,
          ),
          λ k. among_held (of_rows rows) c (or_rest (is_within_worst worst c) (is_one_of (of_rows rows) c)
              (of_each (λ d. (not (is_within_worst worst d) || is_one_of (of_rows rows) d) ≡ true)
              (candidates q u) all c k.0)
              k.1),
        );
        names = rows_named q st u rows each;
        above = above_from e.bound (candidates q u) h.1.1.1.1.0;
        passed_over = below_from e.skipped (bound_is_below (score_of worst) e.bound) h.1.1.1.1.1.0;
      }

  -- the tests of a right line pass
  passes_where : (s : Option Series) → IsRightPiece q st s e printed rows worst
      → AllByRecursion (λ t. t.0 ≡ true) (piece_tests q st s e printed rows worst)
  passes_where s h =
      let u : Series = h.series in
      let morsel : is_morsel q st (Some h.series) ≡ true =
      ap (is_morsel q st) (sym h.there) ∙ h.morsel in
      let own : same_id st.id e.id ≡ true = ap (λ (i : StationId). same_id st.id i) (sym h.named)
      ∙ same_id-laws.refl st.id in
      let among : AllByRecursion (λ c. is_one_of (candidates q h.series) c ≡ true) (of_rows rows) =
      each-weaker (Contains (of_rows rows)) (λ c. is_one_of (candidates q h.series) c ≡ true) (of_rows rows)
      (λ c k. held_among (candidates q h.series) c ((h.rows_are c).0 k).0) (itself (of_rows rows)) in
      let all : AllByRecursion (λ c. (not (is_within_worst worst c) || is_one_of (of_rows rows) c) ≡ true)
      (candidates q h.series) =
      each-weaker (Contains (candidates q h.series))
      (λ c. (not (is_within_worst worst c) || is_one_of (of_rows rows) c) ≡ true) (candidates q h.series)
      (λ c k. or_made (is_within_worst worst c) (is_one_of (of_rows rows) c)
      (λ w. held_among (of_rows rows) c ((h.rows_are c).1 (k, w)))) (itself (candidates q h.series)) in
      subst (λ (o : Option Series). AllByRecursion (λ t. t.0 ≡ true) (piece_tests q st o e printed rows worst))
      (sym h.there) (
        ap (λ (b : Bool). b && is_morsel q st (Some h.series)) own ∙ morsel,
        (
          eq-eqb printed (length rows) h.counted,
          (
            all_passes (is_row_of q st h.series) rows (rows_pass q st h.series rows among h.names),
            (
              all_passes (λ c. not (is_within_worst worst c) || is_one_of (of_rows rows) c) (candidates q h.series) all,
              (
                above_to e.bound (candidates q h.series) h.above,
                (below_to e.skipped (bound_is_below (score_of worst) e.bound) h.passed_over, tt),
              ),
            ),
          ),
        ),
      )

-- no test of a line fails if and only if it is right
pub right_piece : (q : Query) (st : Station) (s : Option Series) (e : Line) (printed : ℕ) (rows : List Named)
    (worst : Option Candidate) → AreRowsWithin worst (of_rows rows)
    → (first_failing (piece_tests q st s e printed rows worst) ≡ None) ↔ IsRightPiece q st s e printed rows worst
right_piece q st s e printed rows worst within = (
  λ f. right_from q st e printed rows worst within s (none_fails (piece_tests q st s e printed rows worst) f),
  λ h. all_pass (piece_tests q st s e printed rows worst) (passes_where q st e printed rows worst within s h),
)

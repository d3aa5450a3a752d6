-- The first test that fails, of tests of elements one after the other.
use Rattle.std.proofs.Common.{◌≡◌, ℕ, zero, suc, ◌+◌, ◌-◌, ◌<◌, Bool, true, false, cond, List, [], ◌∷◌, length}
use Rattle.std.proofs.Common.{take, map, Option, Some, None, refl, sym, ap, ◌∙◌, arith, append-nil, get_or}
use Rattle.std.specs.Prelude.{slice_get, nat_le, int_le, ◌&&◌, ◌||◌, ◌==◌, not, ℤ}
use Rattle.std.specs.List.{flat_map, enumerate_from, fold, list_all}
use Rattle.std.specs.Option.{option_map, option_map_or, is_some}
use Rattle.std.proofs.lemmas.Bool.{lt-leb}
use Rattle.ghcn_fields.specs.Faults.{first_failing}
use Rattle.rank_scores.specs.declared.candidate.Candidate.{Candidate}
use Rattle.rank_scores.specs.Meaning.Order.{precedes}
use Rattle.rank_papers.specs.declared.paper.Row.{Row}
use Rattle.rank_papers.specs.Report.{Named}
use Rattle.rank_papers.specs.ReportLines.{named_in}
use Rattle.rank_papers.proofs.FirstFailing.{behind_none, before_some, none_of}
use Rattle.rank_papers.specs.Papers.{candidates_of}
use Rattle.rank_check.specs.declared.tally.Met.{Met}
use Rattle.rank_check.specs.declared.refusal.Refusal.{Refusal}
use Rattle.rank_check.specs.Survey.{met, top, top_score}
use Rattle.rank_check.specs.declared.survey.Top.{Top}
use Rattle.rank_papers.specs.declared.fault.Paper.TheVariants.{Certificate}
use Rattle.rank_check.specs.declared.verdict.Why.TheVariants.{OtherSeries, NoBound, NotBelow, NotCounted}
use Rattle.rank_check.specs.Tests.{refusal, Test, follows, is_counted, line_tests, entry_tests}
use Rattle.ghcn_files.specs.Meaning.Ids.{same_id}
use Rattle.ghcn_files.proofs.IdLaws.{same_id-turned}
use Rattle.rank_scores.specs.Morsels.{morsels}
use Rattle.ghcn_series.specs.Meaning.Series.{Series}
use Rattle.ghcn_series.specs.Series.{Data}
use Rattle.rank_query.specs.Meaning.Asked.{Query}
use Rattle.rank_scores.specs.Candidates.{candidates}
use Rattle.rank_scores.specs.Order.{bound_is_below}
use Rattle.rank_papers.specs.Certificate.{Line, count_of}
use Rattle.std.specs.Int.{int_max}
use Rattle.std.proofs.lemmas.Int.{ints}
use Rattle.std.proofs.Math.Bool.{and-true}
use Rattle.std.proofs.lemmas.Option.{slice_get-map, slice_get-get_or}

module _ {X : Type 0} (tests : ℕ × X → List Test) where
  -- the first of the tests of elements with their numbers that fails
  abbrev pub first_of : ℕ → List X → Option Refusal
  first_of n xs = first_failing (flat_map tests (enumerate_from n xs))

  -- one element more, whose tests pass
  pub none-more : (n : ℕ) (xs : List X) (i : ℕ) (x : X) → slice_get xs i ≡ Some x → first_of n (take i xs) ≡ None
      → first_failing (tests (n + i, x)) ≡ None → first_of n (take (suc i) xs) ≡ None
  none-more n [] i x at none here = absurd cc
  none-more n (y ∷ ys) zero x at none here =
      let same : y ≡ x = cc in
      let number : n ≡ n + 0 = omega arith in
      ap first_failing (append-nil (tests (n, y))) ∙ ap (λ (z : X). first_failing (tests (n, z))) same
      ∙ ap (λ (m : ℕ). first_failing (tests (m, x))) number ∙ here
  none-more n (y ∷ ys) (suc i) x at none here =
      let first : first_failing (tests (n, y)) ≡ None = (none_of (tests (n, y)) _ none).0 in
      let number : n + 1 + i ≡ n + suc i = omega arith in
      behind_none (tests (n, y)) _ first
      ∙ none-more (n + 1) ys i x at (sym (behind_none (tests (n, y)) _ first) ∙ none)
      (ap (λ (m : ℕ). first_failing (tests (m, x))) number ∙ here)

  -- the first element of which a test fails
  pub some_at : (n : ℕ) (xs : List X) (i : ℕ) (x : X) (v : Refusal) → slice_get xs i ≡ Some x
      → first_of n (take i xs) ≡ None → first_failing (tests (n + i, x)) ≡ Some v → first_of n xs ≡ Some v
  some_at n [] i x v at none here = absurd cc
  some_at n (y ∷ ys) zero x v at none here =
      let same : y ≡ x = cc in
      let number : n ≡ n + 0 = omega arith in
      before_some (tests (n, y)) _ v (ap (λ (z : X). first_failing (tests (n, z))) same
      ∙ ap (λ (m : ℕ). first_failing (tests (m, x))) number ∙ here)
  some_at n (y ∷ ys) (suc i) x v at none here =
      let first : first_failing (tests (n, y)) ≡ None = (none_of (tests (n, y)) _ none).0 in
      let number : n + 1 + i ≡ n + suc i = omega arith in
      behind_none (tests (n, y)) _ first
      ∙ some_at (n + 1) ys i x v at (sym (behind_none (tests (n, y)) _ first) ∙ none)
      (ap (λ (m : ℕ). first_failing (tests (m, x))) number ∙ here)

  -- what an element's tests say is what all say, if it is the first with one that fails
  pub fault_here : (n : ℕ) (xs : List X) (i m : ℕ) (x : X) (o : Option Refusal) → m ≡ n + i → is_some o ≡ true
      → slice_get xs i ≡ Some x → first_of n (take i xs) ≡ None → o ≡ first_failing (tests (m, x)) → o ≡ first_of n xs
  fault_here n xs i m x None number some at none here = absurd cc
  fault_here n xs i m x (Some v) number some at none here =
      sym (some_at n xs i x v at none (ap (λ (k : ℕ). first_failing (tests (k, x))) (sym number) ∙ sym here))

  -- and none fails so far, if none of its tests does
  pub none_here : (n : ℕ) (xs : List X) (i m : ℕ) (x : X) (o : Option Refusal) → m ≡ n + i → is_some o ≡ false
      → slice_get xs i ≡ Some x → first_of n (take i xs) ≡ None → o ≡ first_failing (tests (m, x))
      → first_of n (take (i + 1) xs) ≡ None
  none_here n xs i m x None number some at none here =
      let next : i + 1 ≡ suc i = omega arith in
      ap (λ (k : ℕ). first_of n (take k xs)) next
      ∙ none-more n xs i x at none (ap (λ (k : ℕ). first_failing (tests (k, x))) (sym number) ∙ sym here)
  none_here n xs i m x (Some v) number some at none here = absurd cc

-- ---- places

-- what is said of what is at a place is said of what is made of it
pub said_there : {X Y R : Type 0} (g : X → Y) (F : Y → R) (xs : List X) (i : ℕ) (r : R)
    → option_map (λ x. F (g x)) (slice_get xs i) ≡ Some r → (y : Y) × (slice_get (map g xs) i ≡ Some y) × (r ≡ F y)
said_there g F [] i r e = absurd cc
said_there g F (x ∷ xs) zero r e = let same : F (g x) ≡ r = cc in (g x, refl, sym same)
said_there g F (x ∷ xs) (suc i) r e = said_there g F xs i r e

-- an element is at its place
pub stands_at : {X : Type 0} (xs : List X) (i : ℕ) (x : X) → i < length xs → x ≡ get_or xs i x → slice_get xs i ≡ Some x
stands_at xs i x lt e = slice_get-get_or xs i x lt ∙ ap (λ z. Some z) (sym e)

-- the row before one, by place
pub follows-behind : (rows : List Row) (i : ℕ) (before row : Row) (b : Bool) → (i ≡ 0 → ⊥) → i < length rows
    → before ≡ get_or rows (i - 1) before → row ≡ get_or rows i row
    → b ≡ precedes (get_or rows (i - 1) before).candidate (get_or rows i row).candidate
    → option_map (λ r. follows (map named_in rows) (i + 1) (named_in r)) (slice_get rows i) ≡ Some b
follows-behind rows i before row b some lt e f h =
    let g : b ≡ precedes before.candidate row.candidate = h
    ∙ ap (λ (r : Row). precedes r.candidate (get_or rows i row).candidate) (sym e)
    ∙ ap (λ (r : Row). precedes before.candidate r.candidate) (sym f) in
    let later : nat_le (i + 1) 1 ≡ false = lt-leb (i + 1) 1 (omega arith) in
    let place : i + 1 - 2 ≡ i - 1 = omega arith in
    let there : slice_get (map named_in rows) (i - 1) ≡ Some (named_in before) =
    slice_get-map named_in rows (i - 1) ∙ ap (option_map named_in) (stands_at rows (i - 1) before (omega arith) e) in
    ap (option_map (λ r. follows (map named_in rows) (i + 1) (named_in r))) (stands_at rows i row lt f)
    ∙ ap (λ (t : Bool). Some (option_map_or (λ (r : Named). precedes r.0 row.candidate)
    (cond t None (slice_get (map named_in rows) (i + 1 - 2))) true)) later
    ∙ ap (λ (n : ℕ). Some (option_map_or (λ (r : Named). precedes r.0 row.candidate)
    (slice_get (map named_in rows) n) true)) place
    ∙ ap (λ (o : Option Named). Some (option_map_or (λ (r : Named). precedes r.0 row.candidate) o true)) there
    ∙ ap (λ (t : Bool). Some t) (sym g)

-- what is known of the row at a place
pub watched_at : (cs : List Candidate) (rows : List Row) (found : List Met) (i : ℕ) (m : Met)
    → found ≡ map (met cs) (candidates_of rows) → i < length found → m ≡ get_or found i m
    → option_map (λ row. met cs row.candidate) (slice_get rows i) ≡ Some m
watched_at cs rows found i m e lt is =
    let there : slice_get (map (met cs) (candidates_of rows)) i ≡ Some m =
    ap (λ (l : List Met). slice_get l i) (sym e) ∙ stands_at found i m lt is in
    sym (slice_get-map (λ (row : Row). met cs row.candidate) rows i)
    ∙ ap (λ (l : List Met). slice_get l i) (twice rows) ∙ there
  where
    twice : (rs : List Row) → map (λ row. met cs row.candidate) rs ≡ map (met cs) (candidates_of rs)
    twice [] = refl
    twice (r ∷ rs) = ap (λ (l : List Met). met cs r.candidate ∷ l) (twice rs)

-- ---- the tests of a line

-- the error of a line is that of the line at its place
pub fault-placed : (q : Query) (kth : Option ℤ) (rows : List Candidate) (counts : List ℕ) (lines : List Line) (i : ℕ)
    (line : Line) (count : Option ℕ) (s : Option Series) (o : Option Refusal)
    → o ≡ first_failing (line_tests q kth rows (i + 4) line count s) → count ≡ slice_get counts i
    → slice_get lines i ≡ Some line
    → option_map (λ l. first_failing (line_tests q kth rows (i + 4) l (slice_get counts i) s)) (slice_get lines i) ≡
    Some o
fault-placed q kth rows counts lines i line count s o said own there =
    ap (option_map (λ (l : Line). first_failing (line_tests q kth rows (i + 4) l (slice_get counts i) s))) there
    ∙ ap (λ (n : Option ℕ). Some (first_failing (line_tests q kth rows (i + 4) line n s))) (sym own)
    ∙ ap (λ (v : Option Refusal). Some v) (sym said)

-- a count is the number of rows, if that is this number, if and only if it is this number
pub counted_there : (rows : List Candidate) (e : Line) (wanted : ℕ) (count : Option ℕ) → wanted ≡ count_of rows e
    → is_counted rows e count ≡ option_map_or (λ n. n == wanted) count true
counted_there rows e wanted count h = ap (λ (w : ℕ). option_map_or (λ n. n == w) count true) (sym h)

-- the greater of two numbers is at most a bound if both are
both_low : (x y b : ℤ) → int_le x b ≡ true → int_le y b ≡ true → int_le (int_max x y) b ≡ true
both_low x y b e f = grind (arith, ints)

-- and isn't if the first isn't
left_high : (x y b : ℤ) → int_le x b ≡ false → int_le (int_max x y) b ≡ false
left_high x y b e = grind (arith, ints)

-- or the second
right_high : (x y b : ℤ) → int_le y b ≡ false → int_le (int_max x y) b ≡ false
right_high x y b e = grind (arith, ints)

-- so the test of the greater is that of both
max-bounded : (x y b : ℤ) → int_le (int_max x y) b ≡ (int_le x b && int_le y b)
max-bounded x y b =
    elim (int_le x b) as (λ t. int_le x b ≡ t → int_le (int_max x y) b ≡ (t && int_le y b)) [
      | true ↦ λ e. elim (int_le y b) as (λ u. int_le y b ≡ u → int_le (int_max x y) b ≡ u) [
        | true ↦ λ f. both_low x y b e f
        | false ↦ λ f. right_high x y b f
      ] refl
      | false ↦ λ e. left_high x y b e
    ] refl

-- the greatest of some numbers is at most a bound if each is
fold-bounded : (a bound : ℤ) (cs : List Candidate) → int_le (fold int_max a (map (λ c. c.score) cs)) bound
    ≡ (int_le a bound && list_all (λ c. int_le c.score bound) cs)
fold-bounded a bound [] = sym (and-true (int_le a bound))
fold-bounded a bound (c ∷ cs) =
    fold-bounded (int_max a c.score) bound cs
    ∙ ap (λ (b : Bool). b && list_all (λ d. int_le d.score bound) cs) (max-bounded a c.score bound)
    ∙ apart (int_le a bound) (int_le c.score bound) (list_all (λ d. int_le d.score bound) cs)
  where
    apart : (x y z : Bool) → ((x && y) && z) ≡ (x && (y && z))
    apart true y z = refl
    apart false y z = refl

-- so it is with the greatest score
pub top-bounded : (bound : ℤ) (cs : List Candidate) → list_all (λ c. int_le c.score bound) cs
    ≡ option_map_or (λ score. int_le score bound) (top_score cs) true
top-bounded bound [] = refl
top-bounded bound (c ∷ cs) = sym (fold-bounded c.score bound cs)

-- the error of a line by what its four tests come to
abbrev fault_by : ℕ → Bool → Bool → Bool → Bool → Option Refusal
fault_by number own above below counted =
    cond own (cond above (cond below (cond counted None (Some (refusal Certificate number NotCounted)))
    (Some (refusal Certificate number NotBelow))) (Some (refusal Certificate number NoBound)))
    (Some (refusal Certificate number OtherSeries))

-- no candidate is above a bound, by the greatest score
abbrev pub is_low : ℤ → Option ℤ → Bool
is_low bound highest = option_map_or (λ score. int_le score bound) highest true

-- the tests of a line by what was found of its morsel
line_tests-top : (q : Query) (kth : Option ℤ) (rows : List Candidate) (number : ℕ) (e : Line) (count : Option ℕ)
    (t : Top) (s : Option Series) → Some t ≡ option_map (top q) s
    → first_failing (line_tests q kth rows number e count s)
    ≡ fault_by number (same_id e.id t.id) (is_low e.bound t.highest) (not e.skipped || bound_is_below kth e.bound)
    (is_counted rows e count)
line_tests-top q kth rows number e count t None f = absurd cc
line_tests-top q kth rows number e count t (Some u) f =
    let same : top q u ≡ t = cc in
    ap (λ (b : Bool). fault_by number (same_id e.id u.id) b (not e.skipped || bound_is_below kth e.bound)
    (is_counted rows e count)) (top-bounded e.bound (candidates q u))
    ∙ ap (λ (x : Top). fault_by number (same_id e.id x.id) (is_low e.bound x.highest)
    (not e.skipped || bound_is_below kth e.bound) (is_counted rows e count)) same

module _ (q : Query) (kth : Option ℤ) (rows : List Candidate) (number : ℕ) (e : Line) (count : Option ℕ) (t : Top)
    (s : Option Series) (made : Some t ≡ option_map (top q) s) (named : same_id t.id e.id ≡ true) where
  -- the error by three tests, once the ID is right
  by_three : (above below counted : Bool) → is_low e.bound t.highest ≡ above
      → (not e.skipped || bound_is_below kth e.bound) ≡ below → is_counted rows e count ≡ counted
      → first_failing (line_tests q kth rows number e count s) ≡ fault_by number true above below counted
  by_three above below counted f g h =
      line_tests-top q kth rows number e count t s made
      ∙ (λ i. fault_by number ((same_id-turned e.id t.id ∙ named) i) (f i) (g i) (h i))

  -- a candidate is above the bound
  pub no_bound : is_low e.bound t.highest ≡ false
      → Some (refusal Certificate number NoBound) ≡ first_failing (line_tests q kth rows number e count s)
  no_bound f =
      sym (by_three false (not e.skipped || bound_is_below kth e.bound) (is_counted rows e count) f refl refl)

  -- a skip isn't below
  pub not_below : is_low e.bound t.highest ≡ true → (not e.skipped || bound_is_below kth e.bound) ≡ false
      → Some (refusal Certificate number NotBelow) ≡ first_failing (line_tests q kth rows number e count s)
  not_below f g = sym (by_three true false (is_counted rows e count) f g refl)

  -- a count is wrong
  pub not_counted : is_low e.bound t.highest ≡ true → (not e.skipped || bound_is_below kth e.bound) ≡ true
      → is_counted rows e count ≡ false
      → Some (refusal Certificate number NotCounted) ≡ first_failing (line_tests q kth rows number e count s)
  not_counted f g h = sym (by_three true true false f g h)

  -- no test fails
  pub none_fails_there : is_low e.bound t.highest ≡ true → (not e.skipped || bound_is_below kth e.bound) ≡ true
      → is_counted rows e count ≡ true → None ≡ first_failing (line_tests q kth rows number e count s)
  none_fails_there f g h = sym (by_three true true true f g h)

-- the error of a line by its number and its place
abbrev fault_at : Query → Data → Option ℤ → List Candidate → List ℕ → Line → ℕ → ℕ → Option Refusal
fault_at q c kth rows counts e number place =
    first_failing (line_tests q kth rows number e (slice_get counts place) (slice_get (morsels q c) place))

-- what is said of the line at a place
pub line_there : (q : Query) (c : Data) (kth : Option ℤ) (rows : List Candidate) (counts : List ℕ)
    (es : List Line) (i : ℕ) (o : Option Refusal)
    → option_map (λ e. first_failing (line_tests q kth rows (i + 4) e (slice_get counts i) (slice_get (morsels q c) i)))
    (slice_get es i) ≡ Some o
    → (e : Line) × (slice_get es i ≡ Some e) × (o ≡ first_failing (entry_tests q c kth rows counts (i + 1, e)))
line_there q c kth rows counts es i o h = by (slice_get es i) refl h
  where
    by : (found : Option Line) → slice_get es i ≡ found → option_map (λ e. fault_at q c kth rows counts e (i + 4) i)
        found ≡ Some o
        → (e : Line) × (slice_get es i ≡ Some e) × (o ≡ first_failing (entry_tests q c kth rows counts (i + 1, e)))
    by None f g = absurd cc
    by (Some e) f g =
        let same : fault_at q c kth rows counts e (i + 4) i ≡ o = cc in
        let number : i + 4 ≡ i + 1 + 3 = omega arith in
        let place : i ≡ i + 1 - 1 = omega arith in (
          e,
          f,
          sym same ∙ (λ j. fault_at q c kth rows counts e (number j) (place j)),
        )

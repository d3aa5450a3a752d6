-- The tests of a report pass if and only if it says what is right.
use Rattle.std.proofs.Common.{◌≡◌, ℕ, zero, suc, ◌+◌, ◌-◌, ◌<◌, ◌≤◌, min, Bool, true, false, cond, List, [], ◌∷◌}
use Rattle.std.proofs.Common.{length, take, drop, map, Option, Some, None, refl, sym, ap, ◌∙◌, arith, ◌||◌}
use Rattle.std.specs.Prelude.{slice_get, ◌==◌, ◌&&◌, nat_le}
use Rattle.std.specs.List.{find, flat_map, enumerate_from, AllByRecursion}
use Rattle.std.specs.Option.{option_map, option_map_or}
use Rattle.std.specs.Cmp.Lexicographic.{bytes_decides}
use Rattle.std.proofs.lemmas.Bool.{and_parts, leb-true, leb-false, le-leb, lt-leb}
use Rattle.std.proofs.lemmas.List.{length-take, length-map, take_all}
use Rattle.ghcn_fields.specs.Meaning.Bytes.{same_bytes}
use Rattle.ghcn_files.specs.declared.station.Station.{Station}
use Rattle.ghcn_files.specs.Meaning.Listed.{is_station_of}
use Rattle.ghcn_series.specs.Series.{Data}
use Rattle.rank_query.specs.Meaning.Asked.{Query}
use Rattle.rank_scores.specs.declared.candidate.Candidate.{Candidate}
use Rattle.rank_scores.specs.Meaning.Order.{precedes}
use Rattle.rank_scores.specs.Order.{rank_in, AreApart}
use Rattle.rank_scores.specs.Morsels.{all_candidates, best_of_query}
use Rattle.rank_papers.specs.Meaning.Report.{trimmed}
use Rattle.rank_papers.specs.Report.{Named}
use Rattle.rank_papers.specs.ReportLines.{name_of}
use Rattle.rank_papers.specs.Papers.{of_rows}
use Rattle.rank_check.specs.Tests.{is_one_of, is_named, row_before, row_tests, are_enough}
use Rattle.std.proofs.lemmas.Option.{slice_get-map}
use Rattle.rank_check.proofs.Accepted.{Passes}
use Rattle.rank_check.proofs.SortedCandidates.{in_order, ordered-descends, ordered-length, at_rank, rank_at, among}
use Rattle.rank_check.proofs.SortedCandidates.{best_first, one_precedes}

-- ---- names

-- a row has the name of its station if the test passes
named_as : (stations : List Station) (row : Named) → is_named stations row ≡ true
    → name_of stations row.0.id ≡ Some row.1
named_as stations row e = by (find (is_station_of row.0.id) stations) e
  where
    by : (o : Option Station) → option_map_or (λ s. same_bytes (trimmed s.name) row.1) o false ≡ true
        → option_map (λ s. trimmed s.name) o ≡ Some row.1
    by None f = absurd cc
    by (Some s) f = ap (λ (n : List ℕ). Some n) ((bytes_decides (trimmed s.name) row.1).0 f)

-- and the test passes if it has
has_name : (stations : List Station) (row : Named) → name_of stations row.0.id ≡ Some row.1
    → is_named stations row ≡ true
has_name stations row e = by (find (is_station_of row.0.id) stations) e
  where
    by : (o : Option Station) → option_map (λ s. trimmed s.name) o ≡ Some row.1
        → option_map_or (λ s. same_bytes (trimmed s.name) row.1) o false ≡ true
    by None f = absurd cc
    by (Some s) f = let same : trimmed s.name ≡ row.1 = cc in (bytes_decides (trimmed s.name) row.1).1 same

-- ---- places

-- one more is taken if something is there
take-next : {X : Type 0} (xs : List X) (n m : ℕ) (x : X) → slice_get xs n ≡ Some x
    → take (suc m) (drop n xs) ≡ x ∷ take m (drop (suc n) xs)
take-next [] n m x e = absurd cc
take-next (y ∷ ys) zero m x e = let same : y ≡ x = cc in ap (λ z. z ∷ take m ys) same
take-next (y ∷ ys) (suc n) m x e = take-next ys n m x e

-- what was made of an element is at the element's place
made_from : {X Y : Type 0} (f : X → Y) (xs : List X) (i : ℕ) (x : X) → slice_get xs i ≡ Some x
    → slice_get (map f xs) i ≡ Some (f x)
made_from f xs i x e = slice_get-map f xs i ∙ ap (option_map f) e

-- what is among the first of a list is in the list
from_first : {X : Type 0} (k : ℕ) (xs : List X) (i : ℕ) (x : X) → slice_get (take k xs) i ≡ Some x
    → slice_get xs i ≡ Some x
from_first zero xs i x e = absurd cc
from_first (suc k) [] i x e = absurd cc
from_first (suc k) (y ∷ ys) zero x e = e
from_first (suc k) (y ∷ ys) (suc i) x e = from_first k ys i x e

-- the first n are the first k, if n is k or all were taken
taken-enough : {X : Type 0} (k n : ℕ) (xs : List X) → n ≤ k → (nat_le k n || nat_le (length xs) n) ≡ true
    → take n xs ≡ take k xs
taken-enough k n xs low e = by (nat_le k n) refl e
  where
    by : (b : Bool) → nat_le k n ≡ b → (b || nat_le (length xs) n) ≡ true → take n xs ≡ take k xs
    by true f g =
        let high : k ≤ n = leb-true k n f in
        let same : n ≡ k = omega arith in
        ap (λ (m : ℕ). take m xs) same
    by false f g =
        let short : length xs ≤ n = leb-true (length xs) n g in
        take_all n xs short ∙ sym (take_all k xs (omega arith))

-- and one of these is true if n is the number of the first k
enough-taken : {X : Type 0} (k n : ℕ) (xs : List X) → n ≡ length (take k xs)
    → (nat_le k n || nat_le (length xs) n) ≡ true
enough-taken k n xs e =
    let least : length (take k xs) ≡ min k (length xs) = length-take k xs in
    by (nat_le k n) refl least
  where
    by : (b : Bool) → nat_le k n ≡ b → length (take k xs) ≡ min k (length xs) → (b || nat_le (length xs) n) ≡ true
    by true f g = refl
    by false f g =
        let above : n < k = leb-false k n f in
        le-leb (length xs) n (omega arith)

module _ (q : Query) (c : Data) (apart : AreApart (all_candidates q c)) (rows : List Named) where
  -- all candidates
  abbrev all : List Candidate
  all = all_candidates q c

  -- rows whose tests pass are the candidates from a place on
  rows_stand : (n : ℕ) (some : List Named)
      → AllByRecursion Passes (flat_map (row_tests q c rows) (enumerate_from (n + 1) some))
      → of_rows some ≡ take (length some) (drop n (in_order all))
  rows_stand n [] h = refl
  rows_stand n (row ∷ some) h =
      let two : (is_one_of all row.0 ≡ true) × (is_named c.stations row ≡ true) =
      and_parts (is_one_of all row.0) (is_named c.stations row) h.0 in
      let place : n + 1 - 1 ≡ n = omega arith in
      let rank : (rank_in all row.0 == n) ≡ true =
      ap (λ (m : ℕ). rank_in all row.0 == m) (sym place) ∙ h.1.1.0 in
      let here : slice_get (in_order all) n ≡ Some row.0 = at_rank all apart n row.0 two.0 rank in
      let next : n + 1 ≡ suc n = omega arith in
      let behind : of_rows some ≡ take (length some) (drop (n + 1) (in_order all)) =
      rows_stand (n + 1) some h.1.1.1 in
      ap (λ (l : List Candidate). row.0 ∷ l) behind
      ∙ ap (λ (m : ℕ). row.0 ∷ take (length some) (drop m (in_order all))) next
      ∙ sym (take-next (in_order all) n (length some) row.0 here)

  -- and have their stations' names
  pub rows_named : (n : ℕ) (some : List Named)
      → AllByRecursion Passes (flat_map (row_tests q c rows) (enumerate_from n some))
      → AllByRecursion (λ row. name_of c.stations row.0.id ≡ Some row.1) some
  rows_named n [] h = tt
  rows_named n (row ∷ some) h =
      let two = and_parts (is_one_of all row.0) (is_named c.stations row) h.0 in
      (named_as c.stations row two.1, rows_named (n + 1) some h.1.1.1)

  -- rows whose tests pass are the best, if there are enough
  pub rows_best : length rows ≤ q.k → AllByRecursion Passes (flat_map (row_tests q c rows) (enumerate_from 1 rows))
      → are_enough q.k (length all) (length rows) ≡ true → of_rows rows ≡ best_of_query q c
  rows_best few h enough =
      let stand : of_rows rows ≡ take (length rows) (in_order all) = rows_stand 0 rows h in
      let long : (nat_le q.k (length rows) || nat_le (length (in_order all)) (length rows)) ≡ true =
      ap (λ (m : ℕ). nat_le q.k (length rows) || nat_le m (length rows)) (ordered-length all apart) ∙ enough in
      stand ∙ taken-enough q.k (length rows) (in_order all) few long ∙ sym (best_first all apart q.k)

  -- ---- and back

  module _ (best_are : of_rows rows ≡ best_of_query q c) where
    -- what is among the rows is there in order
    row_at : (i : ℕ) (row : Named) → slice_get rows i ≡ Some row → slice_get (in_order all) i ≡ Some row.0
    row_at i row e =
        let made : slice_get (of_rows rows) i ≡ Some row.0 = made_from (λ r. r.0) rows i row e in
        let first : slice_get (take q.k (in_order all)) i ≡ Some row.0 =
        ap (λ (l : List Candidate). slice_get l i) (sym (best_are ∙ best_first all apart q.k)) ∙ made in
        from_first q.k (in_order all) i row.0 first

    -- the row before one precedes it
    row_behind : (n : ℕ) (row : Named) → slice_get rows n ≡ Some row
        → option_map_or (λ r. precedes r.0 row.0) (row_before rows (n + 1)) true ≡ true
    row_behind zero row e = refl
    row_behind (suc n) row e =
        let place : suc n + 1 - 2 ≡ n = omega arith in
        let later : nat_le (suc n + 1) 1 ≡ false = lt-leb (suc n + 1) 1 (omega arith) in
        ap (λ (b : Bool). option_map_or (λ r. precedes r.0 row.0) (cond b None (slice_get rows (suc n + 1 - 2))) true)
        later
        ∙ ap (λ (m : ℕ). option_map_or (λ r. precedes r.0 row.0) (slice_get rows m) true) place
        ∙ by (slice_get rows n) refl
      where
        by : (o : Option Named) → slice_get rows n ≡ o → option_map_or (λ r. precedes r.0 row.0) o true ≡ true
        by None f = refl
        by (Some r) f = one_precedes (in_order all) n r.0 row.0 (ordered-descends all apart) (row_at n r f)
            (row_at (suc n) row e)

    -- the tests of rows from a place on pass
    rows_pass : (n : ℕ) (some : List Named) → ((j : ℕ) → slice_get some j ≡ slice_get rows (n + j))
        → AllByRecursion (λ row. name_of c.stations row.0.id ≡ Some row.1) some
        → AllByRecursion Passes (flat_map (row_tests q c rows) (enumerate_from (n + 1) some))
    rows_pass n [] there names = tt
    rows_pass n (row ∷ some) there names =
        let zero_more : n + 0 ≡ n = omega arith in
        let here : slice_get rows n ≡ Some row = ap (slice_get rows) (sym zero_more) ∙ sym (there 0) in
        let in_place : slice_get (in_order all) n ≡ Some row.0 = row_at n row here in
        let place : n + 1 - 1 ≡ n = omega arith in
        let is_candidate : (is_one_of all row.0 && is_named c.stations row) ≡ true =
        ap (λ (b : Bool). b && is_named c.stations row) (among all apart n row.0 in_place)
        ∙ has_name c.stations row names.0 in
        let rank : (rank_in all row.0 == n + 1 - 1) ≡ true =
        ap (λ (m : ℕ). rank_in all row.0 == m) place ∙ rank_at all apart n row.0 in_place in (
          is_candidate,
          (
            row_behind n row here,
            (
              rank,
              rows_pass (n + 1) some (λ j.
                  let next : n + suc j ≡ n + 1 + j = omega arith in there (suc j) ∙ ap (slice_get rows) next) names.1,
            ),
          ),
        )

    -- there are enough rows
    enough : are_enough q.k (length all) (length rows) ≡ true
    enough =
        let firsts : of_rows rows ≡ take q.k (in_order all) = best_are ∙ best_first all apart q.k in
        let many : length rows ≡ length (take q.k (in_order all)) =
        sym (length-map rows (λ (r : Named). r.0)) ∙ ap (λ (l : List Candidate). length l) firsts in
        ap (λ (m : ℕ). nat_le q.k (length rows) || nat_le m (length rows)) (sym (ordered-length all apart))
        ∙ enough-taken q.k (length rows) (in_order all) many

    -- if the rows are the best with their stations' names, their tests pass
    pub best_pass : AllByRecursion (λ row. name_of c.stations row.0.id ≡ Some row.1) rows
        → AllByRecursion Passes (flat_map (row_tests q c rows) (enumerate_from 1 rows))
        × (are_enough q.k (length all) (length rows) ≡ true)
    best_pass names =
        (rows_pass 0 rows (λ j. let same : j ≡ 0 + j = omega arith in ap (slice_get rows) same) names, enough)

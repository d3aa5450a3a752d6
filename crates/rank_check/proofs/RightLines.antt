-- The tests of a certificate's lines pass if and only if each is a right entry of its morsel.
use Rattle.std.proofs.Common.{◌≡◌, ℕ, suc, ◌+◌, ◌-◌, ◌≤◌, Bool, true, false, not, List, [], ◌∷◌, length, map, Option}
use Rattle.std.proofs.Common.{Some, refl, sym, ap, ◌∙◌, arith, ℤ, ◌≤ℤ◌, ◌||◌}
use Rattle.std.specs.Prelude.{slice_get, nat_le, int_le, ◌&&◌, ⊤}
use Rattle.std.specs.List.{flat_map, enumerate_from, list_all, AllByRecursion, AllZip}
use Rattle.std.specs.Option.{option_map_or}
use Rattle.std.proofs.lemmas.Bool.{and_parts, leb-true, le-leb, eqb-true}
use Rattle.std.proofs.lemmas.Bool.Decides.{nat_tests}
use Rattle.std.proofs.lemmas.Slice.Zip.{AllZip-long}
use Rattle.std.proofs.lemmas.Int.{ints}
use Rattle.ghcn_files.specs.declared.station.StationId.{StationId}
use Rattle.ghcn_files.specs.Meaning.Ids.{same_id}
use Rattle.ghcn_files.proofs.IdLaws.{same_id-is, same_id-laws}
use Rattle.ghcn_series.specs.Meaning.Series.{Series}
use Rattle.ghcn_series.specs.Series.{Data}
use Rattle.rank_query.specs.Meaning.Asked.{Query}
use Rattle.rank_scores.specs.declared.candidate.Candidate.{Candidate}
use Rattle.rank_scores.specs.Candidates.{candidates}
use Rattle.rank_scores.specs.Order.{bound_is_below}
use Rattle.rank_scores.specs.Morsels.{morsels}
use Rattle.rank_papers.specs.Certificate.{Line, IsEntry, IsRightEntry, count_of}
use Rattle.rank_check.specs.Tests.{is_above, is_counted, entry_tests}
use Rattle.rank_check.proofs.Accepted.{Passes}

-- ---- scores

-- a test of two numbers
le_from : (a b : ℤ) → int_le a b ≡ true → a ≤ℤ b
le_from a b e = grind (arith, ints)

-- and back
le_to : (a b : ℤ) → a ≤ℤ b → int_le a b ≡ true
le_to a b h = grind (arith, ints)

-- no candidate is above a number if the test passes
pub above_from : (bound : ℤ) (cs : List Candidate) → list_all (λ c. int_le c.score bound) cs ≡ true
    → AllByRecursion (λ c. c.score ≤ℤ bound) cs
above_from bound [] e = tt
above_from bound (c ∷ cs) e =
    let two = and_parts (int_le c.score bound) (list_all (λ d. int_le d.score bound) cs) e in
    (le_from c.score bound two.0, above_from bound cs two.1)

-- and back
pub above_to : (bound : ℤ) (cs : List Candidate) → AllByRecursion (λ c. c.score ≤ℤ bound) cs
    → list_all (λ c. int_le c.score bound) cs ≡ true
above_to bound [] h = refl
above_to bound (c ∷ cs) h =
    ap (λ (b : Bool). b && list_all (λ d. int_le d.score bound) cs) (le_to c.score bound h.0)
    ∙ above_to bound cs h.1

-- ---- entries

-- what is skipped is below, if the test passes
pub below_from : (skipped low : Bool) → (not skipped || low) ≡ true → skipped ≡ true → low ≡ true
below_from true low e f = e
below_from false low e f = absurd cc

-- and back
pub below_to : (skipped low : Bool) → (skipped ≡ true → low ≡ true) → (not skipped || low) ≡ true
below_to true low h = h refl
below_to false low h = refl

-- a count is the number of rows if the test passes
counted_from : (rows : List Candidate) (e : Line) (n : ℕ) → is_counted rows e (Some n) ≡ true → n ≡ count_of rows e
counted_from rows e n h = eqb-true n (count_of rows e) h

-- and back
counted_to : (rows : List Candidate) (e : Line) (n : ℕ) → n ≡ count_of rows e → is_counted rows e (Some n) ≡ true
counted_to rows e n h = grind (arith, nat_tests)

-- no counts at all
abbrev no_counts : List ℕ
no_counts = []

-- counts are the numbers of rows, as far as there are counts
abbrev pub AreCounted : List Candidate → List ℕ → List Line → Type 0
AreCounted rows [] es = ⊤
AreCounted rows (n ∷ counts) [] = ⊤
AreCounted rows (n ∷ counts) (e ∷ es) = (n ≡ count_of rows e) × AreCounted rows counts es

-- those that were counted are
pub are_counted : (rows : List Candidate) (es : List Line) → AreCounted rows (map (count_of rows) es) es
are_counted rows [] = tt
are_counted rows (e ∷ es) = (refl, are_counted rows es)

module _ (q : Query) (c : Data) (kth : Option ℤ) (rows : List Candidate) (counts : List ℕ) where
  -- the places of the rest
  places_behind : {X : Type 0} (n : ℕ) (x : X) (xs all : List X)
      → ((j : ℕ) → slice_get all (n + j) ≡ slice_get (x ∷ xs) j)
      → (j : ℕ) → slice_get all (n + 1 + j) ≡ slice_get xs j
  places_behind n x xs all there j = let next : n + 1 + j ≡ n + suc j = omega arith in
      ap (slice_get all) next ∙ there (suc j)

  -- the morsel of the line after that many
  morsel_here : (n : ℕ) (ss : List Series) → ((j : ℕ) → slice_get (morsels q c) (n + j) ≡ slice_get ss j)
      → slice_get (morsels q c) (n + 1 - 1) ≡ slice_get ss 0
  morsel_here n ss there = let same : n + 1 - 1 ≡ n + 0 = omega arith in ap (slice_get (morsels q c)) same ∙ there 0

  -- lines whose tests pass are right entries of the morsels from a place on
  entries_right : (n : ℕ) (es : List Line) (ss : List Series)
      → ((j : ℕ) → slice_get (morsels q c) (n + j) ≡ slice_get ss j) → length ss ≤ length es
      → AllByRecursion IsEntry es
      → AllByRecursion Passes (flat_map (entry_tests q c kth rows counts) (enumerate_from (n + 1) es))
      → AllZip (IsRightEntry q kth) es ss
  entries_right n [] [] there few can h = tt
  entries_right n [] (s ∷ ss) there few can h = absurd (omega arith)
  entries_right n (e ∷ es) [] there few can h =
      let none : option_map_or (λ s. same_id e.id s.id) (slice_get (morsels q c) (n + 1 - 1)) false ≡ false =
      ap (λ (o : Option Series). option_map_or (λ s. same_id e.id s.id) o false) (morsel_here n [] there) in
      let one : option_map_or (λ s. same_id e.id s.id) (slice_get (morsels q c) (n + 1 - 1)) false ≡ true = h.0 in
      absurd cc
  entries_right n (e ∷ es) (s ∷ ss) there few can h =
      let here : slice_get (morsels q c) (n + 1 - 1) ≡ Some s = morsel_here n (s ∷ ss) there in
      let named : same_id e.id s.id ≡ true =
      ap (λ (o : Option Series). option_map_or (λ t. same_id e.id t.id) o false) (sym here) ∙ h.0 in
      let above : is_above q e.bound s ≡ true =
      ap (λ (o : Option Series). option_map_or (is_above q e.bound) o true) (sym here) ∙ h.1.0 in (
        record {
          named = same_id-is e.id s.id named;
          above = above_from e.bound (candidates q s) above;
          fits = can.0.bound;
          passed_over = below_from e.skipped (bound_is_below kth e.bound) h.1.1.0;
        },
        entries_right (n + 1) es ss (places_behind n s ss (morsels q c) there) (omega arith) can.1 h.1.1.1.1,
      )

  -- the count of the line after that many
  count_here : (n : ℕ) (ns : List ℕ) → ((j : ℕ) → slice_get counts (n + j) ≡ slice_get ns j)
      → slice_get counts (n + 1 - 1) ≡ slice_get ns 0
  count_here n ns there = let same : n + 1 - 1 ≡ n + 0 = omega arith in ap (slice_get counts) same ∙ there 0

  -- the places of the rest, if there is no count
  places_none : (n : ℕ) → ((j : ℕ) → slice_get counts (n + j) ≡ slice_get no_counts j)
      → (j : ℕ) → slice_get counts (n + 1 + j) ≡ slice_get no_counts j
  places_none n there j = let next : n + 1 + j ≡ n + suc j = omega arith in
      ap (slice_get counts) next ∙ there (suc j)

  -- counts of lines whose tests pass, one for each, are the numbers of rows
  counts_right : (n : ℕ) (es : List Line) (ns : List ℕ)
      → ((j : ℕ) → slice_get counts (n + j) ≡ slice_get ns j) → length ns ≡ length es
      → AllByRecursion Passes (flat_map (entry_tests q c kth rows counts) (enumerate_from (n + 1) es))
      → ns ≡ map (count_of rows) es
  counts_right n [] [] there long h = refl
  counts_right n [] (x ∷ ns) there long h = absurd (omega (arith, long))
  counts_right n (e ∷ es) [] there long h = absurd (omega (arith, long))
  counts_right n (e ∷ es) (x ∷ ns) there long h =
      let own : is_counted rows e (Some x) ≡ true =
      ap (is_counted rows e) (sym (count_here n (x ∷ ns) there)) ∙ h.1.1.1.0 in
      ap (λ (m : ℕ). m ∷ ns) (counted_from rows e x own)
      ∙ ap (λ (l : List ℕ). count_of rows e ∷ l)
      (counts_right (n + 1) es ns (places_behind n x ns counts there) (omega (arith, long)) h.1.1.1.1)

  -- the test of a count passes if there is none
  none_counted : (n : ℕ) (e : Line) → ((j : ℕ) → slice_get counts (n + j) ≡ slice_get no_counts j)
      → is_counted rows e (slice_get counts (n + 1 - 1)) ≡ true
  none_counted n e there = ap (is_counted rows e) (count_here n [] there)

  -- the tests of one right entry, before those of the others
  entry_pass : (n : ℕ) (e : Line) (s : Series) (ss : List Series) (es : List Line)
      → ((j : ℕ) → slice_get (morsels q c) (n + j) ≡ slice_get (s ∷ ss) j) → IsRightEntry q kth e s
      → is_counted rows e (slice_get counts (n + 1 - 1)) ≡ true
      → AllByRecursion Passes (flat_map (entry_tests q c kth rows counts) (enumerate_from (n + 1 + 1) es))
      → AllByRecursion Passes (flat_map (entry_tests q c kth rows counts) (enumerate_from (n + 1) (e ∷ es)))
  entry_pass n e s ss es there h counted rest =
      let here : slice_get (morsels q c) (n + 1 - 1) ≡ Some s = morsel_here n (s ∷ ss) there in
      let own : same_id e.id s.id ≡ true =
      ap (λ (i : StationId). same_id i s.id) h.named ∙ same_id-laws.refl s.id in (
        ap (λ (o : Option Series). option_map_or (λ t. same_id e.id t.id) o false) here ∙ own,
        (
          ap (λ (o : Option Series). option_map_or (is_above q e.bound) o true) here
              ∙ above_to e.bound (candidates q s) h.above,
          (below_to e.skipped (bound_is_below kth e.bound) h.passed_over, (counted, rest)),
        ),
      )

  -- the tests of right entries pass
  entries_pass : (n : ℕ) (es : List Line) (ss : List Series) (ns : List ℕ)
      → ((j : ℕ) → slice_get (morsels q c) (n + j) ≡ slice_get ss j)
      → ((j : ℕ) → slice_get counts (n + j) ≡ slice_get ns j)
      → AllZip (IsRightEntry q kth) es ss → AreCounted rows ns es
      → AllByRecursion Passes (flat_map (entry_tests q c kth rows counts) (enumerate_from (n + 1) es))
  entries_pass n [] ss ns there here h k = tt
  entries_pass n (e ∷ es) [] ns there here h k = absurd h
  entries_pass n (e ∷ es) (s ∷ ss) [] there here h k =
      let rest = entries_pass (n + 1) es ss [] (places_behind n s ss (morsels q c) there) (places_none n here) h.1 tt in
      entry_pass n e s ss es there h.0 (none_counted n e here) rest
  entries_pass n (e ∷ es) (s ∷ ss) (x ∷ ns) there here h k =
      let rest = entries_pass (n + 1) es ss ns (places_behind n s ss (morsels q c) there)
      (places_behind n x ns counts here) h.1 k.1 in
      entry_pass n e s ss es there h.0
      (ap (is_counted rows e) (count_here n (x ∷ ns) here) ∙ counted_to rows e x k.0) rest

-- lines whose tests pass are right entries, if none is missing
pub lines_right : (q : Query) (c : Data) (kth : Option ℤ) (rows : List Candidate) (counts : List ℕ)
    (es : List Line) → AllByRecursion IsEntry es
    → AllByRecursion Passes (flat_map (entry_tests q c kth rows counts) (enumerate_from 1 es))
    → nat_le (length (morsels q c)) (length es) ≡ true → AllZip (IsRightEntry q kth) es (morsels q c)
lines_right q c kth rows counts es can h few =
    entries_right q c kth rows counts 0 es (morsels q c)
    (λ j. let same : 0 + j ≡ j = omega arith in ap (slice_get (morsels q c)) same)
    (leb-true (length (morsels q c)) (length es) few) can h

-- and their counts are the numbers of rows, if there is one for each
pub counts_are : (q : Query) (c : Data) (kth : Option ℤ) (rows : List Candidate) (counts : List ℕ)
    (es : List Line) → length counts ≡ length es
    → AllByRecursion Passes (flat_map (entry_tests q c kth rows counts) (enumerate_from 1 es))
    → counts ≡ map (count_of rows) es
counts_are q c kth rows counts es long h =
    counts_right q c kth rows counts 0 es counts
    (λ j. let same : 0 + j ≡ j = omega arith in ap (slice_get counts) same) long h

-- and back
pub right_pass : (q : Query) (c : Data) (kth : Option ℤ) (rows : List Candidate) (counts : List ℕ)
    (es : List Line) → AllZip (IsRightEntry q kth) es (morsels q c) → AreCounted rows counts es
    → AllByRecursion Passes (flat_map (entry_tests q c kth rows counts) (enumerate_from 1 es))
    × (nat_le (length (morsels q c)) (length es) ≡ true)
right_pass q c kth rows counts es h k =
    let many : length (morsels q c) ≡ length es = AllZip-long (IsRightEntry q kth) es (morsels q c) h in (
      entries_pass q c kth rows counts 0 es (morsels q c) counts
          (λ j. let same : 0 + j ≡ j = omega arith in ap (slice_get (morsels q c)) same)
          (λ j. let same : 0 + j ≡ j = omega arith in ap (slice_get counts) same) h k,
      le-leb (length (morsels q c)) (length es) (omega arith),
    )

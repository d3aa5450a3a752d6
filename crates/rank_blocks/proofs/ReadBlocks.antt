-- The summaries of a series, block by block.
use Rattle.rank_blocks.proofs.Cited.{◌≡◌, ℕ, ◌<◌, ◌^◌, true, List, [], ◌∷◌, ◌++◌, map, Option, Some, None, refl, sym}
use Rattle.rank_blocks.proofs.Cited.{◌∙◌, subst, arith, ℤ, pos, ◌≤ℤ◌, ◌<ℤ◌, ◌+ℤ◌, w32, Contains, trailing_zeros}
use Rattle.rank_blocks.proofs.Cited.{AllByRecursion, ints, by_lt_z, map-append, Contains-append_left, Contains-push}
use Rattle.rank_blocks.proofs.Cited.{bit_at-trailing_zeros, block_of, is_day, IsBlock, AreRising, IsBlockOf, HasNone}
use Rattle.rank_blocks.proofs.Cited.{next_block, DayValue, Series, IsSeries, value_on, Score, Summary, IsSummary}
use Rattle.rank_blocks.proofs.Cited.{IsPossible, AreSummariesTo, AreSummariesUpTo, numbers_left, rise-from_by_day}
use Rattle.rank_blocks.proofs.Cited.{from_each, each-append, values_stand, from_both, IsStrictlySortedBy}
use Rattle.rank_blocks.proofs.Members.{contains-first, itself, of_each, for_each}
use Rattle.rank_blocks.proofs.DaysInBlocks.{block-rises, place-in}
use Rattle.rank_blocks.proofs.PossibleBlocks.{sorted-push}
use Rattle.rank_blocks.proofs.Above.{days-valid}
use Rattle.rank_blocks.proofs.BlockDays.{block-day}
use Rattle.ghcn_series.proofs.FirstDays.{block-of_day}

-- at first no block before that of the first day
pub read-first : (score : Score) (s : Series) (x : DayValue) (rest : List DayValue) → IsSeries s → s.days ≡ x ∷ rest
    → AreSummariesTo score s (block_of x.0) []
unfolding IsStrictlySortedBy
read-first score s x rest series split =
    let rise : AreRising (x ∷ rest) = subst AreRising split (rise-from_by_day s.days series.by_day) in
    let has : Contains s.days x = subst (λ xs. Contains xs x) (sym split) (contains-first x x rest refl) in
    grind (arith, ints, from_each, block-rises, days-valid s series x has)

-- the block of a word with a day in it is one of the calendar
pub block-IsBlock : (s : Series) (b : ℤ) (word : ℕ) (values : List ℤ) → IsSeries s → word < 2 ^ 32
    → IsBlockOf s.days b word values → IsBlock b
block-IsBlock s b word values series fits of_block =
    let lowest = bit_at-trailing_zeros w32 word of_block.present fits in
    let day = block-day s.days (rise-from_by_day s.days series.by_day) b word values of_block (λ n v. is_day n ≡ true)
    (for_each (λ x. is_day x.0 ≡ true) s.days (λ x has. (days-valid s series x has).0))
    (trailing_zeros w32 word) lowest.0 lowest.1 in
    block-of_day b (trailing_zeros w32 word) lowest.0 day

-- with the summary of the block that is looked at
pub read-more : (score : Score) (s : Series) (n : ℤ) (ms : List Summary) (m : Summary) → AreSummariesTo score s n ms
    → m.number ≡ n → IsBlock n → IsSummary score s.days m → IsPossible m
    → AreSummariesTo score s (n +ℤ pos 1) (ms ++ m ∷ [])
read-more score s n ms m so_far number block is possible =
    record {
      series = so_far.series;
      low = omega (arith, ints);
      high = omega (arith, ints);
      each = each-append (IsSummary score s.days) ms (m ∷ []) so_far.each (is, tt);
      possible = each-append IsPossible ms (m ∷ []) so_far.possible (possible, tt);
      before = each-append (λ k. k.number <ℤ (n +ℤ pos 1)) ms (m ∷ [])
          (grind (arith, ints, from_each, so_far.before)) (omega (arith, ints), tt);
      all = from_each (λ x. block_of x.0 <ℤ n → Contains (map (λ k. k.number) ms) (block_of x.0))
          (λ x. block_of x.0 <ℤ (n +ℤ pos 1) → Contains (map (λ k. k.number) (ms ++ m ∷ [])) (block_of x.0)) s.days
          (λ x has lt. rw (map-append (λ (k : Summary). k.number) ms (m ∷ [])) (by_lt_z (block_of x.0) n
          (λ less. Contains-append_left _ _ _ (has less))
          (λ ge. subst (Contains (map (λ k. k.number) ms ++ m.number ∷ [])) {x = m.number} (omega (arith, ints))
          (Contains-push _ _)))) so_far.all;
      by_number = sorted-push ms m so_far.by_number (grind (arith, ints, from_each, so_far.before));
    }

-- the next block is that of one of the days
next-one : (P : DayValue → Type 0) (days : List DayValue) (b k : ℤ) → AllByRecursion P days
    → next_block days b ≡ Some k → (x : DayValue) × P x × (block_of x.0 ≡ k) × (b ≤ℤ k)
next-one P [] b k all e = absurd cc
next-one P (x ∷ xs) b k all e = grind (arith, ints, next-one P xs b k all.1)

-- a day in a block before the next one is in a block before the one that is looked at
next-less : (days : List DayValue) (b k : ℤ) → AreRising days → next_block days b ≡ Some k
    → AllByRecursion (λ x. block_of x.0 <ℤ k → block_of x.0 <ℤ b) days
next-less [] b k rise e = tt
next-less (x ∷ xs) b k rise e =
    grind (arith, ints, from_each, block-rises, next-less xs b k rise.1)

-- if there is no next block, all days are in blocks before
next-none : (days : List DayValue) (b : ℤ) → next_block days b ≡ None → AllByRecursion (λ x. block_of x.0 <ℤ b) days
next-none [] b e = tt
next-none (x ∷ xs) b e = grind (arith, ints, next-none xs b)

module _ (score : Score) (s : Series) (n : ℤ) (ms : List Summary) (so_far : AreSummariesTo score s n ms)
    (none : HasNone s.days n) where
  -- a block without a day is skipped, and a later one is next
  pub read-next : (next : Option ℤ) → next_block s.days n ≡ next → AreSummariesUpTo score s ms next
      × (numbers_left next < numbers_left (Some n))
  read-next (Some k) e =
      let rise = rise-from_by_day s.days so_far.series.by_day in
      let found = next-one (Contains s.days) s.days n k (itself s.days) e in
      let x : DayValue = found.0 in
      let own = of_each (λ x. value_on s.days x.0 ≡ Some x.1) s.days (values_stand s.days rise) x found.1 in
      let valid = days-valid s so_far.series x found.1 in
      let later = by_lt_z n k (λ lt. lt) (λ ge.
      let at = place-in n x.0 (found.2 ∙ omega (arith, ints, ge, found.3)) in
      absurd (grind (arith, ints, at, none at.0 at.1, own))) in (
        record {
          series = so_far.series;
          low = grind (arith, ints, valid, block-rises);
          high = grind (arith, ints, valid, block-rises);
          each = so_far.each;
          possible = so_far.possible;
          before = grind (arith, ints, from_each, so_far.before);
          all = grind (arith, ints, from_both, next-less s.days n k rise e, so_far.all);
          by_number = so_far.by_number;
        },
        grind (arith, ints, valid, block-rises),
      )
  read-next None e = grind (arith, ints, from_both, next-none s.days n e)

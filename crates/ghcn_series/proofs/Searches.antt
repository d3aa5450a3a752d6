-- What searches find in numbers that rise, and what it says of the blocks.
use Rattle.ghcn_series.proofs.Cited.{◌≡◌, ℕ, ◌+◌, ◌<◌, ◌≤◌, true, false, List, [], length, get_or, Option, Some, None}
use Rattle.ghcn_series.proofs.Cited.{Result, Ok, Err, sym, ap, ◌∙◌, arith, ℤ, pos, ◌<ℤ◌, ◌+ℤ◌, Bor, inl, inr, int_lt}
use Rattle.ghcn_series.proofs.Cited.{int_le, option_copied, find, zip, slice_get_past, slice_get-get_or, int_cmp, is_lt}
use Rattle.ghcn_series.proofs.Cited.{cases_lt, int_cmp_total, int_ranked, get_or_default, ints, Block, value_at}
use Rattle.ghcn_series.proofs.Cited.{block_start, days_of_blocks, blocks_of, Rise, AreColumns, next_block, length-zip}
use Rattle.std.proofs.Common.{IfNone}
use Rattle.std.specs.Prelude.{slice_get, MatchOption}
use Rattle.std.specs.List.{HoldsAt}
use Rattle.std.specs.List.Sorted.{IsBinarySearchResult, IsNonDecreasingBy, IsPartitionedBy}
use Rattle.std.specs.Ordering.{ordering_index}
use Rattle.std.specs.Result.{result_ok}
use Rattle.std.proofs.lemmas.List.Sorted.{searchable_from_sorted}
use Rattle.ghcn_series.specs.Packed.{IsAt, IsNowhere, IsBlockOf, HasNone}
use Rattle.std.proofs.lemmas.Slice.Zip.{firsts-zip}
use Rattle.ghcn_series.proofs.PartsAdded.{packed-at}
use Rattle.ghcn_series.proofs.Nexts.{next-of_numbers}
use Rattle.ghcn_series.proofs.Lookups.{no_block, block-of_place, days-without, days-at, blocks-at, blocks-length}

-- a lesser number doesn't compare as greater
not_after : (a b : ℤ) → a <ℤ b → is_lt (int_cmp b a) ≡ false
not_after a b lt = grind (arith, ints)

-- numbers that rise do at any default
rise-at : (ns : List ℤ) → Rise ns → (i j : ℕ) (d : ℤ) → i < j → j < length ns → get_or ns i d <ℤ get_or ns j d
rise-at ns rise i j d lt within =
    let first : get_or ns i d ≡ get_or ns i (pos 0) = get_or_default ns i d (pos 0) (omega arith) in
    let second : get_or ns j d ≡ get_or ns j (pos 0) = get_or_default ns j d (pos 0) within in
    rw (first, second) (rise.less i j lt within)

-- a search of a number ends at its place, or the number is nowhere
pub absent-from_search : (ns : List ℤ) → Rise ns → (b : ℤ) → (r : Result ℕ ℕ)
    → IsBinarySearchResult (λ y. int_cmp y b) ns r → IfNone (result_ok r) (IsNowhere ns b)
absent-from_search ns rise b (Ok i) found = tt
absent-from_search ns rise b (Err i) parted =
    let sorted : IsNonDecreasingBy (λ y. ordering_index (int_cmp y b)) ns = searchable_from_sorted int_cmp_total
    (λ (n : ℤ). n) ns b (λ k d low high. not_after (get_or ns k d) (get_or ns (k + 1) d)
    (rise-at ns rise k (k + 1) d (omega arith) high)) in
    λ k at. elim (cases_lt k i) [
      | inl before ↦
          let less : get_or ns k (pos 0) <ℤ b = int_ranked _ _ _
          (sym ((parted sorted).0 k (pos 0) (omega arith) before)) in omega (arith, ints, at.is)
      | inr behind ↦
          let more : b <ℤ get_or ns k (pos 0) = int_ranked _ _ _
          (sym ((parted sorted).1 k (pos 0) behind at.in_range)) in omega (arith, ints, at.is)
    ]

-- what is less than a number is less than greater ones
below_too : (a c b : ℤ) → a <ℤ c → int_lt c b ≡ true → int_lt a b ≡ true
below_too a c b lt e = grind (arith, ints)

-- the numbers below one come first
pub parted-by_rise : (ns : List ℤ) → Rise ns → (b : ℤ) → IsPartitionedBy (λ n. int_lt n b) ns
parted-by_rise ns rise b i j d le lt below = elim (cases_lt i j) [
  | inl before ↦ below_too (get_or ns i d) (get_or ns j d) b (rise-at ns rise i j d before lt) below
  | inr same ↦ let is : j ≡ i = omega arith in rw is at below
]

-- a number is at one place among rising ones
same_place : (ns : List ℤ) → Rise ns → (i k : ℕ) (n : ℤ) → IsAt ns n i → IsAt ns n k → k ≡ i
same_place ns rise i k n here there =
    let after : i < k → ⊥ = λ lt. omega (arith, ints, rise.less i k lt there.in_range, here.is, there.is) in
    let before : k < i → ⊥ = λ lt. omega (arith, ints, rise.less k i lt here.in_range, here.is, there.is) in
    omega (arith, after, before)

module _ (ns : List ℤ) (ws : List ℕ) (vs : List (List ℤ)) (cols : AreColumns ns ws vs) where
  -- the block at a place has the three columns' parts there
  here : (k : ℕ) → k < length (blocks_of ns ws vs) → get_or (blocks_of ns ws vs) k no_block
      ≡ (get_or ns k (pos 0), (get_or ws k 0, get_or vs k []))
  here k lt = blocks-at ns ws vs k cols.blocks.enough_words cols.blocks.enough_values
      (omega (arith, blocks-length ns ws vs cols.blocks.enough_words cols.blocks.enough_values))

  -- a block's number is at its place
  at-number : (k : ℕ) (n : ℤ) → k < length (blocks_of ns ws vs) → (get_or (blocks_of ns ws vs) k no_block).0 ≡ n
      → IsAt ns n k
  at-number k n lt e = record {
    in_range = omega (arith, blocks-length ns ws vs cols.blocks.enough_words cols.blocks.enough_values);
    is = sym (ap (λ (b : Block). b.0) (here k lt)) ∙ e;
  }

  -- a block whose number is nowhere has no day
  pub block-absent : (n : ℤ) → IsNowhere ns n → HasNone (days_of_blocks (blocks_of ns ws vs)) n
  block-absent n nowhere j lt = days-without (blocks_of ns ws vs) (block_start n +ℤ pos j)
      (λ k less e. nowhere k (at-number k n less (e ∙ block-of_place n j lt)))

  -- the block at the place of a number
  pub block-found : (n : ℤ) (i : ℕ) → IsAt ns n i → IsBlockOf (days_of_blocks (blocks_of ns ws vs)) n (get_or ws i 0)
      (get_or vs i [])
  block-found n i at =
      let bs : List Block = blocks_of ns ws vs in
      let long = blocks-length ns ws vs cols.blocks.enough_words cols.blocks.enough_values in
      let less : i < length bs = omega (arith, long, at.in_range) in
      let is : get_or bs i no_block ≡ (get_or ns i (pos 0), (get_or ws i 0, get_or vs i [])) = here i less in
      let packed = packed-at ns ws vs cols.blocks i at.in_range in record {
        present = packed.present;
        fits = packed.fits;
        holds = λ j lt. sym (days-at bs i n j lt less (ap (λ (b : Block). b.0) is ∙ at.is)
            (λ k below e. same_place ns cols.rise i k n at (at-number k n below e))
            ∙ ap (λ (b : Block). value_at b.1.0 b.1.1 j) is);
        zeros = packed.zeros;
      }

-- the next block of the columns' days
pub next-of_columns : (ns : List ℤ) (ws : List ℕ) (vs : List (List ℤ)) → AreColumns ns ws vs → (b : ℤ)
    → next_block (days_of_blocks (blocks_of ns ws vs)) b ≡ find (int_le b) ns
next-of_columns ns ws vs cols b = next-of_numbers b (blocks_of ns ws vs) cols.blocks.packed
    ∙ ap (find (int_le b)) (firsts-zip ns (zip ws vs)
    (omega (arith, length-zip ws vs, cols.blocks.enough_words, cols.blocks.enough_values)))

-- what `get` returns is the element at that place
pub got-is : (xs : List ℤ) (i : ℕ) (o : Option (Bor ℤ))
    → MatchOption o (length xs ≤ i) (λ x. (i < length xs) × HoldsAt (λ y. x.now ≡ y) xs i)
    → option_copied o ≡ slice_get xs i
got-is xs i None past = sym (slice_get_past xs i past)
got-is xs i (Some x) within = ap Some (within.1 (pos 0)) ∙ sym (slice_get-get_or xs i (pos 0) within.0)

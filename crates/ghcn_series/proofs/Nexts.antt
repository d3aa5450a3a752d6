-- The first block from a number on.
use Rattle.ghcn_series.proofs.Cited.{◌≡◌, ℕ, zero, suc, ◌<◌, ◌^◌, Bool, true, false, List, [], ◌∷◌, ◌++◌, map, length}
use Rattle.ghcn_series.proofs.Cited.{inl, inr, Some, refl, sym, ap, ◌∙◌, arith, ℤ, pos, length-append, ◌==◌, int_le}
use Rattle.ghcn_series.proofs.Cited.{int_lt, find, AllByRecursion, option_map, cases_Bool, ne_eqb, ints, block_of}
use Rattle.ghcn_series.proofs.Cited.{DayValue, Block, block_days, days_of_blocks, blocks_of, AreBlocks, IsPacked}
use Rattle.ghcn_series.proofs.Cited.{next_block}
use Rattle.std.specs.Prelude.{slice_get}
use Rattle.std.specs.List.Sorted.{IsPartitionPoint}
use Rattle.ghcn_series.proofs.Lookups.{block-of_place}
use Rattle.ghcn_series.proofs.FirstDays.{block-first, fewer}
use Rattle.ghcn_series.proofs.PartDays.{each-day}

-- the days lie in this block
abbrev pub AreOf : ℤ → List DayValue → Type 0
AreOf n days = AllByRecursion (λ x. block_of x.0 ≡ n) days

-- the days of a block lie in it
pub block-own : (b : Block) → AreOf b.0 (block_days b)
block-own b = each-day (λ (d : ℤ). block_of d ≡ b.0) b.0 b.1.1 b.1.0 (λ j lt set. block-of_place b.0 j lt)

-- a block with a bit set has a day
pub block-nonempty : (b : Block) → 0 < b.1.0 → b.1.0 < 2 ^ 32 → 0 < length (block_days b)
block-nonempty b some fits = omega (arith, fewer (block_days b) _ _ (block-first b.0 b.1.1 b.1.0 some fits))

-- blocks have no day if and only if there is no block
pub no-days : (ns : List ℤ) (ws : List ℕ) (vs : List (List ℤ)) → AreBlocks ns ws vs
    → (length ns == 0) ≡ (length (days_of_blocks (blocks_of ns ws vs)) == 0)
no-days [] ws vs bs = refl
no-days (n ∷ ns) (w ∷ ws) (v ∷ vs) bs =
    let some = block-nonempty (n, (w, v)) bs.packed.0.present bs.packed.0.fits in
    let all = days_of_blocks (blocks_of ns ws vs) in
    ne_eqb (length (n ∷ ns)) 0 (λ e. omega (arith, e)) ∙ sym (ne_eqb (length (block_days (n, (w, v)) ++ all)) 0
    (λ e. omega (arith, length-append (block_days (n, (w, v))) all, some, e)))
no-days _ _ _ bs = absurd (omega (arith, bs.enough_words, bs.enough_values))

-- a day is in a block or after it
abbrev reached : ℤ → DayValue → Bool
reached b x = int_le b (block_of x.0)

-- if the block is reached, its first day is the one
first-reached : (b n : ℤ) (xs ys : List DayValue) → AreOf n xs → 0 < length xs → int_le b n ≡ true
    → option_map (λ x. block_of x.0) (find (reached b) (xs ++ ys)) ≡ Some n
first-reached b n [] ys all some hit = absurd (omega arith)
first-reached b n (x ∷ xs) ys all some hit = rw (all.0, hit) (ap Some all.0)

-- if it isn't, its days are skipped
none-reached : (b n : ℤ) (xs ys : List DayValue) → AreOf n xs → int_le b n ≡ false → find (reached b) (xs ++ ys)
    ≡ find (reached b) ys
none-reached b n [] ys all missed = refl
none-reached b n (x ∷ xs) ys all missed = rw (all.0, missed) (none-reached b n xs ys all.1 missed)

-- the next block of some days is found among the numbers of their blocks
pub next-of_numbers : (b : ℤ) (bs : List Block) → AllByRecursion IsPacked bs → next_block (days_of_blocks bs) b
    ≡ find (int_le b) (map (λ x. x.0) bs)
next-of_numbers b [] all = refl
next-of_numbers b (x ∷ xs) all = elim (cases_Bool (int_le b x.0)) [
  | inl hit ↦ rw hit (first-reached b x.0 (block_days x) (days_of_blocks xs) (block-own x)
      (block-nonempty x all.0.present all.0.fits) hit)
  | inr missed ↦ rw missed (ap (option_map (λ (y : DayValue). block_of y.0))
      (none-reached b x.0 (block_days x) (days_of_blocks xs) (block-own x) missed) ∙ next-of_numbers b xs all.1)
]

-- a partition point is the place of the first number that is found
pub found-at_partition : (b : ℤ) (ns : List ℤ) (i : ℕ)
    → IsPartitionPoint (λ n. int_lt n b ≡ true) (λ n. int_lt n b ≡ false) ns i → slice_get ns i ≡ find (int_le b) ns
found-at_partition b [] i parted = refl
found-at_partition b (n ∷ ns) zero parted =
    let above : int_lt n b ≡ false = parted.1 0 (pos 0) (omega arith) (omega arith) in
    let hit : int_le b n ≡ true = grind (arith, ints) in rw hit
found-at_partition b (n ∷ ns) (suc i) parted =
    let below : int_lt n b ≡ true = parted.0 0 (pos 0) (omega arith) (omega arith) in
    let missed : int_le b n ≡ false = grind (arith, ints) in
    rw missed (found-at_partition b ns i (
      λ k d le lt. parted.0 (suc k) d (omega arith) (omega arith),
      λ k d le lt. parted.1 (suc k) d (omega arith) (omega arith),
    ))

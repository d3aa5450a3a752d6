-- Days in their blocks, and how far a number lies after another.
use Rattle.rank_blocks.proofs.Cited.{◌≡◌, ℕ, ◌<◌, refl, arith, ℤ, pos, negsuc, ◌≤ℤ◌, ◌+ℤ◌, ◌-ℤ◌, ints, block_of}
use Rattle.rank_blocks.proofs.Cited.{block-holds, block_start}

-- how far a number lies after another
pub distance : (x y : ℤ) → x ≤ℤ y → (n : ℕ) × (y ≡ x +ℤ pos n)
distance x y le =
    elim (y -ℤ x) as (λ z. y -ℤ x ≡ z → (n : ℕ) × (y ≡ x +ℤ pos n)) [
      | pos n ↦ λ e. (n, omega (arith, ints))
      | negsuc n ↦ λ e. absurd (omega (arith, ints))
    ] refl

-- a later day is in no earlier block
pub block-rises : (a b : ℤ) → a ≤ℤ b → block_of a ≤ℤ block_of b
block-rises a b le = grind (arith, ints, block-holds)

-- a day of a block is at a place of it
pub place-in : (b d : ℤ) → block_of d ≡ b → (j : ℕ) × (j < 32) × (d ≡ block_start b +ℤ pos j)
place-in b d is =
    let holds = block-holds d in
    let far = distance (block_start b) d (omega (arith, ints)) in
    let at = far.1 in
    (far.0, omega (arith, ints), at)

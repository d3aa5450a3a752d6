-- Numbers in their order, and what is true of the summaries of every series.
use Rattle.rank_blocks.proofs.Cited.{◌≡◌, ℕ, zero, suc, drop, ◌-◌, ◌<◌, ◌≤◌, List, [], ◌∷◌, ◌++◌, map, length, get_or}
use Rattle.rank_blocks.proofs.Cited.{arith, ℤ, pos, ◌≤ℤ◌, ◌<ℤ◌, ◌+ℤ◌, int_cmp, Less, AllByRecursion, IsStrictlySortedBy}
use Rattle.rank_blocks.proofs.Cited.{ints, All-from_recursion, All-get_or, Summary, IsPossible, ArePossible}
use Rattle.ghcn_files.proofs.Ordered.{each-mapped}
use Rattle.rank_blocks.proofs.Cited.{each-append, from_each, map-append}

-- each block comes after a number
abbrev pub AreBehind : ℤ → List Summary → Type 0
AreBehind b ms = AllByRecursion (λ m. b <ℤ m.number) ms

-- no total of a block is below zero
abbrev pub AreFalls : List Summary → Type 0
AreFalls ms = AllByRecursion (λ m. pos 0 ≤ℤ m.total) ms

-- what compares as less is below
pub int_cmp-less : (a b : ℤ) → int_cmp a b ≡ Less → a <ℤ b
int_cmp-less a b e = grind (arith, ints)

-- blocks by number, and one after them whose number is greater than each
pub sorted-push : (ms : List Summary) (m : Summary) → IsStrictlySortedBy int_cmp (map (λ k. k.number) ms)
    → AllByRecursion (λ k. k.number <ℤ m.number) ms → IsStrictlySortedBy int_cmp (map (λ k. k.number) (ms ++ m ∷ []))
unfolding IsStrictlySortedBy
sorted-push [] m h less = (tt, tt)
sorted-push (k ∷ ks) m h less = grind (arith, ints, each-append, map-append, sorted-push ks m h.1 less.1)

-- blocks by number: those after the first have greater numbers
pub sorted-behind : (m : Summary) (ms : List Summary) → IsStrictlySortedBy int_cmp (map (λ k. k.number) (m ∷ ms))
    → AreBehind m.number ms
unfolding IsStrictlySortedBy
sorted-behind m ms h = from_each (λ k. int_cmp m.number k.number ≡ Less) (λ k. m.number <ℤ k.number) ms
    (λ k. int_cmp-less m.number k.number) (each-mapped (λ k. k.number) (λ n. int_cmp m.number n ≡ Less) ms h.0)

-- and are by number themselves
pub sorted-tail : (m : Summary) (ms : List Summary) → IsStrictlySortedBy int_cmp (map (λ k. k.number) (m ∷ ms))
    → IsStrictlySortedBy int_cmp (map (λ k. k.number) ms)
unfolding IsStrictlySortedBy
sorted-tail m ms h = h.1

-- what is true of the summaries of every series is true of those from a place on
pub possible-drop : (ms : List Summary) (i : ℕ) → ArePossible ms → ArePossible (drop i ms)
possible-drop ms zero h = h
possible-drop [] (suc i) h = h
possible-drop (m ∷ ms) (suc i) h = possible-drop ms i (grind (arith, sorted-tail m ms h.by_number, h.each))

-- what comes after the end of a list of summaries
abbrev pub no_block : Summary
no_block = record { number = pos 0; days = 0; day = pos 0; total = pos 0 }

-- the summary at a place
abbrev pub block_at : List Summary → ℕ → Summary
block_at ms i = get_or ms i no_block

-- the numbers rise from place to place
pub rises : (ms : List Summary) → IsStrictlySortedBy int_cmp (map (λ m. m.number) ms) → (i j : ℕ) → i ≤ j
    → j < length ms → ((block_at ms i).number +ℤ pos (j - i)) ≤ℤ (block_at ms j).number
rises [] sorted i j le lt = absurd (omega arith)
rises (m ∷ ms) sorted zero zero le lt = omega (arith, ints)
rises (m ∷ ms) sorted zero (suc j) le lt =
    let next = All-get_or (λ k. m.number <ℤ k.number) ms 0 no_block (omega arith)
    (All-from_recursion (λ k. m.number <ℤ k.number) ms (sorted-behind m ms sorted)) in
    omega (arith, ints, rises ms (sorted-tail m ms sorted) 0 j (omega arith) (omega arith))
rises (m ∷ ms) sorted (suc i) zero le lt = absurd (omega arith)
rises (m ∷ ms) sorted (suc i) (suc j) le lt =
    omega (arith, ints, rises ms (sorted-tail m ms sorted) i j (omega arith) (omega arith))

-- the summary at a place is possible
pub possible-at : (ms : List Summary) (i : ℕ) → i < length ms → ArePossible ms → IsPossible (block_at ms i)
possible-at ms i lt h = All-get_or IsPossible ms i no_block lt (All-from_recursion IsPossible ms h.each)

-- there are no more summaries than blocks
pub possible-few : (ms : List Summary) → ArePossible ms → length ms ≤ 114_128
possible-few [] h = omega arith
possible-few (m ∷ ms) h =
    let rise = rises (m ∷ ms) h.by_number 0 (length ms) in
    grind (arith, ints, rise, possible-at (m ∷ ms) (length ms), h)

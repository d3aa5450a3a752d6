-- How days of one kind follow one another: in one block, by the bits of a word, and in all blocks before one.
use Rattle.std.specs.Prelude.{◌≡◌, ℕ, ◌+◌, ◌<◌, ◌≤◌, ◌==◌, ◌⊎◌, Bool, true, false, ℤ, pos, ◌+ℤ◌, ◌-ℤ◌, ◌≤ℤ◌, ◌<ℤ◌}
use Rattle.std.specs.Int.{bit_at}
use Rattle.rank_blocks.specs.declared.runs.Runs.{Runs}
use Rattle.rank_blocks.specs.Blocks.{block_start}

-- whether a word's bit at a place is set
abbrev pub has_bit : ℕ → ℕ → Bool
has_bit word j = bit_at word j == 1

-- the places from one to before another all pass
abbrev pub AllPass : (ℕ → Bool) → ℕ → ℕ → Type 0
AllPass passes from before = (k : ℕ) → from ≤ k → k < before → passes k ≡ true

-- of that many places the first n pass, and no more
pub record ComeFirst (passes : ℕ → Bool) (places n : ℕ) : Type 0 where
  pub within : n ≤ places
  pub pass : AllPass passes 0 n
  pub ends : n < places → passes n ≡ false

-- of that many places the last n pass, and no more
pub record ComeLast (passes : ℕ → Bool) (places n : ℕ) : Type 0 where
  pub within : n ≤ places
  pub pass : (from : ℕ) → from + n ≡ places → AllPass passes from places
  pub begins : (k : ℕ) → k + 1 + n ≡ places → passes k ≡ false

-- among that many places n that pass follow one another somewhere, and nowhere more
pub record FollowAtMost (passes : ℕ → Bool) (places n : ℕ) : Type 0 where
  pub somewhere : (from : ℕ) × (from + n ≤ places) × AllPass passes from (from + n)
  pub nowhere_more : (from len : ℕ) → from + len ≤ places → AllPass passes from (from + len) → len ≤ n

-- the greater of a number and of how many that pass follow one another at most among that many places
pub record IsLongest (passes : ℕ → Bool) (places known n : ℕ) : Type 0 where
  pub no_less : known ≤ n
  pub somewhere : (n ≡ known) ⊎ ((from : ℕ) × (from + n ≤ places) × AllPass passes from (from + n))
  pub nowhere_more : (from len : ℕ) → from + len ≤ places → AllPass passes from (from + len) → len ≤ n

-- that many days from one on are all of the kind
abbrev pub AllFrom : (ℤ → Bool) → ℤ → ℕ → Type 0
AllFrom such first len = (i : ℕ) → i < len → such (first +ℤ pos i) ≡ true

-- of the days before r's next block that many of the kind come last, and that many follow one another, and nowhere more
pub record AreRuns (such : ℤ → Bool) (r : Runs) : Type 0 where
  pub from : ℤ
  pub ends : from +ℤ pos r.last ≡ block_start r.next
  pub last : AllFrom such from r.last
  pub begins : such (from -ℤ pos 1) ≡ false
  pub somewhere : (first : ℤ) × AllFrom such first r.longest
  pub nowhere_more : (first : ℤ) (len : ℕ) → (first +ℤ pos len) ≤ℤ block_start r.next → AllFrom such first len
      → len ≤ r.longest

-- what is said if no day before a block is of the kind
abbrev pub runs_before : ℤ → Runs
runs_before b = record { next = b; last = 0; longest = 0 }

-- no day from one block on and before another is of the kind
abbrev pub NoneBetween : (ℤ → Bool) → ℤ → ℤ → Type 0
NoneBetween such b next = (d : ℤ) → block_start b ≤ℤ d → d <ℤ block_start next → such d ≡ false

-- a word has the bits of a block's days of the kind
abbrev pub AreBitsOf : (ℤ → Bool) → ℤ → ℕ → Type 0
AreBitsOf such b word = (i : ℕ) → i < 32 → has_bit word i ≡ such (block_start b +ℤ pos i)

-- whatever the kind, what was said goes on with a later block's days, of which a word has the bits
abbrev pub Continues : Runs → ℤ → ℕ → Runs → Type 0
Continues old b word new = (such : ℤ → Bool) →
    AreRuns such old → NoneBetween such old.next b → AreBitsOf such b word → AreRuns such new

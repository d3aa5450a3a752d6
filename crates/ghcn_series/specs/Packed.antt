-- Packed columns: blocks of 32 days, each with a word, whose bit j says that day j is present, and the days' values.
use Rattle.std.specs.Prelude.{◌≡◌, ℕ, ◌+◌, ◌<◌, ◌≤◌, ◌^◌, ◌==◌, Bool, true, if◌then◌else◌, List, [], ◌∷◌, ◌++◌, length}
use Rattle.std.specs.Prelude.{get_or, ⊤}
use Rattle.std.specs.Prelude.{Option, Some, None, ℤ, pos, ◌+ℤ◌, ◌*ℤ◌, ◌≤ℤ◌, ◌<ℤ◌, int_le}
use Rattle.std.specs.Int.{bit_at, int_rem_euclid, trailing_zeros, w32}
use Rattle.std.specs.List.{Contains, find, filter_map, flat_map, range_with_len, zip, AllByRecursion}
use Rattle.std.specs.Option.{option_map}
use Rattle.std.specs.Ordering.{int_eq}
use Rattle.ghcn_fields.specs.Meaning.Days.{is_day}
use Rattle.ghcn_fields.specs.Days.{block_of}
pub use Rattle.ghcn_files.specs.Rows.{if_so, value_at}
use Rattle.ghcn_series.specs.Meaning.Series.{DayValue, value_on}

-- a block: its number, its word and the values of its days
abbrev pub Block : Type 0
Block = ℤ × (ℕ × List ℤ)

-- the first day of a block
abbrev pub block_start : ℤ → ℤ
block_start b = b *ℤ pos 32

-- the day that many places after a first one with its value, if it is present
abbrev pub day_from : ℤ → ℕ → List ℤ → ℕ → Option DayValue
day_from first word values j = if_so (bit_at word j == 1) (first +ℤ pos j, get_or values j (pos 0))

-- of 32 days from a first one on, those that are present
unfoldable pub days_from : ℤ → ℕ → List ℤ → List DayValue
days_from first word values = filter_map (day_from first word values) (range_with_len 0 32)

-- the day at a place of a block with its value, if it is present
abbrev pub day_at : Block → ℕ → Option DayValue
day_at b j = day_from (block_start b.0) b.1.0 b.1.1 j

-- the days of a block that are present
abbrev pub block_days : Block → List DayValue
block_days b = days_from (block_start b.0) b.1.0 b.1.1

-- the days of some blocks that are present
abbrev pub days_of_blocks : List Block → List DayValue
days_of_blocks bs = flat_map block_days bs

-- the blocks of three columns
abbrev pub blocks_of : List ℤ → List ℕ → List (List ℤ) → List Block
blocks_of numbers words values = zip numbers (zip words values)

-- a block that columns may hold: it has a day, days that are absent have the value 0, and those present are days
pub record IsPacked (b : Block) : Type 0 where
  pub present : 0 < b.1.0
  pub fits : b.1.0 < 2 ^ 32
  pub zeros : (j : ℕ) → j < 32 → bit_at b.1.0 j ≡ 0 → get_or b.1.1 j (pos 0) ≡ pos 0
  pub days : (j : ℕ) → j < 32 → bit_at b.1.0 j ≡ 1 → is_day (block_start b.0 +ℤ pos j) ≡ true

-- the days of a word's bits are days of the calendar
pub record AreCalendarDays (number : ℤ) (word : ℕ) : Type 0 where
  pub days : (j : ℕ) → j < 32 → bit_at word j ≡ 1 → is_day (block_start number +ℤ pos j) ≡ true

-- three columns of one length whose blocks are as they may be
pub record AreBlocks (numbers : List ℤ) (words : List ℕ) (values : List (List ℤ)) : Type 0 where
  pub enough_words : length words ≡ length numbers
  pub enough_values : length values ≡ length numbers
  pub packed : AllByRecursion IsPacked (blocks_of numbers words values)

-- each number is less than those after it
pub record Rise (numbers : List ℤ) : Type 0 where
  pub less : (i j : ℕ) → i < j → j < length numbers → get_or numbers i (pos 0) <ℤ get_or numbers j (pos 0)

-- such columns whose numbers rise
pub record AreColumns (numbers : List ℤ) (words : List ℕ) (values : List (List ℤ)) : Type 0 where
  pub blocks : AreBlocks numbers words values
  pub rise : Rise numbers

-- the place of a day in its block
abbrev pub place_in_block : ℤ → ℤ
place_in_block day = int_rem_euclid day (pos 32)

-- this block of some days: its word isn't 0, and each place has its day's value, and 0 if that is absent
pub record IsBlockOf (days : List DayValue) (number : ℤ) (word : ℕ) (values : List ℤ) : Type 0 where
  pub present : 0 < word
  pub fits : word < 2 ^ 32
  pub holds : (j : ℕ) → j < 32 → value_at word values j ≡ value_on days (block_start number +ℤ pos j)
  pub zeros : (j : ℕ) → j < 32 → bit_at word j ≡ 0 → get_or values j (pos 0) ≡ pos 0

-- no day of this block is among some days
abbrev pub HasNone : List DayValue → ℤ → Type 0
HasNone days number = (j : ℕ) → j < 32 → value_on days (block_start number +ℤ pos j) ≡ None

-- the least block from a number on that has one of some days, which rise
abbrev pub next_block : List DayValue → ℤ → Option ℤ
next_block days b = option_map (λ x. block_of x.0) (find (λ x. int_le b (block_of x.0)) days)

-- a block is the least from a number on that has one of some days
pub record IsLeastBlock (days : List DayValue) (from number : ℤ) : Type 0 where
  pub from_there : from ≤ℤ number
  pub has : (x : DayValue) × Contains days x × (block_of x.0 ≡ number)
  pub least : AllByRecursion (λ x. from ≤ℤ block_of x.0 → number ≤ℤ block_of x.0) days

-- the next block from a number on is the least, and there is none if and only if all days are in blocks before
abbrev pub IsNextBlock : List DayValue → ℤ → Option ℤ → Type 0
IsNextBlock days from None = AllByRecursion (λ x. block_of x.0 <ℤ from) days
IsNextBlock days from (Some number) = IsLeastBlock days from number

-- number is at a place
pub record IsAt (numbers : List ℤ) (number : ℤ) (i : ℕ) : Type 0 where
  pub in_range : i < length numbers
  pub is : get_or numbers i (pos 0) ≡ number

-- number is at no place
abbrev pub IsNowhere : List ℤ → ℤ → Type 0
IsNowhere numbers number = (k : ℕ) → IsAt numbers number k → ⊥

-- each day is earlier than those after it
abbrev pub AreRising : List DayValue → Type 0
AreRising [] = ⊤
AreRising (x ∷ xs) = AllByRecursion (λ y. x.0 <ℤ y.0) xs × AreRising xs

-- the first of some days comes no later than a last one
abbrev pub BeginsBy : ℤ → List DayValue → Type 0
BeginsBy last [] = ⊥
BeginsBy last (x ∷ xs) = x.0 ≤ℤ last

-- the day of the highest bit of a word
pub record IsLastOf (number : ℤ) (word : ℕ) (day : Option ℤ) : Type 0 where
  pub place : ℕ
  pub below : place < 32
  pub set : bit_at word place ≡ 1
  pub highest : (i : ℕ) → place < i → bit_at word i ≡ 0
  pub is : day ≡ Some (block_start number +ℤ pos place)

-- a word has a bit for each of 32 places, set if the value there passes a test
abbrev pub ArePlacesOf : (ℤ → Bool) → List ℤ → ℕ → Type 0
ArePlacesOf test values word = (j : ℕ) → j < 32 → (bit_at word j == 1) ≡ test (get_or values j (pos 0))

-- the lowest bits of a word that follow one another end before a place
pub record EndsRun (word behind : ℕ) : Type 0 where
  pub some : trailing_zeros w32 word < behind
  pub few : behind ≤ 32
  pub row : (j : ℕ) → trailing_zeros w32 word ≤ j → j < behind → bit_at word j ≡ 1
  pub ends : bit_at word behind ≡ 0

-- the days from a first to a last one, each the day after the one before it; of no days the last one is the day before
-- the first
abbrev pub AreInARow : ℤ → ℤ → List DayValue → Type 0
AreInARow first last [] = first ≡ last +ℤ pos 1
AreInARow first last (x ∷ xs) = (x.0 ≡ first) × AreInARow (first +ℤ pos 1) last xs

-- the days from a first one on, one after another, that have these values
abbrev pub days_in_a_row : ℤ → List ℤ → List DayValue
days_in_a_row first [] = []
days_in_a_row first (v ∷ vs) = (first, v) ∷ days_in_a_row (first +ℤ pos 1) vs

-- the first of some days are taken, from a first one on in a row, with their values, and those that are left all lie
-- past the day after these
pub record TakesRow (days : List DayValue) (first : ℤ) (values : List ℤ) (left : List DayValue) : Type 0 where
  pub some : 0 < length values
  pub few : length values ≤ 32
  pub parts : days ≡ days_in_a_row first values ++ left
  pub apart : AllByRecursion (λ x. (first +ℤ pos (length values)) <ℤ x.0) left

-- the first of some days are taken, from a first to a last one in a row, and those that are left all lie past the day
-- after these
pub record TakesRun (days : List DayValue) (ends : ℤ × ℤ) (left : List DayValue) : Type 0 where
  pub run : List DayValue
  pub some : 0 < length run
  pub row : AreInARow ends.0 ends.1 run
  pub parts : days ≡ run ++ left
  pub apart : AllByRecursion (λ x. (ends.1 +ℤ pos 1) <ℤ x.0) left

-- of some days after another one, how many don't come right after the day before them
abbrev pub runs_after : ℤ → List DayValue → ℕ
runs_after day [] = 0
runs_after day (x ∷ xs) = (if int_eq x.0 (day +ℤ pos 1) then 0 else 1) + runs_after x.0 xs

-- how many runs some days have: the first day begins one, and so does each day that doesn't come right after the day
-- before it
abbrev pub run_count : List DayValue → ℕ
run_count [] = 0
run_count (x ∷ xs) = 1 + runs_after x.0 xs

-- the days of a word's bits have that many runs, in whatever block and with whatever values
abbrev pub HasRuns : ℕ → ℕ → Type 0
HasRuns word count = (number : ℤ) (values : List ℤ) → run_count (block_days (number, (word, values))) ≡ count

-- the highest bits of a word that follow one another begin at a place
pub record BeginsLastRun (word start : ℕ) : Type 0 where
  pub top : ℕ
  pub some : start ≤ top
  pub few : top < 32
  pub row : (j : ℕ) → start ≤ j → j ≤ top → bit_at word j ≡ 1
  pub ends : (j : ℕ) → top < j → bit_at word j ≡ 0
  pub begins : (j : ℕ) → j + 1 ≡ start → bit_at word j ≡ 0

-- the first of some days are taken, as that many runs of days of one block, and those that are left are the last run,
-- if there is a day at all, and all lie past the day after each of these
pub record TakesToLastRun (days : List DayValue) (count : ℕ) (left : List DayValue) : Type 0 where
  pub runs : List DayValue
  pub parts : days ≡ runs ++ left
  pub number : run_count runs ≡ count
  pub apart : AllByRecursion (λ x. AllByRecursion (λ y. (x.0 +ℤ pos 1) <ℤ y.0) left) runs
  pub last : 0 < length days → run_count left ≡ 1
  pub block : ℤ
  pub within : AllByRecursion (λ x. block_of x.0 ≡ block) runs

-- Parts of blocks as they were added: a block may be in several parts, and the numbers needn't rise.
use Rattle.std.specs.Prelude.{◌≡◌, ℕ, ◌<◌, ◌≤◌, ◌+◌, ◌-◌, ◌^◌, ◌+ℤ◌, ◌≤ℤ◌, length, true, ⊤}
use Rattle.std.specs.Prelude.{List, [], ◌∷◌, get_or, map, IsSome, None, ℤ, pos}
use Rattle.std.specs.Int.{bit_at}
use Rattle.std.specs.List.{range_with_len}
use Rattle.std.specs.List.Sorted.{IsPermutation}
use Rattle.std.specs.Option.{option_or}
use Rattle.ghcn_series.specs.Meaning.Series.{DayValue, value_on}
use Rattle.ghcn_fields.specs.Meaning.Days.{is_day}
use Rattle.ghcn_series.specs.Packed.{Block, block_start, days_from, block_days, days_of_blocks, blocks_of, Rise, AreBlocks}
use Rattle.ghcn_series.specs.declared.parts.Parts.{Parts}

-- the days of some parts
abbrev pub days_held : Parts → List DayValue
days_held p = days_of_blocks (blocks_of p.numbers.items p.words.items p.values.items)

-- the number of the last part
abbrev pub last_number : Parts → ℤ
last_number p = get_or p.numbers.items (length p.numbers.items - 1) (pos 0)

-- no day of some is among others
abbrev pub AreNew : List DayValue → List DayValue → Type 0
AreNew old more = (d : ℤ) → IsSome (value_on more d) → value_on old d ≡ None

-- no two of some parts have a day in common
abbrev pub AreDisjoint : List Block → Type 0
AreDisjoint [] = ⊤
AreDisjoint (b ∷ bs) = AreNew (block_days b) (days_of_blocks bs) × AreDisjoint bs

-- the parts are as they may be and have no day twice, and if they are said to be in order, their numbers rise
pub record AreParts (p : Parts) : Type 0 where
  pub blocks : AreBlocks p.numbers.items p.words.items p.values.items
  pub apart : AreDisjoint (blocks_of p.numbers.items p.words.items p.values.items)
  pub rise : p.in_order ≡ true → Rise p.numbers.items

-- some days and others together: each has the value that it has there
abbrev pub AreJoined : List DayValue → List DayValue → List DayValue → Type 0
AreJoined old more new = (d : ℤ) → value_on new d ≡ option_or (value_on old d) (value_on more d)

-- if one of two rows is 0 at a place, the third has the other's value there
pub record JoinsAt (a b new : List ℤ) (j : ℕ) : Type 0 where
  pub second : get_or a j (pos 0) ≡ pos 0 → get_or new j (pos 0) ≡ get_or b j (pos 0)
  pub first : get_or b j (pos 0) ≡ pos 0 → get_or new j (pos 0) ≡ get_or a j (pos 0)

-- two rows of values of which at each place one is 0 are joined
abbrev pub JoinsValues : List ℤ → List ℤ → List ℤ → Type 0
JoinsValues a b new = (j : ℕ) → j < 32 → JoinsAt a b new j

-- the parts have none of these days
abbrev pub HaveNone : Parts → List DayValue → Type 0
HaveNone p days = AreNew (days_held p) days

-- days are joined to those of the parts
abbrev pub JoinDays : Parts → List DayValue → Parts → Type 0
JoinDays old days new = AreJoined (days_held old) days (days_held new)

-- a part has only days that the parts don't have
abbrev pub IsNewPart : Parts → Block → Type 0
IsNewPart p b = AreNew (days_held p) (block_days b)

-- the days of a part are joined to those of the parts
abbrev pub JoinsPart : Parts → Block → Parts → Type 0
JoinsPart old b new = AreJoined (days_held old) (block_days b) (days_held new)

-- parts in order stay in order, if the number isn't below the last
abbrev pub KeepsOrder : Parts → ℤ → Parts → Type 0
KeepsOrder old n new = old.in_order ≡ true → (0 < length old.numbers.items → last_number old ≤ℤ n) → new.in_order ≡ true

-- parts in order
pub record AreOrdered (p : Parts) : Type 0 where
  pub parts : AreParts p
  pub in_order : p.in_order ≡ true

-- parts without a day
pub record AreEmpty (p : Parts) : Type 0 where
  pub order : AreOrdered p
  pub none : days_held p ≡ []

-- the same parts, in whichever memory
pub record AreSame (a b : Parts) : Type 0 where
  pub numbers : b.numbers.items ≡ a.numbers.items
  pub words : b.words.items ≡ a.words.items
  pub values : b.values.items ≡ a.values.items
  pub in_order : b.in_order ≡ a.in_order

-- the same days, in whichever parts
abbrev pub HaveSameDays : Parts → Parts → Type 0
HaveSameDays a b = (d : ℤ) → value_on (days_held b) d ≡ value_on (days_held a) d

-- numbers with their places
abbrev pub with_places : List ℤ → List (ℤ × ℕ)
with_places numbers = map (λ k. (get_or numbers k (pos 0), k)) (range_with_len 0 (length numbers))

-- all numbers with their places, in an order in which none is less than the one before it
pub record AreByNumber (numbers : List ℤ) (order : List (ℤ × ℕ)) : Type 0 where
  pub all : IsPermutation (with_places numbers) order
  pub rise : (k : ℕ) → k + 1 < length order → (get_or order k (pos 0, 0)).0 ≤ℤ (get_or order (k + 1) (pos 0, 0)).0

-- the day at a place of a block
abbrev pub day_of : ℤ → ℕ → ℤ
day_of number place = block_start number +ℤ pos place

-- the days of a row that begins at a place of a block
abbrev pub row_days : ℤ → ℕ → ℕ → List ℤ → List DayValue
row_days number place word values = days_from (day_of number place) word values

-- a row of 32 days from a first one on: those that are present are in the calendar, and the values of all others are 0
pub record IsRow (first : ℤ) (word : ℕ) (values : List ℤ) : Type 0 where
  pub fits : word < 2 ^ 32
  pub zeros : (j : ℕ) → j < 32 → bit_at word j ≡ 0 → get_or values j (pos 0) ≡ pos 0
  pub days : (j : ℕ) → j < 32 → bit_at word j ≡ 1 → is_day (first +ℤ pos j) ≡ true

-- the value that many places after the beginning of the block in which a row begins: 0 before the row and after it
pub record IsValueFrom (values : List ℤ) (place at : ℕ) (v : ℤ) : Type 0 where
  pub before : at < place → v ≡ pos 0
  pub behind : place + 32 ≤ at → v ≡ pos 0
  pub within : (k : ℕ) → k < 32 → k + place ≡ at → v ≡ get_or values k (pos 0)

-- the same of a bit of its word
pub record HasBitFrom (word place at bit : ℕ) : Type 0 where
  pub before : at < place → bit ≡ 0
  pub behind : place + 32 ≤ at → bit ≡ 0
  pub within : (k : ℕ) → k < 32 → k + place ≡ at → bit ≡ bit_at word k

-- and of all bits of the block
abbrev pub HasBitsOf : ℕ → ℕ → ℕ → ℕ → Type 0
HasBitsOf word place offset part = (j : ℕ) → j < 32 → HasBitFrom word place (j + offset) (bit_at part j)

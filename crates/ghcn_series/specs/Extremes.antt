-- The least and the greatest value of a block. A word has a bit for each day that is present; another day has the value 0.
use Rattle.std.specs.Prelude.{◌≡◌, ℕ, ◌<◌, List, [], get_or, length, Option, IfSome, ℤ, pos, neg_ℤ, ◌≤ℤ◌}
use Rattle.std.specs.Int.{bit_at}
use Rattle.std.specs.Global.{Vec}
use Rattle.ghcn_series.specs.Packed.{AreColumns}
use Rattle.ghcn_series.specs.declared.extremes.Extremes.{Extremes}

-- z is the greatest of the numbers that have a property
pub record IsGreatest (P : ℤ → Type 0) (z : ℤ) : Type 0 where
  pub is_one : P z
  pub is_most : (y : ℤ) → P y → y ≤ℤ z

-- a day that is absent has the value 0
abbrev pub HasZeros : ℕ → List ℤ → Type 0
HasZeros word values = (j : ℕ) → j < 32 → bit_at word j ≡ 0 → get_or values j (pos 0) ≡ pos 0

-- a measure makes this number of one of 32 numbers
abbrev pub IsScoreAmong : (ℤ → ℤ) → List ℤ → ℤ → Type 0
IsScoreAmong f values z = (j : ℕ) × (j < 32) × (f (get_or values j (pos 0)) ≡ z)

-- a measure makes this number of the value of a day that is present
abbrev pub IsUsableScore : (ℤ → ℤ) → ℕ → List ℤ → ℤ → Type 0
IsUsableScore f word values z = (j : ℕ) × (j < 32) × (bit_at word j ≡ 1) × (f (get_or values j (pos 0)) ≡ z)

-- z stands for the value at a place: it is the value of a day that is present, and of the day at the place if that is
-- present
pub record StandsFor (word : ℕ) (values : List ℤ) (j : ℕ) (z : ℤ) : Type 0 where
  pub usable : IsUsableScore (λ v. v) word values z
  pub kept : bit_at word j ≡ 1 → z ≡ get_or values j (pos 0)

-- a row has the values of the days that are present, and at each other place one of these values
abbrev pub HasUsableAlone : ℕ → List ℤ → List ℤ → Type 0
HasUsableAlone word values row = (j : ℕ) → j < 32 → StandsFor word values j (get_or row j (pos 0))

-- these are the least and the greatest value of a block
pub record AreExtremes (word : ℕ) (values : List ℤ) (e : Extremes) : Type 0 where
  pub least : IsGreatest (IsUsableScore neg_ℤ word values) (neg_ℤ e.least)
  pub greatest : IsGreatest (IsUsableScore (λ v. v) word values) e.greatest

-- these are the extremes of the first of some blocks, in order
pub record AreExtremesOf (words : List ℕ) (values : List (List ℤ)) (es : List Extremes) : Type 0 where
  pub each : (i : ℕ) (d : Extremes) → i < length es
      → AreExtremes (get_or words i 0) (get_or values i []) (get_or es i d)

-- each block has a day, and its absent days have the value 0
pub record HaveDays (words : List ℕ) (values : List (List ℤ)) : Type 0 where
  pub enough_values : length values ≡ length words
  pub present : (i : ℕ) → i < length words → 0 < get_or words i 0
  pub zeros : (i : ℕ) → i < length words → HasZeros (get_or words i 0) (get_or values i [])

-- a block that has a day, with its extremes if they are held
pub record IsHeldBlock (word : ℕ) (values : List ℤ) (held : Option Extremes) : Type 0 where
  pub present : 0 < word
  pub zeros : HasZeros word values
  pub extremes : IfSome held (AreExtremes word values)

-- columns as they may be, with the extremes of their blocks if these are held
pub record AreHeldColumns (numbers : List ℤ) (words : List ℕ) (values : List (List ℤ)) (held : Option (Vec Extremes))
    : Type 0 where
  pub columns : AreColumns numbers words values
  pub extremes : IfSome held (λ es. AreExtremesOf words values es.items)

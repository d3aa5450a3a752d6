-- A part of a list of places.
use Rattle.std.specs.Prelude.{ℕ, ◌-◌, ◌≤◌, List, length, take, drop}

-- the elements of a list from one place up to another
abbrev pub elements_between : {A : Type 0} → ℕ → ℕ → List A → List A
elements_between from to xs = take (to - from) (drop from xs)

-- the list has these places
pub record IsPart {A : Type 0} (from to : ℕ) (xs : List A) : Type 0 where
  pub order : from ≤ to
  pub within : to ≤ length xs

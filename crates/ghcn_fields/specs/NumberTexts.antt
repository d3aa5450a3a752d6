-- Whole numbers as they are printed.
use Rattle.std.specs.Prelude.{ℕ, suc, List, ◌∷◌, ℤ, pos, negsuc}
use Rattle.std.specs.Fmt.{decimal}

-- a whole number, with a minus only below zero
abbrev pub whole : ℤ → List ℕ
whole (pos n) = decimal n
whole (negsuc n) = 45 ∷ decimal (suc n)

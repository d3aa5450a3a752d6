-- Numbers as reports and certificates print them.
use Rattle.std.specs.Prelude.{ℕ, zero, suc, ◌+◌, ◌/◌, ◌%◌, List, [], ◌∷◌, ◌++◌, ℤ, pos, negsuc}
use Rattle.std.specs.Fmt.{decimal}

-- n tenths as a text with one decimal: 311 is `31.1`
abbrev pub tenths_of : ℕ → List ℕ
tenths_of n = decimal (n / 10) ++ 46 ∷ decimal (n % 10)

-- the same of any whole number of tenths, with a minus below zero
abbrev pub tenths : ℤ → List ℕ
tenths (pos n) = tenths_of n
tenths (negsuc n) = 45 ∷ tenths_of (suc n)

-- the last k digits of n, with zeros in front if it has fewer
abbrev pub last_digits : ℕ → ℕ → List ℕ
last_digits zero n = []
last_digits (suc k) n = last_digits k (n / 10) ++ (48 + n % 10) ∷ []

-- n ten-thousandths as a text with four decimals
abbrev pub four_places_of : ℕ → List ℕ
four_places_of n = decimal (n / 10000) ++ 46 ∷ last_digits 4 n

-- the same of any whole number of ten-thousandths, with a minus below zero
abbrev pub four_places : ℤ → List ℕ
four_places (pos n) = four_places_of n
four_places (negsuc n) = 45 ∷ four_places_of (suc n)

-- Line feeds in a text, and its lines with their numbers.
use Rattle.std.specs.Prelude.{◌≡◌, ℕ, ◌==◌, Bool, false, ◌⊎◌, nat_lt, List, [], ◌∷◌, ◌++◌}
use Rattle.std.specs.List.{enumerate_from, list_all, AllByRecursion}
use Rattle.ghcn_fields.specs.Meaning.Lines.{lines}

-- no byte of a text is a line feed
abbrev pub HasNoLineFeed : List ℕ → Type 0
HasNoLineFeed text = AllByRecursion (λ b. (b == 10) ≡ false) text

-- each byte is above a line feed
abbrev pub are_above : List ℕ → Bool
are_above bytes = list_all (λ b. nat_lt 10 b) bytes

-- the last byte of a text, if it has one, is a line feed
abbrev pub EndsLine : List ℕ → Type 0
EndsLine text = (text ≡ []) ⊎ ((front : List ℕ) × (text ≡ front ++ 10 ∷ []))

-- each line with its number, from 1
abbrev pub numbered_lines : List ℕ → List (ℕ × List ℕ)
numbered_lines text = enumerate_from 1 (lines text)

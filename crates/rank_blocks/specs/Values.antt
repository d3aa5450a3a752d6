-- What is made of the values of one block. A word has a bit for each usable day; another day has the value 0.
use Rattle.std.specs.Prelude.{◌≡◌, ℕ, ◌<◌, Bool, false, List, get_or, ℤ, pos}
use Rattle.std.specs.Option.{option_map_or}
use Rattle.ghcn_series.specs.Packed.{value_at}
use Rattle.rank_blocks.specs.DayRuns.{has_bit}

-- a word has a bit for each place, set if the number there passes a test
abbrev pub IsPlacesOf : (ℤ → Bool) → List ℤ → ℕ → Type 0
IsPlacesOf test values passing = (j : ℕ) → j < 32 → has_bit passing j ≡ test (get_or values j (pos 0))

-- a word has a bit for each place, set if the day is usable and its value passes a test
abbrev pub IsWordOf : (ℤ → Bool) → ℕ → List ℤ → ℕ → Type 0
IsWordOf test word values passing = (j : ℕ) → j < 32
    → has_bit passing j ≡ option_map_or test (value_at word values j) false

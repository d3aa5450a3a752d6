-- The word of a floor: 0 if there is none, and otherwise the score plus 2^32.
use Rattle.std.specs.Prelude.{ℕ, ◌+◌, ◌-◌, ◌^◌, ◌==◌, if◌then◌else◌, suc, ℤ, pos, negsuc, ◌-ℤ◌, Option, None, Some}

-- the word of a score: the score plus 2^32
abbrev pub score_word : ℤ → ℕ
score_word (pos n) = n + 2 ^ 32
score_word (negsuc n) = 2 ^ 32 - suc n

-- the word of a floor
abbrev pub floor_word : Option ℤ → ℕ
floor_word None = 0
floor_word (Some s) = score_word s

-- the score that this is the word of
abbrev pub score_of_word : ℕ → ℤ
score_of_word n = pos n -ℤ pos (2 ^ 32)

-- the floor that this is the word of
abbrev pub floor_of : ℕ → Option ℤ
floor_of n = if n == 0 then None else Some (score_of_word n)

-- The lines of a text and the columns of a line.
use Rattle.std.specs.Prelude.{ℕ, suc, ◌-◌, ◌==◌, if◌then◌else◌, List, [], ◌∷◌, ◌++◌, length, take, drop, map, replicate}
use Rattle.std.specs.List.{slice_split}
use Rattle.std.specs.Str.Lines.{strip_carriage_return}
use Rattle.ghcn_fields.specs.Meaning.Bytes.{blank_byte}

-- some parts of a text, without the last one if that is empty
abbrev pub without_empty_last : List (List ℕ) → List (List ℕ)
without_empty_last [] = []
without_empty_last (x ∷ []) = if length x == 0 then [] else x ∷ []
without_empty_last (x ∷ y ∷ more) = x ∷ without_empty_last (y ∷ more)

-- the lines of a text: each line feed ends one, and what follows the last line feed is one too, unless it is empty. One
-- carriage return at the end of a line is taken off.
abbrev pub lines : List ℕ → List (List ℕ)
lines text = map strip_carriage_return (without_empty_last (slice_split (λ b. b == 10) text))

-- the columns of a line from one to another, counted from 1; columns that the line lacks are blanks
abbrev pub columns : ℕ → ℕ → List ℕ → List ℕ
columns from to line = take (suc to - from) (drop (from - 1) (line ++ replicate to blank_byte))

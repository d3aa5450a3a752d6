-- Columns of a line, as they are shown.
use Rattle.std.specs.Prelude.{ℕ, ◌+◌, ◌-◌, ◌==◌, if◌then◌else◌, List, ◌++◌, codes, take, drop}
use Rattle.std.specs.Fmt.{decimal}
use Rattle.explanations.specs.Shown.{shown}

-- the columns of a line from the first to the last, counted from 1, as far as the line has them
abbrev pub columns_of : List ℕ → ℕ → ℕ → List ℕ
columns_of line first last = take (last - first + 1) (drop (first - 1) line)

-- which columns these are, and the bytes in them
abbrev pub columns_text : ℕ → ℕ → List ℕ → List ℕ
columns_text first last bytes =
    codes "columns " ++ decimal first ++ codes " to " ++ decimal last ++ codes ": '" ++ shown bytes ++ codes "'"

-- the same for these columns of a line
abbrev pub columns_in : List ℕ → ℕ → ℕ → List ℕ
columns_in line first last = columns_text first last (columns_of line first last)

-- the word for this many columns
abbrev pub column_word : ℕ → List ℕ
column_word count = if count == 1 then codes "column" else codes "columns"

-- how many columns there are
abbrev pub count_text : ℕ → List ℕ
count_text count = decimal count ++ codes " " ++ column_word count

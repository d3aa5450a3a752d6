-- The text of an error.
use Rattle.std.specs.Prelude.{ℕ, List, codes}

-- the line of an error: out of memory
abbrev pub memory_text : List ℕ
memory_text = codes "refused 3 Memory"

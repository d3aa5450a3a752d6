-- Bytes of a text: blanks, and lists of bytes that are compared.
use Rattle.std.specs.Prelude.{ℕ, Bool, ◌==◌, List, nat_eq}
use Rattle.std.specs.List.{list_all}
use Rattle.std.specs.Cmp.Lexicographic.{pointwise}

-- the byte that pads a field
abbrev pub blank_byte : ℕ
blank_byte = 32

-- a text has blanks alone, or no byte at all
abbrev pub is_blank : List ℕ → Bool
is_blank bytes = list_all (λ b. b == blank_byte) bytes

-- two lists of bytes are the same
abbrev pub same_bytes : List ℕ → List ℕ → Bool
same_bytes xs ys = pointwise nat_eq xs ys

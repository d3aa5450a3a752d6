-- What is printed for a byte.
use Rattle.std.specs.Prelude.{ℕ, Bool, ◌&&◌, nat_le, if◌then◌else◌}

-- a byte that can be printed: a blank, or one that shows in print
abbrev pub is_printable : ℕ → Bool
is_printable b = nat_le 32 b && nat_le b 126

-- the byte, or a question mark if it can't be printed
abbrev pub printable : ℕ → ℕ
printable b = if is_printable b then b else 63

-- Bytes and texts as a terminal can show them.
use Rattle.std.specs.Prelude.{ℕ, ◌&&◌, if◌then◌else◌, List, map, nat_le}
use Rattle.std.specs.List.{list_any}
use Rattle.std.specs.Char.{is_control}
use Rattle.std.specs.Str.{chars}

-- a byte that shows in print stays as it is, and any other is a question mark
abbrev pub shown_byte : ℕ → ℕ
shown_byte b = if nat_le 32 b && nat_le b 126 then b else 63

-- the bytes of a text as they are shown
abbrev pub shown : List ℕ → List ℕ
shown bytes = map shown_byte bytes

-- a text without a control character stays as it is, and of any other the bytes are shown
abbrev pub shown_text : List ℕ → List ℕ
shown_text text = if list_any is_control (chars text) then shown text else text

-- Whether a line is spelled as the row that was cut out of it.
use Rattle.std.specs.Prelude.{ℕ, ◌+◌, Bool, false, ◌&&◌, ◌==◌, List, [], ◌∷◌, length, drop, slice_get, slice_range}
use Rattle.std.specs.Option.{option_map_or}
use Rattle.ghcn_fields.specs.Meaning.Bytes.{same_bytes}

-- a blank is at a place of a line
abbrev pub has_blank : List ℕ → ℕ → Bool
has_blank line at = option_map_or (λ b. b == 32) (slice_get line at) false

-- a line has a text from a place on
abbrev pub has_text : List ℕ → List ℕ → ℕ → Bool
has_text text line from = same_bytes text (slice_range line from (from + length text))

-- a line begins with a rank, and has a blank after it, before both days and after the last
abbrev pub has_front : List ℕ → List ℕ → Bool
has_front rank line =
    has_text rank line 0
    && (has_blank line (length rank)
    && (has_blank line (length rank + 12)
    && (has_blank line (length rank + 23)
    && has_blank line (length rank + 34))))

-- a line feed is what a line has from a place on
abbrev pub ends_at : List ℕ → ℕ → Bool
ends_at line from = same_bytes (10 ∷ []) (drop from line)

-- a line has a blank and a name, if it isn't empty, from a place on, and then ends
abbrev pub ends_by_name : List ℕ → List ℕ → ℕ → Bool
ends_by_name [] line from = ends_at line from
ends_by_name (b ∷ name) line from =
    has_blank line from
    && (has_text (b ∷ name) line (from + 1) && ends_at line (from + 1 + length (b ∷ name)))

-- a line has a value, a blank, a unit, and a name from a place on, and then ends
abbrev pub has_back : List ℕ → List ℕ → List ℕ → List ℕ → ℕ → Bool
has_back value unit name line from =
    has_text value line from
    && (has_blank line (from + length value)
    && (has_text unit line (from + length value + 1)
    && ends_by_name name line (from + length value + 1 + length unit)))

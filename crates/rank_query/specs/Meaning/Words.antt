-- The words of a text: the parts between its blanks.
use Rattle.std.specs.Prelude.{ℕ, ◌==◌, not, List, length, filter}
use Rattle.std.specs.List.{slice_split}
use Rattle.ghcn_fields.specs.Meaning.Bytes.{blank_byte}

-- the words of a text: its longest runs of bytes other than blanks, which are the parts between blanks that aren't
-- empty
abbrev pub words_of : List ℕ → List (List ℕ)
words_of text = filter (λ part. not (length part == 0)) (slice_split (λ b. b == blank_byte) text)

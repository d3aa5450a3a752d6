-- The words of a query text with their numbers, and the bytes between them.
use Rattle.std.specs.Prelude.{ℕ, Bool, ◌==◌, if◌then◌else◌, List, [], ◌∷◌, Option, None, Some}
use Rattle.std.specs.List.{enumerate_from}
use Rattle.ghcn_fields.specs.Meaning.Bytes.{blank_byte, same_bytes}
use Rattle.rank_query.specs.Meaning.Words.{words_of}

-- a byte that separates words
abbrev pub is_separator : ℕ → Bool
is_separator b = b == blank_byte

-- a word with its number
abbrev pub Word : Type 0
Word = ℕ × List ℕ

-- each word of a text with its number, from 1
abbrev pub numbered_words : List ℕ → List Word
numbered_words text = enumerate_from 1 (words_of text)

-- the word is this one, byte for byte
unfoldable pub says : List ℕ → List ℕ → Bool
says text word = same_bytes word text

-- the words after this one, if it comes next
abbrev pub after : List ℕ → List Word → Option (List Word)
after text [] = None
after text (w ∷ ws) = if says text w.1 then Some ws else None

-- Which query a text spells, whatever the blanks between its words, leading zeros and decimals.
use Rattle.std.specs.Prelude.{ℕ, List}
use Rattle.std.specs.List.{AllZip}
use Rattle.rank_query.specs.Meaning.Asked.{Query}
use Rattle.rank_query.specs.Meaning.QueryTexts.{query_words}
use Rattle.rank_query.specs.Meaning.Words.{words_of}
use Rattle.rank_query.specs.Meaning.Spelling.{SpellsWord}

-- words spell a query if they spell those of the query, one by one
abbrev pub SpellsQuery : List (List ℕ) → Query → Type 0
SpellsQuery words q = AllZip SpellsWord words (query_words q)

-- a text spells a query if its words do
abbrev pub IsSpelling : List ℕ → Query → Type 0
IsSpelling text q = SpellsQuery (words_of text) q

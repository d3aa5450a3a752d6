-- Which query a text denotes, and not how it is read.
use Rattle.std.specs.Prelude.{ℕ, ◌≤◌, List, length}
use Rattle.std.specs.List.{AllZip}
use Rattle.rank_query.specs.Meaning.Asked.{Query, IsAsked}
use Rattle.rank_query.specs.Meaning.QueryTexts.{query_words}
use Rattle.rank_query.specs.Meaning.Spelling.{SpellsWord}
use Rattle.rank_query.specs.Meaning.Words.{words_of}

-- a text denotes a query: the query can be asked, the words of the text spell those of the query, one by one, and the text
-- has at most 256 bytes
pub record Asks (text : List ℕ) (q : Query) : Type 0 where
  pub can : IsAsked q
  pub spells : AllZip SpellsWord (words_of text) (query_words q)
  pub short : length text ≤ 256

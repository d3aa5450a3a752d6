-- Laws of queries and their texts: what the definitions of this crate mean together.
use Rattle.std.specs.Prelude.{◌≡◌, ◌↔◌, ℕ, ◌≤◌, true, List, length, Ok}
use Rattle.std.specs.List.{list_all}
use Rattle.ghcn_files.specs.Meaning.StationLines.{is_printable}
use Rattle.rank_query.specs.Meaning.Asked.{Query, IsAsked}
use Rattle.rank_query.specs.Meaning.QueryTexts.{query_text}
use Rattle.rank_query.specs.Reading.{read_query}
use Rattle.rank_query.specs.Meaning.Asks.{Asks}

-- a text is read as a query if and only if it denotes it
abbrev pub ReadAsAsked : Type 0
ReadAsAsked = (text : List ℕ) (q : Query) → (read_query text ≡ Ok q) ↔ Asks text q

-- a text has 1 to 256 bytes, each of which is printable
pub record IsShortLine (text : List ℕ) : Type 0 where
  pub some : 1 ≤ length text
  pub short : length text ≤ 256
  pub printable : list_all is_printable text ≡ true

-- the canonical text of each query that can be asked is such a text
abbrev pub TextsArePrintable : Type 0
TextsArePrintable = (q : Query) → IsAsked q → IsShortLine (query_text q)

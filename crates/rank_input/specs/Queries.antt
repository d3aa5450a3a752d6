-- A list of queries, one a line, and why it is refused.
use Rattle.std.specs.Prelude.{◌≡◌, ℕ, ◌+◌, Bool, true, false, List, [], ◌∷◌, ◌++◌, length, Err, ⊤, IsUtf8}
use Rattle.std.specs.List.{All}
use Rattle.ghcn_fields.specs.Meaning.Lines.{lines}
use Rattle.rank_query.specs.Meaning.Asked.{Query}
use Rattle.rank_query.specs.Meaning.Asks.{Asks}
use Rattle.rank_query.specs.Reading.{read_query}
use Rattle.rank_input.specs.declared.queries.QueriesFault.{QueriesFault}
use Rattle.rank_input.specs.declared.queries.QueriesFault.TheVariants.{Line, NotText, Memory}
use Rattle.rank_input.specs.Named.{Text}

-- these lines, or one empty line if there is none
abbrev pub some_lines : List Text → List Text
some_lines [] = [] ∷ []
some_lines (l ∷ ls) = l ∷ ls

-- the lines of a list of queries, of which each is to be a query
abbrev pub query_lines : Text → List Text
query_lines text = some_lines (lines text)

-- memory ran out
abbrev pub is_memory : QueriesFault → Bool
is_memory (Memory m) = true
is_memory fault = false

-- a text asks something
abbrev pub IsQuery : Text → Type 0
IsQuery text = (q : Query) × Asks text q

-- why the line of this number isn't a query: it is UTF-8 and is read as this error; or it isn't UTF-8; or memory ran
-- out
abbrev pub IsBadLine : ℕ → Text → QueriesFault → Type 0
IsBadLine number text (Line line fault) = (line ≡ number) × (read_query text ≡ Err fault) × IsUtf8 text
IsBadLine number text (NotText line) = (line ≡ number) × ¬ (IsUtf8 text)
IsBadLine number text (Memory m) = ⊤

-- one of the lines isn't a query for this reason, and each line before it is one
pub record HasFirstBad (ls : List Text) (fault : QueriesFault) : Type 0 where
  pub before : List Text
  pub bad : Text
  pub after : List Text
  pub among : ls ≡ before ++ bad ∷ after
  pub asked : All IsQuery before
  pub here : IsBadLine (length before + 1) bad fault

-- out of memory, or the error of the first line of a list that isn't a query
abbrev pub IsFirstBadQuery : Text → QueriesFault → Type 0
IsFirstBadQuery text (Memory m) = ⊤
IsFirstBadQuery text fault = HasFirstBad (query_lines text) fault

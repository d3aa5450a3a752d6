-- Where the error of a text is: at the first word with which no query goes on.
use Rattle.std.specs.Prelude.{◌≡◌, ℕ, ◌+◌, ◌<◌, ◌≤◌, ◌⊎◌, List, [], ◌∷◌, ◌++◌, length, codes, ◌&&◌, ℤ, ◌<ℤ◌, IsTrue}
use Rattle.ghcn_fields.specs.Meaning.Days.{is_day}
use Rattle.ghcn_fields.specs.Meaning.Dates.{date_text}
use Rattle.rank_query.specs.declared.fault.QueryFault.{QueryFault}
use Rattle.rank_query.specs.declared.fault.QueryFault.TheVariants.{QueryTooLong, UnexpectedWord, QueryEnds}
use Rattle.rank_query.specs.declared.fault.QueryFault.TheVariants.{OutOfLimits, BadDate, BadBox, EmptyPeriod}
use Rattle.rank_query.specs.Meaning.Asked.{Query, IsAsked}
use Rattle.rank_query.specs.Meaning.Words.{words_of}
use Rattle.rank_query.specs.Spelling.{SpellsQuery}

-- words begin a query: with some words after them they spell one that can be asked
pub record BeginQuery (ws : List (List ℕ)) : Type 0 where
  pub query : Query
  pub can_be_asked : IsAsked query
  pub more : List (List ℕ)
  pub spelt : SpellsQuery (ws ++ more) query

-- a word is the first of these with which no query goes on: the words before it begin one, and with it they begin none
pub record IsFirstWrong (ws before : List (List ℕ)) (word : List ℕ) : Type 0 where
  pub behind : List (List ℕ)
  pub parts : ws ≡ before ++ word ∷ behind
  pub begun : BeginQuery before
  pub ended : BeginQuery (before ++ word ∷ []) → ⊥

-- the word of this number is the first of these with which no query goes on
abbrev pub IsFirstWrongAt : List (List ℕ) → ℕ → Type 0
IsFirstWrongAt ws n = (before : List (List ℕ)) × (word : List ℕ) × IsFirstWrong ws before word × (n ≡ length before + 1)

-- the word is the date of a day, and before it come the date of a later one and "to"
pub record EndsTooEarly (before : List (List ℕ)) (word : List ℕ) : Type 0 where
  pub earlier : List (List ℕ)
  pub first : ℤ
  pub last : ℤ
  pub are_days : IsTrue (is_day first && is_day last)
  pub period : before ≡ earlier ++ date_text first ∷ codes "to" ∷ []
  pub date : word ≡ date_text last
  pub order : last <ℤ first

-- words spell no query that can be asked
abbrev pub SpellNone : List (List ℕ) → Type 0
SpellNone ws = (q : Query) → IsAsked q → SpellsQuery ws q → ⊥

-- where an error is among the words of a text that isn't too long
abbrev pub StandsAmong : List (List ℕ) → QueryFault → Type 0
StandsAmong ws QueryTooLong = ⊥
StandsAmong ws (UnexpectedWord n) = IsFirstWrongAt ws n
StandsAmong ws QueryEnds = BeginQuery ws × SpellNone ws
StandsAmong ws (OutOfLimits n) = IsFirstWrongAt ws n
StandsAmong ws (BadDate n) = IsFirstWrongAt ws n
StandsAmong ws (BadBox n) = IsFirstWrongAt ws n
StandsAmong ws EmptyPeriod =
    (before : List (List ℕ)) × (word : List ℕ) × IsFirstWrong ws before word × EndsTooEarly before word

-- a text of more than 256 bytes is too long, and the error of any other is among its words
abbrev pub StandsIn : List ℕ → QueryFault → Type 0
StandsIn text fault =
    ((256 < length text) × (fault ≡ QueryTooLong)) ⊎ ((length text ≤ 256) × StandsAmong (words_of text) fault)

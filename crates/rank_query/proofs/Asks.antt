-- A text is read as the query that it denotes, and as no other.
use Rattle.rank_query.proofs.Cited.{cases_Bool, inl, inr, ◌≡◌, ℕ, ◌≤◌, List, length, Ok, arith, nat_lt, nat_tests}
use Rattle.rank_query.proofs.Cited.{Query, read_query}
use Rattle.rank_query.specs.Meaning.Asks.{Asks}
use Rattle.rank_query.proofs.Spellings.{read_spells, spelling_read}
use Rattle.rank_query.proofs.ReadAsked.{read_asked}

-- what is read as a query has at most 256 bytes
read_short : (text : List ℕ) (q : Query) → read_query text ≡ Ok q → length text ≤ 256
unfolding read_query
read_short text q e = elim (cases_Bool (nat_lt 256 (length text))) [
  | inl long ↦ let told = rw long at e in absurd cc
  | inr short ↦ grind (arith, nat_tests)
]

-- what is read as a query denotes it
pub read_asks : (text : List ℕ) (q : Query) → read_query text ≡ Ok q → Asks text q
read_asks text q e = record {
  can = read_asked text q e;
  spells = read_spells text q e;
  short = read_short text q e;
}

-- what denotes a query is read as it
pub asks_read : (text : List ℕ) (q : Query) → Asks text q → read_query text ≡ Ok q
asks_read text q asks = spelling_read text q asks.can asks.spells asks.short

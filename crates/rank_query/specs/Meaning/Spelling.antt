-- Words that spell a word of a query, whatever their leading zeros and decimals.
use Rattle.std.specs.Prelude.{◌≡◌, ℕ, ◌≤◌, true, List, ◌∷◌, ◌++◌, length}
use Rattle.std.specs.List.{list_all}
use Rattle.std.specs.Char.{is_ascii_digit}
use Rattle.std.specs.Str.Parse.{digits_value}
use Rattle.ghcn_fields.specs.Meaning.Fields.{Spells}
use Rattle.rank_query.specs.Meaning.QueryTexts.{QueryWord, Exactly, Count, Tenths, Edge, TwoMonths}

-- digits write n, with leading zeros or without
pub record IsNumeralOf (digits : List ℕ) (n : ℕ) : Type 0 where
  pub some_digit : 1 ≤ length digits
  pub digits_alone : list_all is_ascii_digit digits ≡ true
  pub value : n ≡ digits_value 10 digits

-- a word of a text spells a word of a query: it has the same bytes; or it writes the same number, with leading zeros or
-- without, tenths with at most one decimal and an edge with at most four; or it writes the numbers of the two months,
-- with two points between them
abbrev pub SpellsWord : List ℕ → QueryWord → Type 0
SpellsWord word (Exactly text) = word ≡ text
SpellsWord word (Count n) = IsNumeralOf word n
SpellsWord word (Tenths t) = Spells 1 word t
SpellsWord word (Edge z) = Spells 4 word z
SpellsWord word (TwoMonths a b) =
    (first : List ℕ) × (last : List ℕ) × (word ≡ first ++ 46 ∷ 46 ∷ last) × IsNumeralOf first a × IsNumeralOf last b

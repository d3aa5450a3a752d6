-- The words of a query in the order of the grammar, and its canonical text: these words, one blank between them.
use Rattle.std.specs.Prelude.{ℕ, List, [], ◌∷◌, ◌++◌, map, drop, codes, Option, None, Some, ℤ}
use Rattle.std.specs.List.{join_with_byte}
use Rattle.std.specs.Fmt.{decimal}
use Rattle.ghcn_fields.specs.Meaning.NumberTexts.{four_places, tenths}
use Rattle.ghcn_fields.specs.Meaning.Dates.{date_text}
use Rattle.ghcn_files.specs.Meaning.Elements.{code_of}
use Rattle.rank_query.specs.declared.score.Score.{Score}
use Rattle.rank_query.specs.declared.score.Score.TheVariants.{Highest, Lowest, Sum, Dry, Wet, Hot, Cold}
use Rattle.rank_query.specs.declared.region.Region.{Region}
use Rattle.rank_query.specs.declared.region.Region.TheVariants.{Everywhere, Inside, Country, State, Only}
use Rattle.rank_query.specs.declared.per.Per.{Per}
use Rattle.rank_query.specs.declared.per.Per.TheVariants.{Each, Station, Year}
use Rattle.rank_query.specs.declared.season.Season.{Season}
use Rattle.rank_query.specs.declared.season.Season.TheVariants.{AllYear, Months, Dates}
use Rattle.rank_query.specs.Meaning.Asked.{Query}

-- a word of a query: these very bytes; or a number, which has several spellings: a count of rows or days, tenths of a
-- degree, or ten-thousandths of a degree at an edge of a box; or the numbers of a first and a last month
pub data QueryWord : Type 0 where
  Exactly : List ℕ → QueryWord
  Count : ℕ → QueryWord
  Tenths : ℤ → QueryWord
  Edge : ℤ → QueryWord
  TwoMonths : ℕ → ℕ → QueryWord

-- the words of a score
abbrev pub score_words : Score → List QueryWord
score_words (Highest e) = Exactly (codes "highest") ∷ Exactly (code_of e) ∷ []
score_words (Lowest e) = Exactly (codes "lowest") ∷ Exactly (code_of e) ∷ []
score_words (Sum n e) = Exactly (codes "sum") ∷ Count n ∷ Exactly (code_of e) ∷ []
score_words Dry = Exactly (codes "dry") ∷ []
score_words Wet = Exactly (codes "wet") ∷ []
score_words (Hot t) = Exactly (codes "hot") ∷ Tenths t ∷ []
score_words (Cold t) = Exactly (codes "cold") ∷ Tenths t ∷ []

-- the words of a region; none for all stations
abbrev pub region_words : Region → List QueryWord
region_words Everywhere = []
region_words (Inside south west north east) =
    Exactly (codes "box") ∷ Edge south ∷ Edge west ∷ Edge north ∷ Edge east ∷ []
region_words (Country code) = Exactly (codes "country") ∷ Exactly code ∷ []
region_words (State code) = Exactly (codes "state") ∷ Exactly code ∷ []
region_words (Only id) = Exactly (codes "station") ∷ Exactly id.0 ∷ []

-- MM-DD..MM-DD, of two days
abbrev pub dates_text : ℤ → ℤ → List ℕ
dates_text first last = drop 5 (date_text first) ++ codes ".." ++ drop 5 (date_text last)

-- the words of a season; none for all year
abbrev pub season_words : Season → List QueryWord
season_words AllYear = []
season_words (Months first last) = Exactly (codes "months") ∷ TwoMonths first last ∷ []
season_words (Dates first last) = Exactly (codes "days") ∷ Exactly (dates_text first last) ∷ []

-- the words of a period; none for all days
abbrev pub period_words : Option (ℤ × ℤ) → List QueryWord
period_words None = []
period_words (Some p) =
    Exactly (codes "from") ∷ Exactly (date_text p.0) ∷ Exactly (codes "to") ∷ Exactly (date_text p.1) ∷ []

-- the words of a group; none if there are no groups
abbrev pub per_words : Per → List QueryWord
per_words Each = []
per_words Station = Exactly (codes "per") ∷ Exactly (codes "station") ∷ []
per_words Year = Exactly (codes "per") ∷ Exactly (codes "year") ∷ []

-- the words of a query
abbrev pub query_words : Query → List QueryWord
query_words q =
    Exactly (codes "top") ∷ Count q.k ∷ score_words q.score ++ region_words q.region ++ season_words q.season
    ++ period_words q.period ++ per_words q.per

-- the canonical text of a word: numbers without leading zeros, all decimals, and two points between months
abbrev pub word_text : QueryWord → List ℕ
word_text (Exactly text) = text
word_text (Count n) = decimal n
word_text (Tenths t) = tenths t
word_text (Edge z) = four_places z
word_text (TwoMonths first last) = decimal first ++ 46 ∷ 46 ∷ decimal last

-- the canonical text of a query
abbrev pub query_text : Query → List ℕ
query_text q = join_with_byte 32 (map word_text (query_words q))

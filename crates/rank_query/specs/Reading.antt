-- Reading a query text from left to right, with the first error that is met.
use Rattle.std.specs.Prelude.{ℕ, true, nat_lt, if◌then◌else◌, List, [], ◌∷◌, length, codes, Option, None, Some}
use Rattle.std.specs.Prelude.{Result, Ok, Err, ℤ, pos, neg_ℤ, int_le}
use Rattle.ghcn_files.specs.Meaning.Elements.{may_be_negative}
use Rattle.rank_query.specs.declared.score.Score.{Score}
use Rattle.rank_query.specs.declared.score.Score.TheVariants.{Highest, Lowest, Sum, Dry, Wet, Hot, Cold}
use Rattle.rank_query.specs.declared.region.Region.{Region}
use Rattle.rank_query.specs.declared.region.Region.TheVariants.{Everywhere, Inside, Country, State, Only}
use Rattle.rank_query.specs.declared.season.Season.{Season}
use Rattle.rank_query.specs.declared.season.Season.TheVariants.{AllYear, Months, Dates}
use Rattle.rank_query.specs.declared.fault.QueryFault.{QueryFault}
use Rattle.rank_query.specs.declared.fault.QueryFault.TheVariants.{QueryTooLong, UnexpectedWord, EmptyPeriod}
use Rattle.rank_query.specs.declared.per.Per.{Per}
use Rattle.rank_query.specs.declared.per.Per.TheVariants.{Each}
use Rattle.rank_query.specs.Meaning.Asked.{Query, is_fall}
use Rattle.rank_query.specs.Words.{Word, numbered_words}
use Rattle.rank_query.specs.Readers.{◌>>=◌, Read, next_word, keyword, one_word, made_into, by_word}
use Rattle.rank_query.specs.WordValues.{number, element, heat, months, dates, degrees, code, date, group}

-- no score: another word is there, or none
unfoldable pub no_score_at : List Word → Read Score
no_score_at ws = do
  w ← next_word ws
  Err (UnexpectedWord w.0.0)

-- the highest values of an element
abbrev pub highest_at : List Word → Read Score
highest_at ws = made_into Highest (one_word (element (λ e. true)) ws)

-- the lowest values of a temperature
abbrev pub lowest_at : List Word → Read Score
lowest_at ws = made_into Lowest (one_word (element may_be_negative) ws)

-- the sums of some days of rain or snow
unfoldable pub sum_at : List Word → Read Score
sum_at ws = do
  n ← one_word (number 1 366) ws
  e ← one_word (element is_fall) n.1
  Ok (Sum n.0 e.0, e.1)

-- dry spells
abbrev pub dry_at : List Word → Read Score
dry_at ws = Ok (Dry, ws)

-- wet spells
abbrev pub wet_at : List Word → Read Score
wet_at ws = Ok (Wet, ws)

-- hot spells
abbrev pub hot_at : List Word → Read Score
hot_at ws = made_into Hot (one_word heat ws)

-- cold spells
abbrev pub cold_at : List Word → Read Score
cold_at ws = made_into Cold (one_word heat ws)

-- a score, by its first word
unfoldable pub score_at : List Word → Read Score
score_at ws =
    by_word ((codes "highest", highest_at) ∷ (codes "lowest", lowest_at) ∷ (codes "sum", sum_at) ∷
    (codes "dry", dry_at) ∷ (codes "wet", wet_at) ∷ (codes "hot", hot_at) ∷ (codes "cold", cold_at) ∷ []) no_score_at ws

-- degrees of latitude, from a southernmost one to the north pole
abbrev pub latitude_from : ℤ → Word → Result ℤ QueryFault
latitude_from south w = degrees south (pos 900_000) w

-- degrees of longitude
abbrev pub longitude : Word → Result ℤ QueryFault
longitude w = degrees (neg_ℤ (pos 1_800_000)) (pos 1_800_000) w

-- the edges of a box, of which the northern one isn't south of the southern one
unfoldable pub box_at : List Word → Read Region
box_at ws = do
  south ← one_word (latitude_from (neg_ℤ (pos 900_000))) ws
  west ← one_word longitude south.1
  north ← one_word (latitude_from south.0) west.1
  east ← one_word longitude north.1
  Ok (Inside south.0 west.0 north.0 east.0, east.1)

-- the country of a code
abbrev pub country_at : List Word → Read Region
country_at ws = made_into Country (one_word (code 2) ws)

-- the state of a code
abbrev pub state_at : List Word → Read Region
state_at ws = made_into State (one_word (code 2) ws)

-- the station of an ID
abbrev pub station_at : List Word → Read Region
station_at ws = made_into (λ id. Only (record { 0 = id })) (one_word (code 11) ws)

-- all stations, without a word
abbrev pub everywhere_at : List Word → Read Region
everywhere_at ws = Ok (Everywhere, ws)

-- a region, by its first word, and without one all stations
unfoldable pub region_at : List Word → Read Region
region_at ws =
    by_word ((codes "box", box_at) ∷ (codes "country", country_at) ∷ (codes "state", state_at) ∷
    (codes "station", station_at) ∷ []) everywhere_at ws

-- a season from a first to a last month
abbrev pub months_at : List Word → Read Season
months_at ws = made_into (λ s. Months s.0 s.1) (one_word months ws)

-- a season from a first to a last day of a year
abbrev pub dates_at : List Word → Read Season
dates_at ws = made_into (λ s. Dates s.0 s.1) (one_word dates ws)

-- all year, without a word
abbrev pub all_year_at : List Word → Read Season
all_year_at ws = Ok (AllYear, ws)

-- a season, by its first word, and without one all year
unfoldable pub season_at : List Word → Read Season
season_at ws = by_word ((codes "months", months_at) ∷ (codes "days", dates_at) ∷ []) all_year_at ws

-- the first and the last day of a period, which isn't before the first
unfoldable pub days_at : List Word → Read (ℤ × ℤ)
days_at ws = do
  first ← one_word date ws
  after_to ← keyword (codes "to") first.1
  last ← one_word date after_to
  if int_le first.0 last.0 then Ok ((first.0, last.0), last.1) else Err EmptyPeriod

-- a period between two days
abbrev pub between_at : List Word → Read (Option (ℤ × ℤ))
between_at ws = made_into Some (days_at ws)

-- all days, without a word
abbrev pub always_at : List Word → Read (Option (ℤ × ℤ))
always_at ws = Ok (None, ws)

-- a period, by its first word, and without one all days
unfoldable pub period_at : List Word → Read (Option (ℤ × ℤ))
period_at ws = by_word ((codes "from", between_at) ∷ []) always_at ws

-- each candidate, without a word
abbrev pub each_at : List Word → Read Per
each_at ws = Ok (Each, ws)

-- a group, after its first word, and without one each candidate
unfoldable pub per_at : List Word → Read Per
per_at ws = by_word ((codes "per", one_word group) ∷ []) each_at ws

-- the query, if no word is left
abbrev pub nothing_more : List Word → Query → Result Query QueryFault
nothing_more [] q = Ok q
nothing_more (w ∷ ws) q = Err (UnexpectedWord w.0)

-- the query of these words
unfoldable pub read_words : List Word → Result Query QueryFault
read_words ws = do
  after_top ← keyword (codes "top") ws
  k ← one_word (number 1 1000) after_top
  score ← score_at k.1
  region ← region_at score.1
  season ← season_at region.1
  period ← period_at season.1
  per ← per_at period.1
  nothing_more per.1 (record {
    k = k.0;
    score = score.0;
    region = region.0;
    season = season.0;
    period = period.0;
    per = per.0;
  })

-- the query of a text of at most 256 bytes
unfoldable pub read_query : List ℕ → Result Query QueryFault
read_query text = if nat_lt 256 (length text) then Err QueryTooLong else read_words (numbered_words text)

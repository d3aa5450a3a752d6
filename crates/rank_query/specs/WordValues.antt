-- What single words of a query text are read as.
use Rattle.std.specs.Prelude.{ℕ, Bool, ◌&&◌, ◌==◌, if◌then◌else◌, List, [], ◌∷◌, ◌++◌, Option, None, Some, Result, Ok}
use Rattle.std.specs.Prelude.{Err, ℤ, codes, take, drop}
use Rattle.std.specs.List.{before_first, after_first, slice_range}
use Rattle.ghcn_fields.specs.Meaning.Bytes.{same_bytes}
use Rattle.ghcn_fields.specs.Numbers.{natural, decimal_number, signed_by, scaled_field}
use Rattle.ghcn_fields.specs.Meaning.Days.{is_within}
use Rattle.ghcn_fields.specs.Dates.{read_date}
use Rattle.ghcn_files.specs.declared.element.Element.{Element}
use Rattle.ghcn_files.specs.Elements.{element_of}
use Rattle.ghcn_files.specs.StationLines.{is_number_within, number_of}
use Rattle.rank_query.specs.declared.fault.QueryFault.{QueryFault}
use Rattle.rank_query.specs.declared.fault.QueryFault.TheVariants.{UnexpectedWord, OutOfLimits, BadDate, BadBox}
use Rattle.rank_query.specs.declared.per.Per.{Per}
use Rattle.rank_query.specs.declared.per.Per.TheVariants.{Station, Year}
use Rattle.rank_query.specs.Meaning.Asked.{is_code, is_heat}
use Rattle.rank_query.specs.Words.{Word}
use Rattle.rank_query.specs.Readers.{◌>>=◌, or_fault}

-- a number that digits write, within its limits
unfoldable pub number : ℕ → ℕ → Word → Result ℕ QueryFault
number low high w = do
  n ← or_fault (UnexpectedWord w.0) (natural w.1)
  if is_within low high n then Ok n else Err (OutOfLimits w.0)

-- the element that a word names, if it is one of those that a test allows
unfoldable pub element : (Element → Bool) → Word → Result Element QueryFault
element allows w = do
  e ← or_fault (UnexpectedWord w.0) (element_of w.1)
  if allows e then Ok e else Err (UnexpectedWord w.0)

-- a number of degrees within its limits, in ten-thousandths, as a field of four decimals holds it
unfoldable pub degrees : ℤ → ℤ → Word → Result ℤ QueryFault
degrees low high w =
    if is_number_within low high (scaled_field 4 w.1) then Ok (number_of (scaled_field 4 w.1)) else Err (BadBox w.0)

-- that many tenths, as a number with one decimal at most writes them
abbrev pub tenths_in : List ℕ → Option ℤ
tenths_in word = signed_by (decimal_number 1) word

-- a number of degrees for hot or cold spells, in tenths, within its limits
unfoldable pub heat : Word → Result ℤ QueryFault
heat w = do
  t ← or_fault (UnexpectedWord w.0) (tenths_in w.1)
  if is_heat t then Ok t else Err (OutOfLimits w.0)

-- a point
abbrev pub is_point : ℕ → Bool
is_point b = b == 46

-- the number after a point that comes first
abbrev pub natural_behind : List ℕ → Option ℕ
natural_behind [] = None
natural_behind (b ∷ bytes) = if is_point b then natural bytes else None

-- two values, if there are both
abbrev pub both : {A : Type 0} → Option A → Option A → Option (A × A)
both None y = None
both (Some x) None = None
both (Some x) (Some y) = Some (x, y)

-- the numbers before and after two points
abbrev pub two_numbers : List ℕ → Option (ℕ × ℕ)
two_numbers word = both (natural (before_first is_point word)) (natural_behind (after_first is_point word))

-- the number of a month
abbrev pub is_month : ℕ → Bool
is_month m = is_within 1 12 m

-- a first and a last month
unfoldable pub months : Word → Result (ℕ × ℕ) QueryFault
months w = do
  s ← or_fault (UnexpectedWord w.0) (two_numbers w.1)
  if is_month s.0 && is_month s.1 then Ok s else Err (OutOfLimits w.0)

-- that many visible bytes
unfoldable pub code : ℕ → Word → Result (List ℕ) QueryFault
code len w = if is_code len w.1 then Ok w.1 else Err (UnexpectedWord w.0)

-- the day whose date a word is
unfoldable pub date : Word → Result ℤ QueryFault
date w = or_fault (BadDate w.0) (read_date w.1)

-- the day of the year 2000 whose date without the year the bytes are, MM-DD
abbrev pub day_of_2000 : List ℕ → Option ℤ
day_of_2000 text = read_date (codes "2000-" ++ text)

-- the days before and after two points, as days of the year 2000
abbrev pub two_days : List ℕ → Option (ℤ × ℤ)
two_days word =
    if same_bytes (slice_range word 5 7) (codes "..") then both (day_of_2000 (take 5 word)) (day_of_2000 (drop 7 word))
    else None

-- the first and the last day of a season, as days of the year 2000
unfoldable pub dates : Word → Result (ℤ × ℤ) QueryFault
dates w = or_fault (BadDate w.0) (two_days w.1)

-- the group that a word names: a station, or a year of one
abbrev pub group_of : List ℕ → Option Per
group_of word =
    if same_bytes word (codes "station") then Some Station
    else if same_bytes word (codes "year") then Some Year
    else None

-- the group that a word names; any other word has an error
unfoldable pub group : Word → Result Per QueryFault
group w = or_fault (UnexpectedWord w.0) (group_of w.1)

-- Which error a wrong word has: it depends on what the grammar has after the words before it.
use Rattle.std.specs.Prelude.{◌≡◌, ℕ, zero, suc, ◌+◌, Bool, true, false, ◌&&◌, ◌||◌, if◌then◌else◌, ◌⊎◌, List, []}
use Rattle.std.specs.Prelude.{◌∷◌, ◌++◌, length, reverse, codes, is_some, Option, None, Some}
use Rattle.ghcn_fields.specs.declared.field.Field.{Field}
use Rattle.ghcn_fields.specs.declared.field.Field.TheVariants.{Blank, Number, Bad}
use Rattle.ghcn_fields.specs.Meaning.Bytes.{same_bytes}
use Rattle.ghcn_fields.specs.Dates.{read_date}
use Rattle.ghcn_fields.specs.Numbers.{natural, scaled_field}
use Rattle.rank_query.specs.WordValues.{tenths_in, two_numbers, two_days}
use Rattle.rank_query.specs.declared.fault.QueryFault.{QueryFault}
use Rattle.rank_query.specs.declared.fault.QueryFault.TheVariants.{QueryTooLong, UnexpectedWord, QueryEnds}
use Rattle.rank_query.specs.declared.fault.QueryFault.TheVariants.{OutOfLimits, BadDate, BadBox, EmptyPeriod}

-- what the grammar has at a place: a number of rows or of days, one of degrees, the months of a season, its first and
-- last day, an edge of a box, a date, or any other word
pub data Place : Type 0 where
  number : Place
  heat : Place
  season : Place
  dates : Place
  edge : Place
  date : Place
  other : Place

-- the word is one digit or more, and nothing else
abbrev pub is_digits : List ℕ → Bool
is_digits word = is_some (natural word)

-- the word is a number with one decimal at most
abbrev pub is_tenths : List ℕ → Bool
is_tenths word = is_some (tenths_in word)

-- the word is two numbers with two points between them
abbrev pub are_two : List ℕ → Bool
are_two word = is_some (two_numbers word)

-- whether a word has the form of the numbers of a place, if these have limits
abbrev pub has_form : Place → List ℕ → Option Bool
has_form number word = Some (is_digits word)
has_form heat word = Some (is_tenths word)
has_form season word = Some (are_two word)
has_form dates word = None
has_form edge word = None
has_form date word = None
has_form other word = None

-- a field is a number
abbrev pub is_number : Field → Bool
is_number Blank = false
is_number (Number z) = true
is_number Bad = false

-- the word is a number with up to four decimals
abbrev pub is_decimal : List ℕ → Bool
is_decimal word = is_number (scaled_field 4 word)

-- the word is the date of a day
abbrev pub is_date_word : List ℕ → Bool
is_date_word word = is_some (read_date word)

-- the word is two days of a year with two points between them
abbrev pub is_dates_word : List ℕ → Bool
is_dates_word word = is_some (two_days word)

-- the nearest of some words is this one; of the words after which a word comes, the nearest always comes first
abbrev pub is_next_behind : List ℕ → List (List ℕ) → Bool
is_next_behind text [] = false
is_next_behind text (w ∷ past) = same_bytes w text

-- the words end by "box" and at most that many numbers
abbrev pub is_behind_box : ℕ → List (List ℕ) → Bool
is_behind_box n [] = false
is_behind_box zero (w ∷ past) = same_bytes w (codes "box")
is_behind_box (suc n) (w ∷ past) = same_bytes w (codes "box") || (is_decimal w && is_behind_box n past)

-- the words end by "from" and a date
abbrev pub is_behind_first_day : List (List ℕ) → Bool
is_behind_first_day [] = false
is_behind_first_day (w ∷ past) = is_date_word w && is_next_behind (codes "from") past

-- the words end by "from", or by "from", a date and "to"
abbrev pub is_behind_from : List (List ℕ) → Bool
is_behind_from [] = false
is_behind_from (w ∷ past) = same_bytes w (codes "from") || (same_bytes w (codes "to") && is_behind_first_day past)

-- the place after some words: a number comes after "top" and "sum", degrees after "hot" and "cold", the four edges
-- after "box", the months after "months", the first and the last day after "days", the dates after "from" and "to"
abbrev pub place_behind : List (List ℕ) → Place
place_behind past =
    if is_behind_box 3 past then edge
    else if is_next_behind (codes "top") past || is_next_behind (codes "sum") past then number
    else if is_next_behind (codes "hot") past || is_next_behind (codes "cold") past then heat
    else if is_next_behind (codes "months") past then season
    else if is_next_behind (codes "days") past then dates
    else if is_behind_from past then date
    else other

-- the error of a word that is wrong after these words
abbrev pub IsFaultOf : QueryFault → List (List ℕ) → List ℕ → Type 0
IsFaultOf QueryTooLong past word = ⊥
IsFaultOf (UnexpectedWord n) past word =
    (n ≡ length past + 1) × ((place_behind past ≡ other) ⊎ (has_form (place_behind past) word ≡ Some false))
IsFaultOf QueryEnds past word = ⊥
IsFaultOf (OutOfLimits n) past word = (n ≡ length past + 1) × (has_form (place_behind past) word ≡ Some true)
IsFaultOf (BadDate n) past word =
    (n ≡ length past + 1) × (((place_behind past ≡ date) × (is_date_word word ≡ false))
    ⊎ ((place_behind past ≡ dates) × (is_dates_word word ≡ false)))
IsFaultOf (BadBox n) past word = (n ≡ length past + 1) × (place_behind past ≡ edge)
IsFaultOf EmptyPeriod past word = (place_behind past ≡ date) × (is_date_word word ≡ true)

-- an error of words is that of one of them
abbrev pub IsFaultAmong : QueryFault → List (List ℕ) → Type 0
IsFaultAmong QueryTooLong ws = Unit {0}
IsFaultAmong QueryEnds ws = Unit {0}
IsFaultAmong fault ws =
    (past : List (List ℕ)) × (word : List ℕ) × (behind : List (List ℕ)) × (ws ≡ reverse past ++ word ∷ behind)
    × IsFaultOf fault past word

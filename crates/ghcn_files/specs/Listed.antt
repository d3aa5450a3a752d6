-- The listed stations of a text, or the first line with an error.
use Rattle.std.specs.Prelude.{◌≡◌, ◌⊎◌, ℕ, ◌+◌, ◌<◌, ◌≤◌, ◌^◌, Bool, true, false, not, nat_lt, if◌then◌else◌}
use Rattle.std.specs.Prelude.{List, ◌++◌, length, map}
use Rattle.std.specs.Prelude.{Option, None, Some, Result, Ok, Err, filter, is_some, IsTrue}
use Rattle.std.specs.List.{All, list_all, list_any, IsDistinct, position}
use Rattle.std.specs.Option.{option_or, option_map}
use Rattle.ghcn_fields.specs.Meaning.Bytes.{is_blank}
use Rattle.ghcn_fields.specs.Lines.{numbered_lines, EndsLine}
use Rattle.ghcn_fields.specs.Faults.{first_fault, IsFirstFault}
use Rattle.ghcn_fields.specs.Refusals.{OrMemory}
use Rattle.ghcn_files.specs.declared.station.StationId.{StationId}
use Rattle.ghcn_files.specs.declared.station.Station.{Station}
use Rattle.ghcn_files.specs.declared.fault.StationWhy.{StationWhy}
use Rattle.ghcn_files.specs.declared.fault.StationWhy.TheVariants.{Duplicate}
use Rattle.ghcn_files.specs.declared.fault.StationsFault.{StationsFault}
use Rattle.ghcn_files.specs.declared.fault.StationsFault.TheVariants.{StationLine, TooManyStations, Memory}
use Rattle.ghcn_files.specs.Meaning.Ids.{same_id}
use Rattle.ghcn_files.specs.StationLines.{id_of, station_of, line_why, is_station}
use Rattle.ghcn_files.specs.Meaning.Listed.{is_station_of}

-- a line that isn't blank, with its number
abbrev pub Numbered : Type 0
Numbered = ℕ × List ℕ

-- an earlier line has this ID
abbrev pub is_repeated : List Numbered → StationId → Bool
is_repeated earlier id = list_any (λ l. same_id (id_of l.1) id) earlier

-- the first test that a line fails after the lines before it
abbrev pub station_why : List Numbered → List ℕ → Option StationWhy
station_why earlier line = option_or (line_why line) (if is_repeated earlier (id_of line) then Some Duplicate else None)

-- the error of a line after those before it: of its text, or that it is one station too many
abbrev pub station_fault : List Numbered → Numbered → Option StationsFault
station_fault earlier l =
    option_or (option_map (λ why. StationLine l.0 why) (station_why earlier l.1))
    (if nat_lt (length earlier) (2 ^ 20) then None else Some TooManyStations)

-- the lines of a text that aren't blank
abbrev pub station_lines : List ℕ → List Numbered
station_lines text = filter (λ l. not (is_blank l.1)) (numbered_lines text)

-- the stations of some lines
abbrev pub stations_of : List Numbered → List Station
stations_of ls = map (λ l. station_of l.1) ls

-- the stations of all lines, unless one has an error: then the first error
abbrev pub listed_unless : Option (Numbered × StationsFault) → List Numbered → Result (List Station) StationsFault
listed_unless None ls = Ok (stations_of ls)
listed_unless (Some f) ls = Err f.1

-- the listed stations of a text in file order, or the first error
abbrev pub listed : List ℕ → Result (List Station) StationsFault
listed text = listed_unless (first_fault station_fault (station_lines text)) (station_lines text)

-- the place of the station with this ID, from 0
abbrev pub place_of : List Station → StationId → Option ℕ
place_of stations id = position (is_station_of id) stations

-- what is true of every list of stations: no ID twice, at most 2^20 stations, and each has its fields in range
pub record AreListed (stations : List Station) : Type 0 where
  pub distinct : IsDistinct same_id (map (λ s. s.id) stations)
  pub few : length stations ≤ 2 ^ 20
  pub right : IsTrue (list_all is_station stations)

-- if the lists of two texts are a first and a next one, and the first text ends a line, the list of both texts, one after
-- the other, is this
pub record ListTogether (first next both : List Station) : Type 0 where
  pub holds : (text rest : List ℕ) → EndsLine text → listed text ≡ Ok first → listed rest ≡ Ok next
      → listed (text ++ rest) ≡ Ok both

-- no line of a text has an error by itself, and these are the stations of its lines
pub record AreOfLines (text : List ℕ) (stations : List Station) : Type 0 where
  pub right : All (λ l. line_why l.1 ≡ None) (station_lines text)
  pub all : stations ≡ stations_of (station_lines text)

-- if some stations are of whole lines, these are of those lines and a text after them
pub record FollowLines (stations : List Station) (text : List ℕ) (more : List Station) : Type 0 where
  pub holds : (before : List ℕ) → EndsLine before → AreOfLines before stations → AreOfLines (before ++ text) more

-- a line of a text has an error by itself, or its stations are too many after some others
abbrev pub AreRefusedAfter : List Station → List ℕ → Type 0
AreRefusedAfter stations text =
    IsTrue (list_any (λ l. is_some (line_why l.1)) (station_lines text))
    ⊎ (2 ^ 20 < length stations + length (station_lines text))

-- stations are the list of each text of whose lines they are
abbrev pub ListLines : List Station → Type 0
ListLines stations = (text : List ℕ) → AreOfLines text stations → listed text ≡ Ok stations

-- an ID is in both of two lists
abbrev pub have_one_id : List Station → List Station → Bool
have_one_id first next = list_any (λ s. list_any (λ t. same_id s.id t.id) next) first

-- two lists don't make one: an ID is in both, or they have too many stations together
abbrev pub StayApart : List Station → List Station → Type 0
StayApart first next = IsTrue (have_one_id first next) ⊎ (2 ^ 20 < length first + length next)

-- memory ran out
abbrev pub is_memory : StationsFault → Bool
is_memory (Memory m) = true
is_memory fault = false

-- some line of the text is the first with an error, and has this one
abbrev pub HasFirst : StationsFault → List ℕ → Type 0
HasFirst fault text = (l : Numbered) × IsFirstFault station_fault (station_lines text) l fault

-- out of memory, or the error of the first line that has one
abbrev pub IsFirstRefusal : StationsFault → List ℕ → Type 0
IsFirstRefusal fault text = OrMemory is_memory (λ f. HasFirst f text) fault

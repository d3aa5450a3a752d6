-- What has been gathered after some lines, of one station and element and of all of them.
use Rattle.std.specs.Prelude.{◌≡◌, ℕ, ◌+◌, ◌*◌, ◌==◌, Bool, true, false, not, ◌&&◌, ◌||◌, if◌then◌else◌, List, []}
use Rattle.std.specs.Prelude.{◌∷◌, length, get_or, Option, None, Some, filter, ℤ, pos, int_le, ⊤}
use Rattle.std.specs.List.{list_any, filter_map, flat_map, enumerate_from, count_by, IsDistinct, AllZip, AllByRecursion}
use Rattle.std.specs.Option.{option_and_then, option_map}
use Rattle.ghcn_fields.specs.Sorting.{sorted_by}
use Rattle.ghcn_fields.specs.Faults.{HaveNoFault}
use Rattle.ghcn_files.specs.declared.station.StationId.{StationId}
use Rattle.ghcn_files.specs.declared.element.Element.{Element}
use Rattle.ghcn_files.specs.declared.element.Keep.{Keep}
use Rattle.ghcn_files.specs.declared.month.Month.{Month}
use Rattle.ghcn_files.specs.declared.month.Reading.{Reading}
use Rattle.ghcn_files.specs.Meaning.Ids.{same_id}
use Rattle.ghcn_files.specs.Meaning.Elements.{elements, may_be_negative}
use Rattle.ghcn_files.specs.Elements.{same_element, is_kept}
use Rattle.ghcn_files.specs.declared.station.Station.{Station}
use Rattle.ghcn_files.specs.Listed.{AreListed}
use Rattle.ghcn_files.specs.Months.{IsMonth}
use Rattle.ghcn_files.specs.Rows.{no_reading}
use Rattle.ghcn_series.specs.declared.gathering.Gathering.{Gathering}
use Rattle.ghcn_series.specs.declared.reader.Reader.{Reader}
use Rattle.ghcn_series.specs.declared.rows.RowReader.{RowReader}
use Rattle.ghcn_series.specs.declared.fault.DataFault.{DataFault}
use Rattle.ghcn_series.specs.declared.fault.DataFault.TheVariants.{TooManyFiles, DailyLine, Memory}
use Rattle.ghcn_series.specs.Meaning.Series.{DayValue, Series, value_on}
use Rattle.ghcn_series.specs.Series.{by_day}
use Rattle.ghcn_series.specs.Parts.{AreParts, days_held}
use Rattle.ghcn_series.specs.SeenMonths.{has_month}
use Rattle.ghcn_series.specs.DailyFaults.{FileLine, month_on, is_listed, daily_fault, HasFirst}
use Rattle.ghcn_series.specs.Meaning.Says.{Fact}
use Rattle.ghcn_series.specs.Says.{fact_of, in_64_bits}

-- the day and the value of a fact, if its element can have the value
abbrev pub counted_day : Fact → Option DayValue
counted_day f = if may_be_negative f.element || int_le (pos 0) f.value then Some (f.day, f.value) else None

-- a day of a month, by its place in the month and its reading, with its value, if that counts
abbrev pub usable_day : Month → ℕ × Reading → Option DayValue
usable_day m x = option_and_then counted_day (fact_of m x)

-- the days of a month whose values count
abbrev pub usable_days : Month → List DayValue
usable_days m = filter_map (usable_day m) (enumerate_from 1 m.days)

-- the value of a month's day at a place, if it is usable
abbrev pub usable_value : Month → ℕ → Option ℤ
usable_value m j = option_map (λ x. x.1) (usable_day m (j + 1, get_or m.days j no_reading))

-- two months have the same year and month of the year
abbrev pub same_time : Month → Month → Bool
same_time a b = (a.year == b.year) && (a.month == b.month)

-- the months since the year 0, of a month
abbrev pub month_count : Month → ℕ
month_count m = 12 * m.year + m.month

-- the month has this number
abbrev pub has_number : ℕ → Month → Bool
has_number t m = t == month_count m

-- the days that a gathering has
abbrev pub gathered_days : Gathering → List DayValue
gathered_days g = days_held g.parts

-- the usable days of these months, if the days of their element are kept, and otherwise none
abbrev pub kept_days : Bool → List Month → List DayValue
kept_days true months = flat_map usable_days months
kept_days false months = []

-- the gathering has these months, each right by itself and no two of one time, and the values of those of their days
-- that are kept
pub record IsGathering (kept : Bool) (g : Gathering) (months : List Month) : Type 0 where
  pub right : AllByRecursion IsMonth months
  pub seen : (t : ℕ) → has_month g.seen t ≡ list_any (has_number t) months
  pub parts : AreParts g.parts
  pub values : (d : ℤ) → value_on (gathered_days g) d ≡ value_on (kept_days kept months) d
  pub distinct : IsDistinct same_time months

-- some of these months belongs to a station
abbrev pub has_month_of : List Month → StationId → Bool
has_month_of months id = list_any (λ m. same_id m.id id) months

-- the months of a station and element
abbrev pub months_of : List Month → StationId → Element → List Month
months_of months id e = filter (λ m. same_id m.id id && same_element m.element e) months

-- the gathering has what these months say of a station and element, if the days of one element are kept, or of all
pub record IsGatheringOf (asked : Keep) (months : List Month) (id : StationId) (g : Gathering) (e : Element)
    : Type 0 where
  pub element : g.element ≡ e
  pub holds : IsGathering (is_kept asked e) g (months_of months id e)

-- five gatherings have what these months say of a station, whether it has one or none
abbrev pub AreFiveOf : Keep → List Month → StationId → List Gathering → Type 0
AreFiveOf asked months id gs = AllZip (IsGatheringOf asked months id) gs elements

-- gatherings by element have what these months say of a station: there are some if and only if it has a month
abbrev pub AreByElement : Keep → List Month → StationId → List Gathering → Type 0
AreByElement asked months id [] = has_month_of months id ≡ false
AreByElement asked months id (g ∷ gs) = (has_month_of months id ≡ true) × AreFiveOf asked months id (g ∷ gs)

-- a listed station's gatherings have what these months say of it
abbrev pub IsStationOf : Keep → List Month → Station → List Gathering → Type 0
IsStationOf asked months s gs = AreByElement asked months s.id gs

-- a gathering can become a series: its months belong to its element and are right by themselves
pub record IsReady (g : Gathering) : Type 0 where
  pub kept : Bool
  pub months : List Month
  pub holds : IsGathering kept g months
  pub right : AllByRecursion (λ m. IsMonth m × (m.element ≡ g.element)) months

-- the series of a station's gathering, if it has a usable day
abbrev pub gathered_series : StationId → Gathering → Option Series
gathered_series id g =
    if length (gathered_days g) == 0 then None
    else Some (record { id = id; element = g.element; days = sorted_by by_day (gathered_days g) })

-- the series of a station, by element
abbrev pub station_series : StationId → List Gathering → List Series
station_series id gs = filter_map (gathered_series id) gs

-- the series of each station, by element
abbrev pub series_by_place : List Station → List (List Gathering) → List (List Series)
series_by_place [] all = []
series_by_place (s ∷ ss) [] = []
series_by_place (s ∷ ss) (gs ∷ all) = station_series s.id gs ∷ series_by_place ss all

-- a reader has read these months, none of them before
pub record HasRead (r : Reader) (months : List Month) : Type 0 where
  pub listed : AreListed r.stations
  pub right : AllByRecursion IsMonth months
  pub unlisted : r.unlisted ≡ in_64_bits (count_by (λ m. not (is_listed r.stations m.id)) months)
  pub gathered : AllZip (IsStationOf r.keep months) r.stations r.gathered.stations

-- a reader has read these lines, none of which has an error
pub record HasReadLines (r : Reader) (ls : List FileLine) : Type 0 where
  pub months : HasRead r (filter_map month_on ls)
  pub right : HaveNoFault (daily_fault r.stations) ls

-- a reader has read these lines for these stations, and keeps the values of these elements
pub record HasReadFor (r : Reader) (stations : List Station) (keep : Keep) (ls : List FileLine) : Type 0 where
  pub listed : r.stations ≡ stations
  pub kept : r.keep ≡ keep
  pub read : HasReadLines r ls

-- a reader of rows has read these lines so
abbrev pub HasReadByRows : RowReader → List Station → Keep → List FileLine → Type 0
HasReadByRows r stations keep ls = HasReadFor r.reader stations keep ls

-- out of memory, or the error of the first line that has one
abbrev pub IsLineRefusal : List Station → List FileLine → DataFault → Type 0
IsLineRefusal stations ls (Memory m) = ⊤
IsLineRefusal stations ls TooManyFiles = ⊥
IsLineRefusal stations ls (DailyLine file line why) = HasFirst (DailyLine file line why) stations ls

-- What the daily files say, and what of it counts.
use Rattle.std.specs.Prelude.{ℕ, ◌^◌, ◌-◌, min, Bool, false, ◌&&◌, ◌||◌, not, ◌==◌, nat_le, if◌then◌else◌, List, length}
use Rattle.std.specs.Prelude.{map, Option, None, Some, Result, Ok, Err, filter, ℤ, pos, int_le}
use Rattle.std.specs.List.{flat_map, filter_map, enumerate_from, count_by}
use Rattle.ghcn_fields.specs.Days.{day_number}
use Rattle.ghcn_fields.specs.Faults.{first_fault}
use Rattle.ghcn_fields.specs.Sorting.{sorted_by}
use Rattle.ghcn_files.specs.declared.station.StationId.{StationId}
use Rattle.ghcn_files.specs.declared.element.Element.{Element}
use Rattle.ghcn_files.specs.declared.station.Station.{Station}
use Rattle.ghcn_files.specs.declared.month.Month.{Month}
use Rattle.ghcn_files.specs.declared.month.Reading.{Reading}
use Rattle.ghcn_files.specs.Meaning.Ids.{same_id}
use Rattle.ghcn_files.specs.Meaning.Elements.{elements, may_be_negative}
use Rattle.ghcn_files.specs.Elements.{same_element}
use Rattle.ghcn_series.specs.declared.fault.DataFault.{DataFault}
use Rattle.ghcn_series.specs.declared.fault.DataFault.TheVariants.{TooManyFiles}
use Rattle.ghcn_series.specs.Meaning.Series.{DayValue, Series}
use Rattle.ghcn_series.specs.Series.{Data}
use Rattle.ghcn_series.specs.DailyFaults.{FileLine, daily_lines, month_on, is_listed, daily_fault}
use Rattle.ghcn_series.specs.Meaning.Says.{Fact}

-- what a month says on a day: nothing if the value is flagged, or if there is no such day or no value
abbrev pub fact_if : Month → Bool → Option ℤ → Option ℤ → Option Fact
fact_if m false (Some day) (Some v) = Some (record { id = m.id; element = m.element; day = day; value = v })
fact_if m flagged day v = None

-- what a month says on a day, by its place in the month and its reading
abbrev pub fact_of : Month → ℕ × Reading → Option Fact
fact_of m x = fact_if m x.1.flagged (day_number m.year m.month x.0) x.1.value

-- all facts of a month, in order of day
abbrev pub facts_of : Month → List Fact
facts_of m = filter_map (fact_of m) (enumerate_from 1 m.days)

-- all that these lines say
abbrev pub facts_on : List FileLine → List Fact
facts_on ls = flat_map facts_of (filter_map month_on ls)

-- a fact that counts: of a listed station, and not negative if the element has no negative values
abbrev pub is_usable : List Station → Fact → Bool
is_usable stations f = is_listed stations f.id && (may_be_negative f.element || int_le (pos 0) f.value)

-- the facts of these lines that count
abbrev pub usable_facts : List Station → List FileLine → List Fact
usable_facts stations ls = filter (is_usable stations) (facts_on ls)

-- the usable days of a station and element, by day
abbrev pub days_of : List Fact → StationId → Element → List DayValue
days_of facts id e =
    sorted_by (λ a b. int_le a.0 b.0)
    (map (λ f. (f.day, f.value)) (filter (λ f. same_id f.id id && same_element f.element e) facts))

-- the series of a station and element
abbrev pub usable_of : List Fact → Station → Element → Series
usable_of facts s e = record { id = s.id; element = e; days = days_of facts s.id e }

-- the series that have a day, by station in file order and then by element
abbrev pub all_series : List Station → List Fact → List Series
all_series stations facts =
    filter (λ s. not (length s.days == 0)) (flat_map (λ s. map (usable_of facts s) elements) stations)

-- a number as 64 bits hold it: from 2^64 - 1 on all numbers are this one
abbrev pub in_64_bits : ℕ → ℕ
in_64_bits n = min n (2 ^ 64 - 1)

-- how many lines of the five elements without an error have a station that isn't listed, in 64 bits
abbrev pub unlisted : List Station → List FileLine → ℕ
unlisted stations ls = in_64_bits (count_by (λ m. not (is_listed stations m.id)) (filter_map month_on ls))

-- what lines without an error hold
abbrev pub contents : List Station → List FileLine → Data
contents stations ls = record {
  stations = stations;
  series = all_series stations (usable_facts stations ls);
  unlisted = unlisted stations ls;
}

-- that, unless a line has an error: then the first error
abbrev pub contents_unless : Option (FileLine × DataFault) → Data → Result Data DataFault
contents_unless None held = Ok held
contents_unless (Some f) held = Err f.1

-- the data of some files, or the first error
abbrev pub data_of : List Station → List (List ℕ) → Result Data DataFault
data_of stations files =
    if nat_le (length files) (2 ^ 20)
    then contents_unless (first_fault (daily_fault stations) (daily_lines files))
    (contents stations (daily_lines files))
    else Err TooManyFiles

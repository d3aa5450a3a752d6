-- What is true of all data that was read.
use Rattle.std.specs.Prelude.{◌≡◌, ℕ, Bool, true, ◌&&◌, List, [], ◌∷◌, get_or, map}
use Rattle.std.specs.List.{flat_map, IsDistinct, AllByRecursion, AllZip}
use Rattle.ghcn_files.specs.declared.station.Station.{Station}
use Rattle.ghcn_files.specs.declared.element.Element.{Element}
use Rattle.ghcn_files.specs.Meaning.Ids.{same_id}
use Rattle.ghcn_files.specs.Elements.{same_element}
use Rattle.ghcn_files.specs.Listed.{AreListed}
use Rattle.ghcn_series.specs.Meaning.Series.{Series}
use Rattle.ghcn_series.specs.Series.{Data, IsSeries}
use Rattle.ghcn_series.specs.DailyFaults.{is_listed}

-- two series have the same station and element
abbrev pub same_series : Series → Series → Bool
same_series a b = same_id a.id b.id && same_element a.element b.element

-- what is true of the series of listed stations: no two have the same station and element, and each belongs to a listed
-- station and is right by itself
pub record AreSeries (stations : List Station) (series : List Series) : Type 0 where
  pub distinct : IsDistinct same_series series
  pub listed : AllByRecursion (λ s. is_listed stations s.id ≡ true) series
  pub right : AllByRecursion IsSeries series

-- what is true of all data
pub record IsContents (held : Data) : Type 0 where
  pub listed : AreListed held.stations
  pub series : AreSeries held.stations held.series

-- the series has this element
abbrev pub is_of_element : Element → Series → Bool
is_of_element e u = same_element u.element e

-- the series of all lists, one list after the other
abbrev pub all_of : List (List Series) → List Series
all_of lists = flat_map (λ series. series) lists

-- the lists of all places, each by its number among some lists, from 1: a place with the number 0 has an empty one
abbrev pub lists_by_number : List (List Series) → List ℕ → List (List Series)
lists_by_number lists numbers = map (λ n. get_or ([] ∷ lists) n []) numbers

-- the data of stations with one list of series each, if that many lines were skipped
abbrev pub contents_of : List Station → List (List Series) → ℕ → Data
contents_of stations lists unlisted = record { stations = stations; series = all_of lists; unlisted = unlisted }

-- what is true of the series of listed stations that are kept in one list for each: those of a list are its station's,
-- and all of them are right
pub record AreByStation (stations : List Station) (lists : List (List Series)) : Type 0 where
  pub own : AllZip (λ s series. AllByRecursion (λ u. u.id ≡ s.id) series) stations lists
  pub listed : AreListed stations
  pub series : AreSeries stations (all_of lists)

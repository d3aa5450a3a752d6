-- What contracts see of all data, and what is true of each series.
use Rattle.std.specs.Prelude.{ℕ, ◌<◌, Bool, true, ◌&&◌, ◌||◌, List, [], ◌∷◌, length, Option, ℤ, pos, neg_ℤ, int_le}
use Rattle.std.specs.Prelude.{int_lt, IsTrue}
use Rattle.std.specs.List.{list_all, find}
use Rattle.ghcn_fields.specs.Meaning.Days.{is_day}
use Rattle.ghcn_files.specs.declared.station.StationId.{StationId}
use Rattle.ghcn_files.specs.declared.element.Element.{Element}
use Rattle.ghcn_files.specs.declared.station.Station.{Station}
use Rattle.ghcn_files.specs.Meaning.Ids.{same_id}
use Rattle.ghcn_files.specs.Meaning.Elements.{may_be_negative}
use Rattle.ghcn_files.specs.Elements.{same_element}
use Rattle.ghcn_series.specs.Meaning.Series.{DayValue, Series}

-- the listed stations in file order; of each, in that order, its series, by element; and how many lines of unlisted
-- stations were skipped
pub record Data : Type 0 where
  pub stations : List Station
  pub series : List Series
  pub unlisted : ℕ

-- the first comes no later than the second
abbrev pub by_day : DayValue → DayValue → Bool
by_day a b = int_le a.0 b.0

-- each day is later than the one before it
abbrev pub is_by_day : List DayValue → Bool
is_by_day [] = true
is_by_day (x ∷ []) = true
is_by_day (x ∷ y ∷ ys) = int_lt x.0 y.0 && is_by_day (y ∷ ys)

-- a value that an element can have
abbrev pub is_value : Element → ℤ → Bool
is_value e v = int_le (neg_ℤ (pos 9998)) v && int_le v (pos 99_999) && (may_be_negative e || int_le (pos 0) v)

-- what is true of each series: it has a day, its days rise, and each is a day with a value that the element can have
pub record IsSeries (s : Series) : Type 0 where
  pub nonempty : 0 < length s.days
  pub by_day : IsTrue (is_by_day s.days)
  pub values : IsTrue (list_all (λ x. is_day x.0 && is_value s.element x.1) s.days)

-- the series is that of this station and element
abbrev pub is_series_of : StationId → Element → Series → Bool
is_series_of id e s = same_id s.id id && same_element s.element e

-- the series of a station and element, if it has a usable day
abbrev pub series_of : Data → StationId → Element → Option Series
series_of held id e = find (is_series_of id e) held.series

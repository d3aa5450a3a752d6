-- A series, and the value of a day.
use Rattle.std.specs.Prelude.{List, Option, ℤ}
use Rattle.std.specs.List.{find}
use Rattle.std.specs.Option.{option_map}
use Rattle.std.specs.Ordering.{int_eq}
use Rattle.ghcn_files.specs.declared.station.StationId.{StationId}
use Rattle.ghcn_files.specs.declared.element.Element.{Element}

-- a day, by its number, and its value, in the unit of the element
abbrev pub DayValue : Type 0
DayValue = ℤ × ℤ

-- a series: the usable days of one station and one element, each with its value, in order of day
pub record Series : Type 0 where
  pub id : StationId
  pub element : Element
  pub days : List DayValue

-- the value of a day, if it is one of these days
abbrev pub value_on : List DayValue → ℤ → Option ℤ
value_on days day = option_map (λ x. x.1) (find (λ x. int_eq x.0 day) days)

-- Facts: what a line of a daily file says of one day.
use Rattle.std.specs.Prelude.{ℤ}
use Rattle.ghcn_files.specs.declared.station.StationId.{StationId}
use Rattle.ghcn_files.specs.declared.element.Element.{Element}

-- a station, an element, a day and the value that a line gives it
pub record Fact : Type 0 where
  pub id : StationId
  pub element : Element
  pub day : ℤ
  pub value : ℤ

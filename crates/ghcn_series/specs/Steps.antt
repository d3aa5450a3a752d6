-- What each step of the reading adds to what was read before it.
use Rattle.std.specs.Prelude.{◌≡◌, ℕ, ◌++◌, ◌∷◌, [], ◌&&◌, ◌⊎◌, not, Bool, true, false, List, length, get_or, map}
use Rattle.std.specs.Bool.{OnTrue}
use Rattle.std.specs.List.{list_any, AllZip, AllByRecursion, Contains}
use Rattle.ghcn_files.specs.declared.month.Month.{Month}
use Rattle.ghcn_files.specs.declared.station.StationId.{StationId}
use Rattle.ghcn_files.specs.declared.station.Station.{Station}
use Rattle.ghcn_files.specs.declared.row.MonthRow.{MonthRow}
use Rattle.ghcn_files.specs.declared.element.Keep.{Keep}
use Rattle.ghcn_files.specs.Meaning.Elements.{elements}
use Rattle.ghcn_files.specs.Months.{IsMonth}
use Rattle.ghcn_files.specs.Rows.{IsRowOf}
use Rattle.ghcn_series.specs.declared.gathering.Gathering.{Gathering}
use Rattle.ghcn_series.specs.declared.reader.Reader.{Reader}
use Rattle.ghcn_series.specs.Series.{Data}
use Rattle.ghcn_series.specs.DailyFaults.{FileLine, same_month, is_listed}
use Rattle.ghcn_series.specs.Says.{contents}
use Rattle.ghcn_series.specs.Kept.{kept}
use Rattle.ghcn_series.specs.Gathered.{same_time, has_month_of, IsGathering, AreFiveOf, AreByElement, IsStationOf}
use Rattle.ghcn_series.specs.Gathered.{HasRead, HasReadLines}

-- the row is that of some month, whose days are kept or aren't
abbrev pub IsOfMonth : Bool → MonthRow → Type 0
IsOfMonth kept row = (m : Month) × (IsMonth m × IsRowOf kept m row)

-- a fact about each month whose row this is
abbrev pub OfMonth : Bool → MonthRow → (Month → Type 0) → Type 0
OfMonth kept row P = (m : Month) → IsMonth m → IsRowOf kept m row → P m

-- the row is that of a month with its days, or, if these aren't kept, without them
abbrev pub IsRowFor : Bool → Month → MonthRow → Type 0
IsRowFor kept m row = IsRowOf true m row ⊎ IsRowOf kept m row

-- some month has such a row
abbrev pub IsForMonth : Bool → MonthRow → Type 0
IsForMonth kept row = (m : Month) × (IsMonth m × IsRowFor kept m row)

-- a fact about each month that has this as such a row
abbrev pub ForMonth : Bool → MonthRow → (Month → Type 0) → Type 0
ForMonth kept row P = (m : Month) → IsMonth m → IsRowFor kept m row → P m

-- what a gathering has whose days are kept or aren't: some months
abbrev pub GathersSome : Bool → Gathering → Type 0
GathersSome kept g = (months : List Month) × IsGathering kept g months

-- a gathering has no month, whether its days are to be kept or not
abbrev pub GathersNothing : Gathering → Type 0
GathersNothing g = (kept : Bool) → IsGathering kept g []

-- a gathering adds a month, unless it has one of its time
pub record Gathers (kept : Bool) (old new : Gathering) (m : Month) (added : Bool) : Type 0 where
  pub is_new : (before : List Month) → IsGathering kept old before → added ≡ not (list_any (same_time m) before)
  pub holds : (before : List Month) → IsGathering kept old before
      → OnTrue added (IsGathering kept new (before ++ m ∷ []))

-- a gathering has the months that it had
pub record KeepsMonths (old new : Gathering) : Type 0 where
  pub holds : (kept : Bool) (before : List Month) → IsGathering kept old before → IsGathering kept new before

-- five gatherings of nothing, by element
pub record FiveOfNothing (gs : List Gathering) : Type 0 where
  pub elements : map (λ g. g.element) gs ≡ elements
  pub nothing : AllByRecursion GathersNothing gs

-- what five gatherings have of a station: some months, or none
abbrev pub FiveGatherSome : Keep → StationId → List Gathering → Type 0
FiveGatherSome asked id gs = (months : List Month) × AreFiveOf asked months id gs

-- five gatherings add a month of their station, unless they have that month
pub record FiveGather (asked : Keep) (old new : List Gathering) (m : Month) (added : Bool) : Type 0 where
  pub is_new : (before : List Month) → AreFiveOf asked before m.id old → added ≡ not (list_any (same_month m) before)
  pub holds : (before : List Month) → AreFiveOf asked before m.id old
      → OnTrue added (AreByElement asked (before ++ m ∷ []) m.id new)

-- what is gathered of a station: some months
abbrev pub GatherSome : Keep → StationId → List Gathering → Type 0
GatherSome asked id gs = (months : List Month) × AreByElement asked months id gs

-- a station has the months that it had
pub record KeepsStation (old new : List Gathering) : Type 0 where
  pub holds : (asked : Keep) (before : List Month) (id : StationId) → AreByElement asked before id old
      → AreByElement asked before id new

-- each station has the months that it had
pub record KeepStations (olds news : List (List Gathering)) : Type 0 where
  pub each : (i : ℕ) → KeepsStation (get_or olds i []) (get_or news i [])
  pub number : length news ≡ length olds

-- a station has its five gatherings, with what it had before
pub record Opens (old new : List Gathering) : Type 0 where
  pub holds : (asked : Keep) (before : List Month) (id : StationId) → AreByElement asked before id old
      → AreFiveOf asked before id new

-- the station at a place has its five gatherings, and each station has what it had
pub record TurnsTo (k : ℕ) (olds news : List (List Gathering)) : Type 0 where
  pub own : Opens (get_or olds k []) (get_or news k [])
  pub others : (i : ℕ) → (i ≡ k → ⊥) → KeepsStation (get_or olds i []) (get_or news i [])
  pub number : length news ≡ length olds

-- a station adds a month, unless it has that month
pub record StationAdds (asked : Keep) (old new : List Gathering) (m : Month) (added : Bool) : Type 0 where
  pub is_new : (before : List Month) → AreByElement asked before m.id old
      → added ≡ not (list_any (same_month m) before)
  pub holds : (before : List Month) → AreByElement asked before m.id old
      → OnTrue added (AreByElement asked (before ++ m ∷ []) m.id new)

-- the station at a place adds a month, unless it has that month, and the others have what they had
pub record AddsAt (asked : Keep) (k : ℕ) (olds news : List (List Gathering)) (m : Month) (added : Bool) : Type 0 where
  pub own : StationAdds asked (get_or olds k []) (get_or news k []) m added
  pub others : (i : ℕ) → (i ≡ k → ⊥) → KeepsStation (get_or olds i []) (get_or news i [])
  pub number : length news ≡ length olds

-- a station has months in at most one of two lists
abbrev pub AreApart : List Month → List Month → Station → Type 0
AreApart ms others s = (has_month_of ms s.id && has_month_of others s.id) ≡ false

-- a station has months in both of two lists
pub record HaveBoth (ms others : List Month) (s : Station) : Type 0 where
  pub has : has_month_of ms s.id ≡ true
  pub has_too : has_month_of others s.id ≡ true

-- a station takes over the months of other gatherings of it, of which one has none
pub record JoinsStation (old other new : List Gathering) : Type 0 where
  pub apart : (asked : Keep) (ms others : List Month) (s : Station) → IsStationOf asked ms s old
      → IsStationOf asked others s other → AreApart ms others s
  pub holds : (asked : Keep) (ms others : List Month) (s : Station) → IsStationOf asked ms s old
      → IsStationOf asked others s other → IsStationOf asked (ms ++ others) s new

-- two gatherings of a station both have months
pub record BothHaveMonths (one other : List Gathering) : Type 0 where
  pub are : (asked : Keep) (ms others : List Month) (s : Station) → IsStationOf asked ms s one
      → IsStationOf asked others s other → HaveBoth ms others s

-- stations take over the months of other gatherings of them, of which each time one has none
pub record JoinStations (olds others news : List (List Gathering)) : Type 0 where
  pub apart : (asked : Keep) (ms more : List Month) (ss : List Station) → AllZip (IsStationOf asked ms) ss olds
      → AllZip (IsStationOf asked more) ss others → AllByRecursion (AreApart ms more) ss
  pub holds : (asked : Keep) (ms more : List Month) (ss : List Station) → AllZip (IsStationOf asked ms) ss olds
      → AllZip (IsStationOf asked more) ss others → AllZip (IsStationOf asked (ms ++ more)) ss news

-- one of these stations has months in both of its gatherings
pub record OneHasBoth (olds others : List (List Gathering)) : Type 0 where
  pub one : (asked : Keep) (ms more : List Month) (ss : List Station) → AllZip (IsStationOf asked ms) ss olds
      → AllZip (IsStationOf asked more) ss others → (s : Station) × Contains ss s × HaveBoth ms more s

-- a reader reads a month, unless its station is listed and has that month
pub record ReadsMonth (old new : Reader) (m : Month) (added : Bool) : Type 0 where
  pub is_new : (before : List Month) → HasRead old before
      → added ≡ not (is_listed old.stations m.id && list_any (same_month m) before)
  pub holds : (before : List Month) → HasRead old before → OnTrue added (HasRead new (before ++ m ∷ []))

-- what a reader has read: some lines
abbrev pub HasSomeLines : Reader → Type 0
HasSomeLines r = (ls : List FileLine) × HasReadLines r ls

-- what is kept of all that a reader has read is held
pub record HoldsAll (r : Reader) (held : Data) : Type 0 where
  pub is : (ls : List FileLine) → HasReadLines r ls → held ≡ kept r.keep (contents r.stations ls)

-- The plan of a query: its morsels with their bounds, in the order in which they are drawn.
use Rattle.std.specs.Prelude.{◌≡◌, Bool, true, ◌&&◌, ◌||◌, List, [], ◌∷◌, map, Option, ℤ}
use Rattle.std.specs.Prelude.{int_lt}
use Rattle.std.specs.List.{AllByRecursion, filter_map}
use Rattle.std.specs.List.Sorted.{IsPermutation}
use Rattle.std.specs.Option.{option_map}
use Rattle.std.specs.declared.cmp.Ordering.{Ordering}
use Rattle.std.specs.Ordering.{int_eq, int_cmp, nat_cmp, on, flip_args, then_cmp}
use Rattle.std.specs.Cmp.Lexicographic.{slice_cmp}
use Rattle.ghcn_fields.specs.Sorting.{sorted_by}
use Rattle.ghcn_files.specs.declared.station.Station.{Station}
use Rattle.ghcn_series.specs.Meaning.Series.{Series}
use Rattle.ghcn_series.specs.Series.{Data}
use Rattle.ghcn_series.specs.Held.{IsContents}
use Rattle.rank_query.specs.Meaning.Asked.{Query, IsAsked}
use Rattle.rank_scores.specs.Morsels.{morsel_at, morsels, id_comes_first}
use Rattle.rank_blocks.specs.Bounds.{bound}
use Rattle.rank_sched.specs.declared.plan.Morsel as code

-- a series of a query, and its bound
pub record Morsel : Type 0 where
  pub series : Series
  pub bound : ℤ

-- what contracts see of a plan: the query, the listed stations, and the morsels by number
pub record Plan : Type 0 where
  pub query : Query
  pub stations : List Station
  pub morsels : List Morsel

-- what contracts see of a morsel
abbrev pub planned_morsel : code.Morsel → Morsel
planned_morsel m = record { series = m.series.now; bound = m.bound }

-- a series with its bound under a query
abbrev pub measured : Query → Series → Morsel
measured q s = record { series = s; bound = bound q s }

-- a is drawn before b: by greater bound, then by smaller ID
abbrev pub is_drawn_first : Morsel → Morsel → Bool
is_drawn_first a b = int_lt b.bound a.bound || (int_eq a.bound b.bound && id_comes_first a.series.id b.series.id)

-- the same as a comparison
abbrev pub drawn_cmp : Morsel → Morsel → Ordering
drawn_cmp = then_cmp (on (λ m. m.bound) (flip_args int_cmp)) (on (λ m. m.series.id.0) (slice_cmp nat_cmp))

-- the plan of a query over some data: all its morsels, each with its bound, in the order in which they are drawn
abbrev pub planned : Query → Data → Plan
planned q c = record {
  query = q;
  stations = c.stations;
  morsels =
      sorted_by is_drawn_first (map (measured q) (morsels q c));
}

-- each morsel is drawn before all after it
abbrev pub AreDrawnInTurn : List Morsel → Type 0
AreDrawnInTurn [] = Unit {0}
AreDrawnInTurn (m ∷ ms) = AllByRecursion (λ n. is_drawn_first m n ≡ true) ms × AreDrawnInTurn ms

-- the same by properties: the query's morsels with their bounds, each once, and each is drawn before all after it
pub record IsPlanOf (q : Query) (c : Data) (p : Plan) : Type 0 where
  pub asked : p.query ≡ q
  pub listed : p.stations ≡ c.stations
  pub morsels_are : IsPermutation (map (measured q) (morsels q c)) p.morsels
  pub in_turn : AreDrawnInTurn p.morsels

-- what is true of every plan: it is that of its query over some data
pub record IsPlan (p : Plan) : Type 0 where
  pub asked : IsAsked p.query
  pub dataset : Data
  pub right : IsContents dataset
  pub plan : p ≡ planned p.query dataset

-- the morsel of a station with its bound, if the station has one
abbrev pub measured_at : Query → Data → Station → Option Morsel
measured_at q c st = option_map (measured q) (morsel_at q c st)

-- the morsels of all listed stations in file order, none if a station has no morsel
abbrev pub measures : Query → Data → List (Option Morsel)
measures q c = map (measured_at q c) c.stations

-- the morsels that were found at some places, in the order of these
abbrev pub found_among : List (Option Morsel) → List Morsel
found_among at_places = filter_map (λ found. found) at_places

-- What was gathered of the listed stations, of which those with a month are held.
use Rattle.std.specs.Prelude.{◌≡◌, ℕ, ◌+◌, ◌^◌, ◌<◌, ◌≤◌, ◌==◌, not, List, [], ◌∷◌, length, get_or, map}
use Rattle.std.specs.List.{count_by, AllByRecursion}
use Rattle.ghcn_series.specs.declared.gathering.Gathering.{Gathering}
use Rattle.ghcn_series.specs.declared.parts.Parts.{Parts}
use Rattle.ghcn_series.specs.declared.station.StationGathering.{StationGathering}
use Rattle.ghcn_series.specs.Parts.{AreEmpty}

-- the gatherings of each listed station, in their order, and the place of the station of the line before
pub record GatheredByPlace : Type 0 where
  pub stations : List (List Gathering)
  pub last : ℕ

-- the gatherings of the held station with a number, from 1, or none for 0
abbrev pub numbered : List StationGathering → ℕ → List Gathering
numbered held n = get_or ([] ∷ map (λ s. s.by_element.items) held) n []

-- its place in the list
abbrev pub place_numbered : List StationGathering → ℕ → ℕ
place_numbered held n = get_or (0 ∷ map (λ s. s.place) held) n 0

-- the gatherings of each listed station, by their numbers
abbrev pub by_place : List StationGathering → List ℕ → List (List Gathering)
by_place held numbers = map (numbered held) numbers

-- each listed station's number is 0 or that of the held station of its place, and each held station has its number
-- there, and five gatherings
pub record ArePlaced (numbers : List ℕ) (held : List StationGathering) : Type 0 where
  pub few : length numbers ≤ 2 ^ 20
  pub count : length held ≡ count_by (λ n. not (n == 0)) numbers
  pub own : (k : ℕ) → 0 < get_or numbers k 0
      → (get_or numbers k 0 ≤ length held) × (place_numbered held (get_or numbers k 0) ≡ k)
  pub back : (n : ℕ) → 0 < n → n ≤ length held → get_or numbers (place_numbered held n) 0 ≡ n
  pub five : (n : ℕ) → 0 < n → n ≤ length held → length (numbered held n) ≡ 5

-- the stations are placed, that of the line before is held, if there is one, and no days are in spare memory
pub record AreGatherings (numbers : List ℕ) (held : List StationGathering) (last at : ℕ) (memory : List Parts)
    : Type 0 where
  pub placed : ArePlaced numbers held
  pub here : last < length numbers → get_or numbers last 0 ≡ at + 1
  pub spare : AllByRecursion AreEmpty memory

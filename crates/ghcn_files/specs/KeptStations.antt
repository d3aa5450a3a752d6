-- How stations are kept: with the places of their IDs while a list is read line by line, and with their keys in order.
use Rattle.std.specs.Prelude.{◌≡◌, ℕ, suc, ◌+◌, ◌<◌, ◌^◌, take, drop, get_or, List, [], ◌∷◌, ◌++◌, length, map}
use Rattle.std.specs.Prelude.{Option, None, Some, is_some, IsTrue, ◌≤◌, ◌⊎◌}
use Rattle.std.specs.declared.cmp.Ordering.{Ordering}
use Rattle.std.specs.declared.cmp.Ordering.TheVariants.{Less}
use Rattle.std.specs.List.{AllAdjacentBelow, IsDistinct, list_all}
use Rattle.std.specs.List.Sorted.{IsPermutation}
use Rattle.std.specs.Ordering.{eq_by_cmp, nat_cmp, ordering_then}
use Rattle.std.specs.Int.{from_be_bytes, w32, w64}
use Rattle.std.specs.BTreeMap.{is_at}
use Rattle.std.specs.Map.{lookup}
use Rattle.ghcn_files.specs.declared.station.StationId.{StationId}
use Rattle.ghcn_files.specs.declared.station.Station.{Station}
use Rattle.ghcn_files.specs.declared.fault.StationsFault.{StationsFault}
use Rattle.ghcn_files.specs.StationLines.{id_of, is_station, line_why, station_of}
use Rattle.ghcn_fields.specs.Refusals.{OrMemory}
use Rattle.ghcn_files.specs.Listed.{Numbered, stations_of, station_fault, place_of, AreListed, is_memory}

-- the bytes of an ID as two numbers: of the first eight and of the last four, the most significant byte first
abbrev pub key_of : List ℕ → ℕ × ℕ
key_of bytes = (from_be_bytes w64 (take 8 bytes), from_be_bytes w32 (drop 7 bytes))

-- the order of such pairs
abbrev pub key_cmp : ℕ × ℕ → ℕ × ℕ → Ordering
key_cmp a b = ordering_then (nat_cmp a.0 b.0) (nat_cmp a.1 b.1)

-- the place that is kept for an ID
abbrev pub kept_place : List ((ℕ × ℕ) × ℕ) → StationId → Option ℕ
kept_place places id = lookup (is_at (key_cmp (key_of id.0))) places

-- eleven bytes
abbrev pub AreEleven : List ℕ → Type 0
AreEleven bytes = (length bytes ≡ 11) × ((i : ℕ) → get_or bytes i 0 < 256)

-- stations that are kept with the places of their IDs are listed, and each ID of eleven bytes has its place in the list
pub record AreKept (stations : List Station) (places : List ((ℕ × ℕ) × ℕ)) : Type 0 where
  pub list : AreListed stations
  pub own : (id : StationId) → AreEleven id.0 → kept_place places id ≡ place_of stations id

-- the key of an ID beside a place
abbrev pub key_with_place : StationId → ℕ → ℕ × ℕ × ℕ
key_with_place id place = ((key_of id.0).0, (key_of id.0).1, place)

-- the key without the place
abbrev pub id_key : ℕ × ℕ × ℕ → ℕ × ℕ
id_key key = (key.0, key.1)

-- the keys of stations beside their places, which are counted from a number on
abbrev pub keys_from : ℕ → List Station → List (ℕ × ℕ × ℕ)
keys_from n [] = []
keys_from n (s ∷ ss) = key_with_place s.id n ∷ keys_from (suc n) ss

-- each key is below the next, whatever the places
abbrev pub Rise : List (ℕ × ℕ × ℕ) → Type 0
Rise keys = AllAdjacentBelow (λ a b. key_cmp (id_key a) (id_key b) ≡ Less) keys (length keys)

-- no two keys are of one ID
abbrev pub Differ : List (ℕ × ℕ × ℕ) → Type 0
Differ keys = IsDistinct (eq_by_cmp key_cmp) (map id_key keys)

-- the key of a station to whose list that many others were put before
abbrev pub later : ℕ → ℕ × ℕ × ℕ → ℕ × ℕ × ℕ
later count key = (key.0, key.1, key.2 + count)

-- stations are kept with the keys of their IDs, which are put in order
pub record AreOrdered (stations : List Station) (keys : List (ℕ × ℕ × ℕ)) : Type 0 where
  pub list : AreListed stations
  pub rise : Rise keys
  pub own : IsPermutation (keys_from 0 stations) keys

-- stations of lines, with the keys of their IDs: there aren't too many, and each has its fields in range
pub record AreTaken (stations : List Station) (keys : List (ℕ × ℕ × ℕ)) : Type 0 where
  pub own : keys ≡ keys_from 0 stations
  pub few : length stations ≤ 2 ^ 20
  pub right : IsTrue (list_all is_station stations)

-- a line has an error by itself, or as many stations as there may be are held
abbrev pub IsRefusedLine : List ℕ → List Station → Type 0
IsRefusedLine line held = IsTrue (is_some (line_why line)) ⊎ (2 ^ 20 ≤ length held)

-- a line adds its station and its key: it has no error by itself, and there is room for one station more
pub record IsAdded (line : List ℕ) (held : List Station) (keys : List (ℕ × ℕ × ℕ)) (more : List Station)
    (longer : List (ℕ × ℕ × ℕ)) : Type 0 where
  pub right : line_why line ≡ None
  pub room : length held < 2 ^ 20
  pub station : more ≡ held ++ station_of line ∷ []
  pub key : longer ≡ keys ++ key_with_place (id_of line) (length held) ∷ []

-- a line adds its station: it has no error after any lines that list those held
pub record AddsStation (held : List Station) (l : Numbered) (more : List Station) : Type 0 where
  pub right : (earlier : List Numbered) → stations_of earlier ≡ held → station_fault earlier l ≡ None
  pub added : more ≡ held ++ station_of l.1 ∷ []

-- the line has this error after any lines that list the stations held
abbrev pub IsFaultAfter : StationsFault → List Station → Numbered → Type 0
IsFaultAfter fault held l =
    (earlier : List Numbered) → stations_of earlier ≡ held → station_fault earlier l ≡ Some fault

-- out of memory, or the very error of the line
abbrev pub IsRefusedFor : StationsFault → List Station → Numbered → Type 0
IsRefusedFor fault held l = OrMemory is_memory (λ f. IsFaultAfter f held l) fault

-- Where the reading of a region stops.
use Rattle.rank_query.proofs.Cited.{arith, ints, ◌≡◌, ℕ, true, ◌&&◌, List, Ok, codes, refl, ℤ, pos, neg_ℤ, int_le}
use Rattle.rank_query.proofs.Cited.{AllByRecursion, and_parts, Region, Inside, Country, State, Only, is_code, is_region}
use Rattle.rank_query.proofs.Cited.{one_word, code, latitude_from, longitude, box_at}
use Rattle.rank_query.proofs.RegionWords.{region_rows}
use Rattle.rank_query.proofs.WordValues.{is_longitude}
use Rattle.rank_query.proofs.Stops.{ReadsPart, part_then}
use Rattle.rank_query.proofs.PartStops.{part_word, part_made, part_always}
use Rattle.rank_query.proofs.WordStops.{reads_latitude, reads_longitude, reads_code}

-- a region that can be asked for
abbrev pub GoodRegion : Region → Type 0
GoodRegion r = is_region r ≡ true

-- a latitude from a southernmost one on
abbrev IsLatitudeFrom : ℤ → ℤ → Type 0
IsLatitudeFrom south z = (int_le south z && int_le z (pos 900_000)) ≡ true

-- a longitude
abbrev IsLongitude : ℤ → Type 0
IsLongitude z = is_longitude z ≡ true

-- the edges of a box make a region that can be asked for
good_box : (south west north east : ℤ) → IsLatitudeFrom (neg_ℤ (pos 900_000)) south → IsLongitude west
    → IsLatitudeFrom south north → IsLongitude east → GoodRegion (Inside south west north east)
good_box south west north east s w n e = grind (arith, ints)

-- both are parts
latitude_part : (south : ℤ) → int_le south (pos 900_000) ≡ true
    → ReadsPart ℤ (IsLatitudeFrom south) (one_word (latitude_from south))
latitude_part south below = part_word (reads_latitude south below)

-- a longitude
longitude_part : ReadsPart ℤ IsLongitude (one_word longitude)
longitude_part = part_word reads_longitude

-- a box
box_part : ReadsPart Region GoodRegion box_at
unfolding box_at
box_part =
    part_then _ (latitude_part (neg_ℤ (pos 900_000)) refl) (λ south s.
    part_then _ longitude_part (λ west w.
    part_then _ (latitude_part south (and_parts (int_le (neg_ℤ (pos 900_000)) south) (int_le south (pos 900_000)) s).1)
    (λ north n.
    part_then (λ east ws. Ok (Inside south west north east, ws)) longitude_part (λ east e.
    part_always (Inside south west north east) (good_box south west north east s w n e)))))

-- each region is a part after its word
pub region_parts : AllByRecursion (λ row. ReadsPart Region GoodRegion row.1) region_rows
region_parts = (
  box_part,
  (
    part_made Country (λ c is. is) two,
    (
      part_made State (λ c is. is) two,
      (part_made (λ id. Only (record { 0 = id })) (λ c is. is) eleven, tt),
    ),
  ),
) where
  two : ReadsPart (List ℕ) (λ c. is_code 2 c ≡ true) (one_word (code 2))
  two = part_word (reads_code 2 (codes "ZZ") refl refl)

  eleven : ReadsPart (List ℕ) (λ c. is_code 11 c ≡ true) (one_word (code 11))
  eleven = part_word (reads_code 11 (codes "ZZA00000001") refl refl)

-- The morsel of each station.
use Rattle.rank_sched.proofs.Cited.{◌≡◌, ℕ, ◌<◌, length, List, [], ◌∷◌, map, Option, Some, refl, ap, arith, slice_get}
use Rattle.rank_sched.proofs.Cited.{option_map, option_and_then, slice_get-map, slice_get_cases, filter_map, cons_option}
use Rattle.rank_sched.proofs.Cited.{Series, Data, Query, morsel_at, measured, measured_at, measures, found_among, Station}
use Rattle.rank_sched.proofs.Cited.{Morsel}

-- the morsel of the station at a place is at that place
pub measured_there : (q : Query) (c : Data) (place : ℕ) (o : Option Series) → place < length c.stations
    → o ≡ option_and_then (morsel_at q c) (slice_get c.stations place)
    → slice_get (measures q c) place ≡ Some (option_map (measured q) o)
measured_there q c place o within e = grind (arith, slice_get-map, slice_get_cases)

-- those that were found are the morsels of the stations that have one
pub found_of_stations : (q : Query) (c : Data) (sts : List Station)
    → found_among (map (measured_at q c) sts) ≡ filter_map (measured_at q c) sts
found_of_stations q c [] = refl
found_of_stations q c (st ∷ sts) =
    ap (λ (l : List Morsel). cons_option (measured_at q c st) l) (found_of_stations q c sts)

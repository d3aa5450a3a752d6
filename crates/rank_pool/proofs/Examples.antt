-- Worked pools, by computation.
use Rattle.std.proofs.Common.{◌≡◌, List, [], ◌∷◌, ◌++◌, refl, Some, None}
use Rattle.std.specs.Prelude.{codes, ℤ, pos}
use Rattle.std.specs.List.{fold}
use Rattle.ghcn_files.specs.declared.station.StationId.{StationId}
use Rattle.rank_scores.specs.declared.candidate.Candidate.{Candidate}
use Rattle.rank_scores.specs.Order.{best, kth_score}
use Rattle.rank_pool.specs.First.{first, kth, above}
use Rattle.rank_pool.specs.Pools.{Pool, empty_pool, taken, last_score}

-- three stations
abbrev a : StationId
a = record { 0 = codes "ZZA00000001" }

abbrev b : StationId
b = record { 0 = codes "ZZA00000002" }

abbrev c : StationId
c = record { 0 = codes "ZZA00000003" }

-- a day of a station with its value
abbrev on_day : StationId → ℤ → ℤ → Candidate
on_day id day v = record { id = id; first = day; last = day; score = v }

-- two places, and three days of one station
abbrev offered : List Candidate
offered = on_day a (pos 18445) (pos 305) ∷ on_day a (pos 18444) (pos 311) ∷ on_day a (pos 18446) (pos 306) ∷ []

-- two places, and what they are offered
abbrev pool_of : List Candidate → Pool
pool_of cs = fold taken (empty_pool 2) cs

-- the k-th score, once k candidates were offered
kths : (last_score (pool_of []) ≡ None) × (last_score (pool_of (on_day a (pos 18445) (pos 305) ∷ [])) ≡ None)
    × (last_score (pool_of (on_day a (pos 18445) (pos 305) ∷ on_day a (pos 18444) (pos 311) ∷ [])) ≡ Some (pos 305))
    × (last_score (pool_of offered) ≡ Some (pos 306))
kths = (refl, refl, refl, refl)

-- days of two other stations, in a pool of the same size
abbrev others : List Candidate
others = on_day c (pos 18444) (pos 250) ∷ on_day b (pos 18444) (pos 311) ∷ []

-- equal scores are in order of ID, and none of them is lost
merged : (fold taken (pool_of offered) (pool_of others).held
    ≡ record { size = 2; held = on_day a (pos 18444) (pos 311) ∷ on_day b (pos 18444) (pos 311) ∷ [] })
    × (kth 2 (offered ++ others) ≡ Some (pos 311)) × (first 2 (offered ++ others)
    ≡ (fold taken (pool_of offered) (pool_of others).held).held)
merged = (refl, refl, refl)

-- by rank and by place
ranked : (best 2 (offered ++ others) ≡ first 2 (offered ++ others)) × (kth_score 2 (offered ++ others)
    ≡ kth 2 (offered ++ others)) × (kth 6 (offered ++ others) ≡ None)
ranked = (refl, refl, refl)

-- what was offered twice is held twice
twice : first 3 (others ++ others)
    ≡ on_day b (pos 18444) (pos 311) ∷ on_day b (pos 18444) (pos 311) ∷ on_day c (pos 18444) (pos 250) ∷ []
twice = refl

-- of all five, four score above 250, and none above 311
counted : (above (pos 250) (offered ++ others) ≡ 4) × (above (pos 311) (offered ++ others) ≡ 0)
counted = (refl, refl)

-- Worked bounds, by computation.
use Rattle.rank_blocks.proofs.Cited.{◌≡◌, ℕ, zero, suc, List, [], ◌∷◌, refl, Some, None, Option, codes, ℤ, pos, neg_ℤ}
use Rattle.rank_blocks.proofs.Cited.{◌+ℤ◌, Element, DayValue, Series, Score, Highest, Lowest, Sum, Dry, Wet, Hot, Cold, Query}
use Rattle.rank_blocks.proofs.Cited.{run_from, bound}
use Rattle.ghcn_files.specs.declared.element.Element.TheVariants.{Tmax, Tmin, Prcp}
use Rattle.rank_query.specs.Asked.{top}

-- a series of a station
abbrev pub series : Element → List DayValue → Series
series e days = record { id = record { 0 = codes "ZZA00000001" }; element = e; days = days }

-- a query without a region
abbrev pub ask : Score → Option (ℤ × ℤ) → Query
ask score period = record (top 1 score) { period = period }

-- a value on each of n days from one on
abbrev pub each_day : ℤ → ℕ → ℤ → List DayValue
each_day day zero v = []
each_day day (suc n) v = (day, v) ∷ each_day (day +ℤ pos 1) n v

-- rain of two times three days, with a day between that isn't usable
abbrev pub rain : List DayValue
rain = (pos 18258, pos 10) ∷ (pos 18259, pos 20) ∷ (pos 18260, pos 30) ∷ (pos 18262, pos 5) ∷ (pos 18263, pos 6)
    ∷ (pos 18264, pos 7) ∷ []

-- the total of the block, although no window has it
with_gap : bound (ask (Sum 3 Prcp) (Some (pos 18258, pos 18264))) (series Prcp rain) ≡ pos 78
with_gap = refl

-- day 18463 is the last of block 576
three_blocks : (bound (ask (Sum 33 Prcp) None) (series Prcp (each_day (pos 18463) 34 (pos 10))) ≡ pos 330)
    × (bound (ask (Sum 34 Prcp) None) (series Prcp (each_day (pos 18463) 34 (pos 10))) ≡ pos 340)
three_blocks = (refl, refl)

-- whole blocks, and not the period's days
cut_spell : bound (ask Dry (Some (pos 18448, pos 18453))) (series Prcp (each_day (pos 18444) 31 (pos 0))) ≡ pos 20
unfolding run_from
cut_spell = refl

-- the other day of the block has a greater value
one_day : bound (ask (Highest Tmax) (Some (pos 18445, pos 18445)))
    (series Tmax ((pos 18444, pos 311) ∷ (pos 18445, pos 305) ∷ [])) ≡ pos 311
one_day = refl

-- of three series
three_series : (bound (ask (Highest Tmax) None) (series Tmax ((pos 18444, pos 311) ∷ (pos 18445, pos 305) ∷ []))
    ≡ pos 311) × (bound (ask (Highest Tmax) None) (series Tmax ((pos 18444, pos 311) ∷ [])) ≡ pos 311)
    × (bound (ask (Highest Tmax) None) (series Tmax ((pos 18444, pos 250) ∷ [])) ≡ pos 250)
three_series = (refl, refl, refl)

-- the negated value
lowest : bound (ask (Lowest Tmin) None) (series Tmin ((pos 18444, neg_ℤ (pos 5)) ∷ (pos 18445, pos 3) ∷ [])) ≡ pos 5
lowest = refl

-- a run over the border of two blocks
two_blocks_joined : bound (ask Dry None) (series Prcp (each_day (pos 18444) 31 (pos 0))) ≡ pos 31
unfolding run_from
two_blocks_joined = refl

-- a sum over the border of two blocks
two_blocks_summed : bound (ask (Sum 2 Prcp) None) (series Prcp ((pos 18463, pos 100) ∷ (pos 18464, pos 100) ∷ []))
    ≡ pos 200
two_blocks_summed = refl

-- a block lies between the two days, so no two blocks in a row have both
abbrev pub apart : List DayValue
apart = (pos 18444, pos 100) ∷ (pos 18496, pos 60) ∷ []

-- two days, and 33 of them, lie in at most two blocks
two_blocks_alone : (bound (ask (Sum 2 Prcp) None) (series Prcp apart) ≡ pos 100)
    × (bound (ask (Sum 33 Prcp) None) (series Prcp apart) ≡ pos 100)
two_blocks_alone = (refl, refl)

-- no day is wet
never_wet : bound (ask Wet None) (series Prcp (each_day (pos 18444) 31 (pos 0))) ≡ pos 0
unfolding run_from
never_wet = refl

-- the period's last block holds no usable day, and the block after it does
empty_last_block : bound (ask (Sum 32 Prcp) (Some (pos 18444, pos 18475)))
    (series Prcp ((pos 18453, pos 5) ∷ (pos 18506, pos 900) ∷ [])) ≡ pos 160
empty_last_block = refl

-- a total has blocks after the period
block_behind : bound (ask (Sum 2 Prcp) (Some (pos 18444, pos 18463)))
    (series Prcp ((pos 18463, pos 50) ∷ (pos 18464, pos 7) ∷ [])) ≡ pos 57
block_behind = refl

-- day -1 is in block -1, with day -32
before_1970 : bound (ask (Highest Tmax) (Some (neg_ℤ (pos 1), neg_ℤ (pos 1))))
    (series Tmax ((neg_ℤ (pos 33), pos 300) ∷ (neg_ℤ (pos 32), pos 100) ∷ (pos 0, pos 200) ∷ [])) ≡ pos 100
before_1970 = refl

-- two hot days in two blocks, and one that isn't hot between others of one block
hot_blocks : (bound (ask (Hot (pos 300)) None) (series Tmax ((pos 18463, pos 300) ∷ (pos 18464, pos 300) ∷ []))
    ≡ pos 64)
    × (bound (ask (Hot (pos 300)) None) (series Tmax ((pos 18444, pos 300) ∷ (pos 18445, pos 310)
    ∷ (pos 18446, pos 299) ∷ (pos 18447, pos 305) ∷ [])) ≡ pos 32)
    × (bound (ask (Hot (pos 400)) None) (series Tmax ((pos 18444, pos 300) ∷ [])) ≡ pos 0)
unfolding run_from
hot_blocks = (refl, refl, refl)

-- cold days of one block, by its least value and not by its greatest, of two blocks, and none
cold_blocks : (bound (ask (Cold (neg_ℤ (pos 100))) None) (series Tmin ((pos 18262, neg_ℤ (pos 100))
    ∷ (pos 18263, neg_ℤ (pos 105)) ∷ (pos 18264, neg_ℤ (pos 99)) ∷ (pos 18265, neg_ℤ (pos 110)) ∷ [])) ≡ pos 32)
    × (bound (ask (Cold (pos 0)) None) (series Tmin ((pos 18463, pos 0) ∷ (pos 18464, neg_ℤ (pos 1)) ∷ [])) ≡ pos 64)
    × (bound (ask (Cold (neg_ℤ (pos 1))) None) (series Tmin ((pos 18444, pos 0) ∷ [])) ≡ pos 0)
unfolding run_from
cold_blocks = (refl, refl, refl)

-- Worked plans, runs and answers, by computation.
use Rattle.rank_sched.proofs.Cited.{◌≡◌, ℕ, List, [], ◌∷◌, ◌++◌, refl, Some, None, Option, true, false, Bool, map}
use Rattle.rank_sched.proofs.Cited.{codes, ℤ, pos, flat_map, option_map, StationId, Station, Tmax, station_of, DayValue, Series}
use Rattle.rank_sched.proofs.Cited.{Data, Highest, Query, top, best_of_query, Record, Line, Event, Claim, Look}
use Rattle.rank_sched.proofs.Cited.{Settle, StepFault, NoWorker, NotNow, Morsel, Plan, planned, measures, task_of}
use Rattle.rank_sched.proofs.Cited.{State, started, refusal, replayed, all_stopped, taken_back, lines_of, best_of_plan}

-- ---- the data of the worked runs

-- the first of three stations
abbrev pub alpha : Station
alpha = station_of (codes "ZZA00000001  10.0000   20.0000  100.0    ALPHA")

-- the second
abbrev pub bravo : Station
bravo = station_of (codes "ZZA00000002  11.0000   21.0000  100.0    BRAVO")

-- the third
abbrev pub charlie : Station
charlie = station_of (codes "ZZA00000003  12.0000   22.0000  100.0    CHARLIE")

-- the ID of the first
abbrev pub a : StationId
a = record { 0 = codes "ZZA00000001" }

-- the ID of the second
abbrev pub b : StationId
b = record { 0 = codes "ZZA00000002" }

-- the ID of the third
abbrev pub c : StationId
c = record { 0 = codes "ZZA00000003" }

-- a series of highest temperatures
abbrev pub warm : StationId → List DayValue → Series
warm id days = record { id = id; element = Tmax; days = days }

-- three stations, of which these are the values on 2020-07-01, and on 2020-07-02 the first has one more
abbrev pub of_three : ℤ → ℤ → ℤ → Data
of_three x y z = record {
  stations = alpha ∷ bravo ∷ charlie ∷ [];
  series = warm a ((pos 18444, x) ∷ []) ∷ warm b ((pos 18444, y) ∷ []) ∷ warm c ((pos 18444, z) ∷ []) ∷ [];
  unlisted = 0;
}

-- two stations that reached 31.1 degrees on one day, and one that reached 25.0
abbrev pub dataset : Data
dataset = record {
  stations = alpha ∷ bravo ∷ charlie ∷ [];
  series = warm a ((pos 18444, pos 311) ∷ (pos 18445, pos 305) ∷ []) ∷ warm b ((pos 18444, pos 311) ∷ []) ∷ warm c
      ((pos 18444, pos 250) ∷ []) ∷ [];
  unlisted = 0;
}

-- one station that has no series
abbrev pub nothing : Data
nothing = record { stations = alpha ∷ []; series = []; unlisted = 0 }

-- the k highest temperatures, anywhere and at any time
abbrev pub ask : ℕ → Query
ask k = top k (Highest Tmax)

-- the highest k of the three stations
abbrev pub plan : ℕ → Plan
plan k = planned (ask k) dataset

-- ---- plans

-- the stations of a plan, in the order in which their morsels are drawn
ids : Plan → List StationId
ids p = map (λ (m : Morsel). m.series.id) p.morsels

-- the bounds of a plan's morsels, in that order
bounds : Plan → List ℤ
bounds p = map (λ (m : Morsel). m.bound) p.morsels

-- the bounds of all stations
bounds_of_stations : Query → Data → List (Option ℤ)
bounds_of_stations q c = map (λ found. option_map (λ (m : Morsel). m.bound) found) (measures q c)

-- ties by ID
by_id : (ids (plan 1) ≡ a ∷ b ∷ c ∷ []) × (bounds (plan 1) ≡ pos 311 ∷ pos 311 ∷ pos 250 ∷ []) ×
    (bounds_of_stations (ask 1) dataset ≡ Some (pos 311) ∷ Some (pos 311) ∷ Some (pos 250) ∷ [])
unfolding ids bounds bounds_of_stations
by_id = (refl, refl, refl)

-- by falling bound
by_bound : (ids (planned (ask 1) (of_three (pos 250) (pos 311) (pos 300))) ≡ b ∷ c ∷ a ∷ []) ×
    (bounds_of_stations (ask 1) (of_three (pos 250) (pos 311) (pos 300)) ≡ Some (pos 250) ∷ Some (pos 311) ∷
    Some (pos 300) ∷ [])
unfolding ids bounds bounds_of_stations
by_bound = (refl, refl)

-- a station without a series isn't a morsel
none_there : (ids (planned (ask 1) nothing) ≡ []) × (measures (ask 1) nothing ≡ None ∷ [])
unfolding ids
none_there = (refl, refl)

-- the best of the plan's candidates are the query's
best_there : (best_of_plan (plan 2) ≡ best_of_query (ask 2) dataset) ×
    (best_of_plan (planned (ask 2) (of_three (pos 250) (pos 311) (pos 300))) ≡ best_of_query (ask 2)
    (of_three (pos 250) (pos 311) (pos 300)))
best_there = (refl, refl)

-- ---- runs

-- what is left of a replay: the state, how many events were accepted, and why the next was refused
abbrev pub Left : Type 0
Left = State × ℕ × Option StepFault

-- what is left of some workers' run over a plan by these events
abbrev pub run : Plan → ℕ → Option ℤ → List Event → Left
run p workers guess es = replayed (task_of p) 0 (started (task_of p) workers guess) es

-- all that the workers have written down, worker after worker
abbrev pub records_in : Left → List Record
records_in r = flat_map (λ v. v.records) (r.0).workers

-- a line of an answer
abbrev pub line : StationId → ℤ → Bool → Line
line id bound skipped = record { id = id; bound = bound; skipped = skipped }

-- one turn of a worker: it claims, looks and settles
abbrev pub turn : ℕ → List Event
turn w = Claim w ∷ Look w ∷ Settle w ∷ []

-- one worker's events over three morsels, with the claim that stops it
abbrev pub three_turns : List Event
three_turns = turn 0 ++ turn 0 ++ turn 0 ++ Claim 0 ∷ []

-- the run of one worker that looks for the highest k of the three stations
abbrev pub alone : ℕ → Option ℤ → Left
alone k guess = run (plan k) 1 guess three_turns

-- the lines of the answer of such a run
abbrev pub lines_after : ℕ → Left → List Line
lines_after k r = lines_of (plan k) (records_in r)

-- how many of its skips are undone
abbrev pub back_after : ℕ → Left → ℕ
back_after k r = taken_back (task_of (plan k)) (records_in r)

-- the lines of the query for one
abbrev pub one_skipped : List Line
one_skipped = line a (pos 311) false ∷ line b (pos 311) false ∷ line c (pos 250) true ∷ []

-- the lines if no skip stays
abbrev pub none_skipped : List Line
none_skipped = line a (pos 311) false ∷ line b (pos 311) false ∷ line c (pos 250) false ∷ []

-- one worker, ten events
one_worker : (all_stopped ((alone 1 None).0).workers ≡ true) × ((alone 1 None).1 ≡ 10) × ((alone 1 None).2 ≡ None) ×
    (lines_after 1 (alone 1 None) ≡ one_skipped) × (back_after 1 (alone 1 None) ≡ 0)
one_worker = (refl, refl, refl, refl, refl)

-- a floor that one worker raised reaches the other, whose own k-th score is lower
floor_is_shared : records_in (run (planned (ask 1) (of_three (pos 311) (pos 300) (pos 300))) 2 None
    (Claim 0 ∷ Claim 1 ∷ Look 0 ∷ Look 1 ∷ Settle 1 ∷ Settle 0 ∷ turn 1 ++ Claim 0 ∷ Claim 1 ∷ []))
    ≡ record { morsel = 0; worker = 0; seen = None; skipped = false } ∷
    record { morsel = 1; worker = 1; seen = None; skipped = false } ∷
    record { morsel = 2; worker = 1; seen = Some (pos 311); skipped = true } ∷ []
floor_is_shared = refl

-- a guess that is the k-th score: one morsel is skipped, and no skip is undone
right_guess : (lines_after 1 (alone 1 (Some (pos 311))) ≡ one_skipped) × (back_after 1 (alone 1 (Some (pos 311))) ≡ 0)
right_guess = (refl, refl)

-- a guess above the k-th score: two of three skips are undone
high_guess : (lines_after 1 (alone 1 (Some (pos 1000))) ≡ one_skipped) ×
    (back_after 1 (alone 1 (Some (pos 1000))) ≡ 2)
high_guess = (refl, refl)

-- a guess while there are fewer than k candidates: the one skip is undone
guess_for_ten : (lines_after 10 (alone 10 (Some (pos 300))) ≡ none_skipped) ×
    (back_after 10 (alone 10 (Some (pos 300))) ≡ 1)
guess_for_ten = (refl, refl)

-- equal bounds are all scanned
equal_bounds : lines_of (planned (ask 2) (of_three (pos 311) (pos 311) (pos 311)))
    (records_in (run (planned (ask 2) (of_three (pos 311) (pos 311) (pos 311))) 1 None three_turns))
    ≡ line a (pos 311) false ∷ line b (pos 311) false ∷ line c (pos 311) false ∷ []
equal_bounds = refl

-- two workers whose turns overlap
abbrev pub mixed : Left
mixed = run (plan 1) 2 None (Claim 0 ∷ Look 0 ∷ Claim 1 ∷ Look 1 ∷ Settle 1 ∷ Settle 0 ∷ turn 0 ++ Claim 0 ∷ Claim 1 ∷
    [])

-- they draw five numbers in eleven events, and leave the lowest station out
two_workers : (all_stopped (mixed.0).workers ≡ true) × (mixed.1 ≡ 11) × (lines_after 1 mixed ≡ one_skipped) ×
    ((mixed.0).next ≡ 5) × ((mixed.0).floor ≡ Some (pos 311))
two_workers = (refl, refl, refl, refl, refl)

-- two workers that take turns
abbrev pub by_turns : Left
by_turns = run (plan 1) 2 None (turn 0 ++ turn 1 ++ turn 1 ++ Claim 0 ∷ Claim 1 ∷ [])

-- they end after as many events with the same lines
in_turn : (all_stopped (by_turns.0).workers ≡ true) × (by_turns.1 ≡ 11) × (lines_after 1 by_turns ≡ one_skipped)
in_turn = (refl, refl, refl)

-- three workers that all look before one settles
abbrev pub at_once : Left
at_once = run (plan 1) 3 None (Claim 0 ∷ Claim 1 ∷ Claim 2 ∷ Look 0 ∷ Look 1 ∷ Look 2 ∷ Settle 2 ∷ Settle 1 ∷ Settle 0
    ∷ Claim 0 ∷ Claim 1 ∷ Claim 2 ∷ [])

-- none of them sees a floor, so nothing is skipped
three_workers : (all_stopped (at_once.0).workers ≡ true) × (at_once.1 ≡ 12) × (lines_after 1 at_once ≡ none_skipped)
three_workers = (refl, refl, refl)

-- the greatest bound is drawn first, and the lines are in the order of IDs
falling : lines_of (planned (ask 1) (of_three (pos 250) (pos 311) (pos 300)))
    (records_in (run (planned (ask 1) (of_three (pos 250) (pos 311) (pos 300))) 1 None three_turns))
    ≡ line a (pos 250) true ∷ line b (pos 311) false ∷ line c (pos 300) true ∷ []
falling = refl

-- what is seen and skipped, morsel by morsel
falling_records : records_in (run (planned (ask 1) (of_three (pos 311) (pos 300) (pos 250))) 1 None three_turns)
    ≡ record { morsel = 0; worker = 0; seen = None; skipped = false } ∷
    record { morsel = 1; worker = 0; seen = Some (pos 311); skipped = true } ∷
    record { morsel = 2; worker = 0; seen = Some (pos 311); skipped = true } ∷ []
falling_records = refl

-- no morsels
abbrev pub no_morsels : Left
no_morsels = run (planned (ask 1) nothing) 2 None (Claim 0 ∷ Claim 1 ∷ [])

-- each worker stops at its first claim, and the answer is empty
ends_at_once : (all_stopped (no_morsels.0).workers ≡ true) × (no_morsels.1 ≡ 2) ×
    (best_of_plan (planned (ask 1) nothing) ≡ []) × (lines_of (planned (ask 1) nothing) (records_in no_morsels) ≡ [])
ends_at_once = (refl, refl, refl, refl)

-- two workers that have done nothing
abbrev pub at_start : State
at_start = started (task_of (plan 1)) 2 None

-- at the start a worker may claim and may not look, and there is no third one
refused : (refusal at_start (Look 0) ≡ Some (NotNow 0)) × (refusal at_start (Claim 2) ≡ Some (NoWorker 2)) ×
    (refusal at_start (Look 2) ≡ Some (NoWorker 2)) × (refusal at_start (Claim 0) ≡ None)
refused = (refl, refl, refl, refl)

-- a worker that has claimed may neither claim again nor settle
refused_later : ((run (plan 1) 2 None (Claim 0 ∷ Claim 0 ∷ [])).1 ≡ 1) ×
    ((run (plan 1) 2 None (Claim 0 ∷ Claim 0 ∷ [])).2 ≡ Some (NotNow 0))
    × ((run (plan 1) 2 None (Claim 0 ∷ Settle 0 ∷ [])).1 ≡ 1) ×
    ((run (plan 1) 2 None (Claim 0 ∷ Settle 0 ∷ [])).2 ≡ Some (NotNow 0))
refused_later = (refl, refl, refl, refl)

-- a worker that stopped has no next event
stopped_refuses : ((run (planned (ask 1) nothing) 1 None (Claim 0 ∷ Claim 0 ∷ [])).1 ≡ 1) ×
    ((run (planned (ask 1) nothing) 1 None (Claim 0 ∷ Claim 0 ∷ [])).2 ≡ Some (NotNow 0))
stopped_refuses = (refl, refl)

use Rattle.rank_sched.proofs.Cited.{◌≡◌, take, map, filter_map}
use Rattle.rank_sched.specs.Plan as plan
use Rattle.rank_sched.proofs.plan.morsels_of.Given as goal

-- the morsels of the stations so far
abbrev pub invariant-loop-place : goal.invariant-loop-place
invariant-loop-place l =
    map plan.planned_morsel l.morsels.items ≡ filter_map (plan.measured_at l.query l.dataset)
    (take l.place l.dataset.stations)

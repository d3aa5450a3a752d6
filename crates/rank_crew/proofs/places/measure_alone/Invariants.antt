use Rattle.std.proofs.Common.{◌≡◌, map}
use Rattle.rank_sched.specs.Plan.{found_among}
use Rattle.rank_crew.specs.Places.{elements_between}
use Rattle.rank_crew.proofs.places.measure_alone.Given as goal

-- the morsels so far are those of the places so far
abbrev pub invariant-loop-place : goal.invariant-loop-place
invariant-loop-place g l = record {
  so_far : map g.P.Places.seen l.found.items ≡ found_among (elements_between l.from l.place (g.P.Places.morsels l.places));
}

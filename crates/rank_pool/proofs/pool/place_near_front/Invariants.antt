use Rattle.std.proofs.Common.{◌-◌, ◌<◌}
use Rattle.rank_pool.proofs.Searches.{IsBetween}
use Rattle.rank_pool.proofs.pool.place_near_front.Given as goal

-- the place is between the two, and not before the first one
abbrev pub invariant-loop-low : goal.invariant-loop-low
invariant-loop-low l = record {
  between : IsBetween l.candidate l.held.items l.low l.high;
  some : 0 < l.low;
}

-- they come nearer to each other
abbrev pub decreases-loop-low : goal.decreases-loop-low
decreases-loop-low l = l.high - l.low

use Rattle.std.proofs.Common.{◌≡◌, length}
use Rattle.rank_scores.specs.Stretches.{admitted_among, IsStretch}
use Rattle.rank_scores.proofs.admitted.next_part.Given as goal

-- the admitted days to come are those that there were at first, and the stretch is one of the days to come
abbrev pub invariant-loop-day : goal.invariant-loop-day
invariant-loop-day l = record {
  left : admitted_among l.query l.days ≡ admitted_among l.query l.initial.days;
  stretch : IsStretch l.query l.days l.stretch;
}

-- each part takes a day at least
abbrev pub decreases-loop-day : goal.decreases-loop-day
decreases-loop-day l = length l.days

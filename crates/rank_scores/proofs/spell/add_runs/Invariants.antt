use Rattle.std.proofs.Common.{length}
use Rattle.rank_scores.specs.Spells.{spell_in, EndAlike}
use Rattle.rank_scores.proofs.spell.add_runs.Given as goal

-- once the days that are left come too, the sink will have taken the same
abbrev pub invariant-loop-first : goal.invariant-loop-first
invariant-loop-first g l =
    EndAlike g.S.Sink.taken l.id (l.fn.sink, (spell_in l.fn.run, l.fn.part)) (l.sink, (spell_in l.run, l.part))

-- each run takes a day at least
abbrev pub decreases-loop-first : goal.decreases-loop-first
decreases-loop-first g l = length l.part

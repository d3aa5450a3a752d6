use Rattle.rank_sched.proofs.Cited.{◌≡◌, map, take, enumerate_from, marked_line}
use Rattle.rank_sched.proofs.ended.lines_of.Given as goal

-- the lines of the morsels so far
abbrev pub invariant-loop-morsel : goal.invariant-loop-morsel
invariant-loop-morsel l = l.lines.items ≡ map (marked_line l.skips) (enumerate_from 0 (take l.morsel l.plan.morsels))

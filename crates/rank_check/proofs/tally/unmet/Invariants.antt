use Rattle.std.proofs.Common.{◌≡◌, take, map}
use Rattle.rank_check.specs.Marks.{unmet}
use Rattle.rank_check.proofs.tally.unmet.Given as goal

-- the marks so far
abbrev pub invariant-loop-candidate : goal.invariant-loop-candidate
invariant-loop-candidate l = l.marks.items ≡ map unmet (take l.candidate-index l.ordered)

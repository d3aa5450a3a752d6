use Rattle.std.proofs.Common.{◌≡◌, take}
use Rattle.ghcn_series.specs.Says.{in_64_bits}
use Rattle.rank_check.specs.Marks.{counted}
use Rattle.rank_check.proofs.tally.counted.Given as goal

-- what was counted at the marks so far
abbrev pub invariant-loop-mark : goal.invariant-loop-mark
invariant-loop-mark l = l.ahead ≡ in_64_bits (counted (take l.mark-index l.marks))

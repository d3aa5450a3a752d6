use Rattle.std.proofs.Common.{◌≡◌, length}
use Rattle.rank_input.proofs.shares.sizes_of.Given as goal

-- there is a size of each path so far
abbrev pub invariant-loop-path : goal.invariant-loop-path
invariant-loop-path g l = length l.sizes.items ≡ l.path-index

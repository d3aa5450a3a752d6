use Rattle.std.proofs.Common.{◌≡◌, ◌++◌, length}
use Rattle.rank_input.specs.Shares.{paths_of}
use Rattle.rank_input.proofs.claimed.shares_of.Given as goal

-- the shares so far, and the rest, are all paths; each path of the rest has a size
abbrev pub invariant-loop-rest : goal.invariant-loop-rest
invariant-loop-rest g l = record {
  all : paths_of l.shares.items ++ l.rest ≡ l.paths;
  sizes : length l.rest_sizes ≡ length l.rest;
}

-- each share takes files from the rest
abbrev pub decreases-loop-rest : goal.decreases-loop-rest
decreases-loop-rest g l = length l.rest

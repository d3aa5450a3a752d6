use Rattle.std.proofs.Common.{ℕ, List, take}
use Rattle.ghcn_description.specs.Described.{CountSmallest}
use Rattle.ghcn_description.proofs.JoinedCodes.{HasCounted}
use Rattle.ghcn_description.proofs.others.Others.join.Given as goal

-- the lines of the codes so far are counted
abbrev pub invariant-loop-count : goal.invariant-loop-count
invariant-loop-count l = (f : List ℕ → ℕ) (all : ℕ)
    → CountSmallest f all l.initial.self.counts.items l.initial.self.further
    → HasCounted f all (take l.count-index l.next.counts.items) l.self

use Rattle.std.proofs.Common.{◌≡◌, take, fold}
use Rattle.rank_pool.specs.Pools.{taken}
use Rattle.rank_pool.proofs.pool.Pool.merge.Given as goal

-- the candidates so far were offered
abbrev pub invariant-loop-candidate : goal.invariant-loop-candidate
invariant-loop-candidate l = l.self ≡ fold taken l.fn.self (take l.candidate-index l.candidate-items)

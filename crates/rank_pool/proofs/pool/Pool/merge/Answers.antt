use Rattle.std.proofs.Common.{◌≡◌, ◌++◌, ◌∙◌, fold, ap, sym, subst, arith}
use Rattle.std.proofs.lemmas.List.{take_all}
use Rattle.rank_pool.specs.Pools.{Pool, taken, HoldsFirst}
use Rattle.rank_pool.proofs.Places.{holds-merged}
use Rattle.rank_pool.proofs.pool.Pool.merge.Goals as goal

-- what the other holds was offered
pub returns-clause-all : goal.returns-clause-all
returns-clause-all c = λ xs ys h g.
    let all : c.loop-candidate.self ≡ fold taken c.args.self.now c.args.other.held =
    c.loop-candidate.invariant
    ∙ ap (fold taken c.args.self.now)
    (take_all c.loop-candidate.candidate-index _ (omega (arith, c.loop-candidate-test.false))
    ∙ c.as_slice-candidate-items.ensures.value ∙ c.into_sorted-theirs.ensures.held) in
    subst (λ (p : Pool). HoldsFirst p (xs ++ ys)) (sym all)
    (holds-merged c.args.self.now c.args.other xs ys c.requires h g)

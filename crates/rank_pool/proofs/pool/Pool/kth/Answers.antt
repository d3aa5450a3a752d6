use Rattle.std.proofs.Common.{◌∙◌, ◌<◌, ap, sym, subst}
use Rattle.rank_pool.specs.Pools.{Pool, last_score}
use Rattle.rank_pool.proofs.Offers.{last_is_kth}
use Rattle.rank_pool.proofs.Ranked.{kth_score-kth}
use Rattle.rank_pool.proofs.pool.Pool.kth.Goals as goal

-- of candidates that are apart, rank and place agree
pub returns-clause-ranked : goal.returns-clause-ranked
returns-clause-ranked c = λ xs apart h.
    let some : 0 < c.args.self.now.size = subst (λ (p : Pool). 0 < p.size) c.self.view_is c.self.invariant.0.some in
    c.self.invariant.1 ∙ ap (λ (p : Pool). last_score p) c.self.view_is ∙ last_is_kth c.args.self.now xs some h
    ∙ sym (kth_score-kth c.args.self.now.size xs apart)

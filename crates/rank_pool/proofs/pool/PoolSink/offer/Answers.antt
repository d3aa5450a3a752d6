use Rattle.std.proofs.Common.{◌≡◌, ◌∙◌, sym, subst, true, FitsSigned, w64, to_z-of_z, rules}
use Rattle.std.specs.Prelude.{int_lt}
use Rattle.rank_pool.specs.Pools.{Pool, taken}
use Rattle.rank_pool.proofs.Places.{holds_taken}
use Rattle.rank_pool.proofs.Offers.{falls_out}
use Rattle.rank_pool.proofs.pool.PoolSink.offer.Goals as goal

-- what scores below the last place is dropped
pub returns-in-Some-clause-taken : goal.returns-in-Some-clause-taken
returns-in-Some-clause-taken c =
    let held : Pool = record { size = c.self.inside.size; held = c.self.inside.held.items } in
    let own : FitsSigned w64 c.args.candidate.score = search rules in
    let lasts : FitsSigned w64 c.in-Some.last = search rules in
    let low : int_lt c.args.candidate.score c.in-Some.last ≡ true =
    rw (to_z-of_z own, to_z-of_z lasts) at c.if-candidate-last.true in
    let same : held ≡ taken held c.args.candidate = falls_out held c.args.candidate c.in-Some.last c.self.invariant.0
    (sym c.self.invariant.1 ∙ c.in-Some.is) low in
    subst (λ (p : Pool). p ≡ taken p c.args.candidate) c.self.view_is same

-- and what is held is still the first
pub returns-in-Some-clause-all : goal.returns-in-Some-clause-all
returns-in-Some-clause-all c = λ xs h. holds_taken _ _ xs c.args.candidate (returns-in-Some-clause-taken c) h

-- the same if it comes before all others
pub returns-in-Some-2-clause-all : goal.returns-in-Some-2-clause-all
returns-in-Some-2-clause-all c = λ xs h. holds_taken _ _ xs c.args.candidate c.lead.ensures h

-- and if it takes its place
pub returns-in_default-clause-all : goal.returns-in_default-clause-all
returns-in_default-clause-all c = λ xs h. holds_taken _ _ xs c.args.candidate c.place.ensures h

use Rattle.std.proofs.Common.{◌≡◌, ◌+◌, ◌∙◌, ap, List, take, arith}
use Rattle.std.specs.VecDeque.{deque_len}
use Rattle.ghcn_fields.specs.Sorting.{placed}
use Rattle.rank_scores.specs.declared.candidate.Candidate.{Candidate}
use Rattle.rank_pool.specs.First.{comes_first}
use Rattle.rank_pool.specs.Pools.{Pool, IsPool, taken}
use Rattle.rank_pool.proofs.Offers.{still_pool, was_ok}
use Rattle.rank_pool.proofs.pool.Pool.place.Goals.{After-cut}
use Rattle.rank_pool.proofs.pool.Pool.place.Goals as goal

-- what is held then: there was room, and what comes after the last place was dropped
held_then : (c : After-cut) → c.cut.new.held.items
    ≡ take c.self.inside.size (placed comes_first c.args.candidate c.self.inside.held.items)
held_then c =
    let pool : IsPool (record { size = c.self.inside.size; held = c.self.inside.held.items }) = c.self.invariant.0 in
    let put = was_ok _ _ c.insert.result c.insert.ensures.items c.insert.ensures.full
    (λ full. omega (arith, full, pool.few, c.self.invariant.2, c.self.inside.held.ok.0)) in
    c.cut.ensures.items ∙ ap (take c.self.inside.size) (put ∙ c.place_of-place.ensures.placed)

-- it is a pool again, and its last score is the one that it keeps
pub invariant_of-self : goal.invariant_of-self
invariant_of-self c = (
  still_pool (record { size = c.self.inside.size; held = c.self.inside.held.items }) c.args.candidate
      c.cut.new.held.items c.self.invariant.0 (held_then (goal.at.invariant_of-self c).After-cut),
  c.score_at-self-inside.ensures,
  omega (arith, c.cut.ensures.capacity, c.insert.ensures.capacity, c.self.invariant.2),
)

-- the candidate took its place, and the last was dropped
pub returns : goal.returns
returns c =
    ap (λ (l : List Candidate). record { size = c.self.inside.size; held = l })
    (held_then (goal.at.returns c).After-cut)
    ∙ ap (λ (p : Pool). taken p c.args.candidate) c.self.view_is

-- it was put among no more candidates than there are places
pub cut-requires : goal.cut-requires
cut-requires c =
    let pool : IsPool (record { size = c.self.inside.size; held = c.self.inside.held.items }) = c.self.invariant.0 in
    let more : deque_len c.insert.new.self ≡ deque_len c.self.inside.held + 1 =
    was_ok _ _ c.insert.result c.insert.ensures.len c.insert.ensures.full
    (λ full. omega (arith, full, pool.few, c.self.invariant.2, c.self.inside.held.ok.0)) in
    omega (arith, more, pool.few, c.self.inside.held.ok.0)

use Rattle.std.proofs.Common.{◌≡◌, ◌∙◌, ◌∷◌, ◌-◌, ◌<◌, ap, sym, subst, List, take, length, arith}
use Rattle.std.specs.VecDeque.{deque_len, deque_capacity}
use Rattle.std.proofs.lemmas.List.{length-take}
use Rattle.ghcn_fields.specs.Sorting.{placed}
use Rattle.rank_scores.specs.declared.candidate.Candidate.{Candidate}
use Rattle.rank_pool.specs.First.{comes_first}
use Rattle.rank_pool.specs.Pools.{Pool, IsPool}
use Rattle.rank_pool.proofs.Offers.{take_first, still_pool, is_put}
use Rattle.rank_pool.proofs.pool.Pool.lead.Goals as goal

-- it is a pool again, and its last score is the one that it keeps
pub invariant_of-self : goal.invariant_of-self
invariant_of-self c =
    let size = c.self.inside.size in
    let held = c.self.inside.held.items in
    let pool : IsPool (record { size = c.self.inside.size; held = c.self.inside.held.items }) = c.self.invariant.0 in
    let full : length held ≡ size =
    subst (λ (p : Pool). length p.held ≡ p.size) (sym c.self.view_is) c.requires.full in
    let first : placed comes_first c.args.candidate held ≡ c.args.candidate ∷ held =
    subst (λ (p : Pool). placed comes_first c.args.candidate p.held ≡ c.args.candidate ∷ p.held)
    (sym c.self.view_is) c.requires.first in
    let many : deque_len c.self.inside.held ≡ size = omega (arith, full, c.self.inside.held.ok.0) in
    let kept : c.pop_back.new.self.items ≡ take (size - 1) held =
    c.pop_back.ensures.rest ∙ ap (λ n. take (n - 1) held) many in
    let room : deque_len c.pop_back.new.self < deque_capacity c.pop_back.new.self = omega (
      arith,
      ap length kept,
      length-take (size - 1) held,
      c.pop_back.new.self.ok.0,
      c.pop_back.ensures.capacity,
      c.self.invariant.2,
    ) in
    let put = is_put _ _ _ c.push_front.result c.push_front.ensures.items (c.push_front.ensures.succeeds room) in
    let new : c.push_front.new.self.items ≡ take size (placed comes_first c.args.candidate held) =
    put ∙ ap (λ (l : List Candidate). c.args.candidate ∷ l) kept ∙ take_first size c.args.candidate held pool.some
    ∙ ap (take size) (sym first) in (
      still_pool (record { size = size; held = held }) c.args.candidate c.push_front.new.self.items pool new,
      c.score_at-self-inside.ensures,
      omega (arith, c.push_front.ensures.capacity, c.pop_back.ensures.capacity, c.self.invariant.2),
    )

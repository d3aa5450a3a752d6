use Rattle.std.proofs.Common.{◌≡◌, ◌-◌, ℕ, ap, sym, ◌∙◌, arith, take}
use Rattle.std.specs.VecDeque.{deque_len}
use Rattle.std.proofs.lemmas.List.{take_all}
use Rattle.rank_pool.proofs.pool.cut.Goals as goal

-- without one there are exactly as many as places
pub returns-then-len-size-clause-items : goal.returns-then-len-size-clause-items
returns-then-len-size-clause-items c =
    let one : deque_len c.args.held.now - 1 ≡ c.args.size =
    omega (arith, c.requires, c.len.ensures, c.if-len-size.true) in
    c.pop_back.ensures.rest ∙ ap (λ (n : ℕ). take n c.args.held.now.items) one

-- if there are no more none is dropped
pub returns-else-len-size-clause-items : goal.returns-else-len-size-clause-items
returns-else-len-size-clause-items c =
    sym (take_all c.args.size c.args.held.now.items
    (omega (arith, c.len.ensures, c.if-len-size.false, c.args.held.now.ok.0)))

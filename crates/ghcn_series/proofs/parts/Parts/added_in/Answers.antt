use Rattle.ghcn_series.proofs.Cited.{rules, arith, ◌≡◌, ◌∙◌, List, ℕ, ℤ, pos, get_or, [], sym, subst, w32, to_z, of_z}
use Rattle.ghcn_series.proofs.Cited.{to_z-of_z, get_or_default, Block, IsPacked, IsNewPart, JoinsPart, KeepsOrder}
use Rattle.ghcn_series.proofs.PartsInOrder.{StandsAt, part_in, stands, added-none, added-more, added-all, next-packed}
use Rattle.ghcn_series.proofs.PartsInOrder.{next-new}
use Rattle.ghcn_series.proofs.parts.Parts.added_in.Goals as goal
use Rattle.ghcn_series.proofs.parts.Parts.added_in.Goals.{After-index-in-loop-number}

-- nothing is added yet
pub loop-number-init : goal.loop-number-init
loop-number-init c = added-none _ _ c.requires.parts c.requires.order c.new-ordered.result c.new-ordered.ensures

-- the number is at its place
pub index-requires : goal.index-requires
index-requires c =
    let at = stands _ _ c.requires.order c.loop-number.number-index c.loop-number-test.true in
    omega (arith, at.in_range, c.requires.parts.blocks.enough_words)

-- and so do its values
pub index-requires-in-loop-number : goal.index-requires-in-loop-number
index-requires-in-loop-number c =
    let at = stands _ _ c.requires.order c.loop-number.number-index c.loop-number-test.true in
    omega (arith, at.in_range, c.requires.parts.blocks.enough_values)

-- what is added is the next part
the-part : (c : After-index-in-loop-number)
    → ◌≡◌ {A = Block} (
      to_z w32 (of_z w32 (get_or c.args.order.now c.loop-number.number-index (pos 0, 0)).0),
      (c.index.result.now, c.index-in-loop-number.result.now),
    ) (part_in c.args.self.now c.args.order.now c.loop-number.number-index)
the-part c =
    let ws : List ℕ = c.args.self.now.words.items in let vs : List (List ℤ) = c.args.self.now.values.items in
    let at : ℤ × ℕ = get_or c.args.order.now c.loop-number.number-index (pos 0, 0) in
    let there : StandsAt c.args.self.now.numbers.items at =
    stands _ _ c.requires.order c.loop-number.number-index c.loop-number-test.true in
    let near : to_z w32 (of_z w32 at.0) ≡ at.0 = to_z-of_z w32 at.0 (search rules) in
    let word : c.index.result.now ≡ get_or ws at.1 0 = c.index.ensures ∙ get_or_default ws at.1 c.index.result.now 0
    (omega (arith, there.in_range, c.requires.parts.blocks.enough_words)) in
    let row : c.index-in-loop-number.result.now ≡ get_or vs at.1 [] = c.index-in-loop-number.ensures
    ∙ get_or_default vs at.1 c.index-in-loop-number.result.now []
    (omega (arith, there.in_range, c.requires.parts.blocks.enough_values)) in
    rw (near, word, row)

-- it is as it may be
pub add_part-requires-clause-packed : goal.add_part-requires-clause-packed
add_part-requires-clause-packed c = λ some.
    subst IsPacked (sym (the-part (goal.at.add_part-requires-clause-packed c).After-index-in-loop-number))
    (next-packed _ _ c.requires.parts c.requires.order _ _ c.loop-number-test.true c.loop-number.invariant)

-- and new
pub add_part-requires-clause-fresh : goal.add_part-requires-clause-fresh
add_part-requires-clause-fresh c = subst (IsNewPart c.loop-number.ordered)
    (sym (the-part (goal.at.add_part-requires-clause-fresh c).After-index-in-loop-number))
    (next-new _ _ c.requires.parts c.requires.order _ _ c.loop-number-test.true c.loop-number.invariant)

-- one part more is added
pub loop-number-preserved : goal.loop-number-preserved
loop-number-preserved c =
    let is = the-part (goal.at.loop-number-preserved c).After-index-in-loop-number in
    let new = c.add_part.new.self in
    added-more _ _ c.requires.parts c.requires.order _ _ c.loop-number-test.true c.loop-number.invariant new
    c.in_ok-add_part.ensures.parts
    (subst (λ (b : Block). JoinsPart c.loop-number.ordered b new) is c.in_ok-add_part.ensures.joined)
    (subst (λ (b : Block). KeepsOrder c.loop-number.ordered b.0 new) is c.in_ok-add_part.ensures.order)

-- all are
pub returns-clause-days : goal.returns-clause-days
returns-clause-days c = added-all _ _ c.requires.parts c.requires.order c.loop-number.number-index c.loop-number.ordered
    (omega (arith, c.loop-number-test.false, c.loop-number.auto.number-index-end)) c.loop-number.invariant

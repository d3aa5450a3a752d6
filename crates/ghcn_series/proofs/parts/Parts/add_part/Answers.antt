use Rattle.ghcn_series.proofs.Cited.{arith, ◌≡◌, ◌∙◌, ◌-◌, List, true, ℤ, ℕ, pos, ◌++◌, ◌∷◌, get_or, length, sym, []}
use Rattle.ghcn_series.proofs.Cited.{w32, to_z, of_z, ◌==◌, ◌||◌, int_lt, to_z-of_z, and_parts, AreBlocks, days_held}
use Rattle.ghcn_series.proofs.PartsAdded.{add-none, push-blocks, push-days, push-rise}
use Rattle.ghcn_series.proofs.ApartParts.{pushed-apart}
use Rattle.ghcn_series.proofs.parts.Parts.add_part.Goals as goal

-- without a bit no day is joined
pub returns-then-word-eq0-clause-joined : goal.returns-then-word-eq0-clause-joined
returns-then-word-eq0-clause-joined c = add-none (days_held c.args.self.now) c.args.number c.args.word c.args.values.now
    c.if-word-eq0.true

-- a block more leaves the parts as they may be
pub returns-clause-parts : goal.returns-clause-parts
returns-clause-parts c =
    let ns : List ℤ = c.args.self.now.numbers.items in let ws : List ℕ = c.args.self.now.words.items in
    let vs : List (List ℤ) = c.args.self.now.values.items in
    let n : ℤ = c.args.number in let bs : AreBlocks ns ws vs = c.requires.parts.blocks in
    let near : to_z w32 (of_z w32 n) ≡ n = to_z-of_z w32 n c.ranges.number in
    let row : List ℤ = c.args.values.now in
    let numbers : c.push.new.self.items ≡ ns ++ n ∷ [] = rw near at c.in_ok-push.ensures.items in
    let values : c.push_reserved.new.self.items ≡ vs ++ row ∷ [] =
    rw c.reserve.ensures.items at c.push_reserved.ensures.items in record {
      blocks = rw (numbers, c.in_ok-push-2.ensures.items, values) (push-blocks ns ws vs bs n c.args.word row
          (c.requires.packed (omega (arith, c.if-word-eq0.false))));
      apart = rw (numbers, c.in_ok-push-2.ensures.items, values) (pushed-apart ns ws vs bs n c.args.word row
          c.requires.parts.apart c.requires.fresh);
      rise = λ ordered.
          let both = and_parts c.args.self.now.in_order c.is_after-rises.result ordered in
          let after : (length ns == 0 || int_lt (get_or ns (length ns - 1) (pos 0)) n) ≡ true =
          rw (c.deref-2.ensures.value, near) at (sym c.is_after-rises.ensures ∙ both.1) in
          rw numbers (push-rise ns n (c.requires.parts.rise both.0) after);
    }

-- its days are joined
pub returns-clause-joined : goal.returns-clause-joined
returns-clause-joined c =
    let n : ℤ = c.args.number in
    rw (c.in_ok-push.ensures.items, to_z-of_z w32 n c.ranges.number, c.in_ok-push-2.ensures.items)
    (rw (c.push_reserved.ensures.items, c.reserve.ensures.items)
    (push-days c.args.self.now.numbers.items c.args.self.now.words.items c.args.self.now.values.items
    c.requires.parts.blocks n c.args.word c.args.values.now))

use Rattle.std.proofs.Common.{◌≡◌, ℕ, length, refl, subst, ◌∙◌, Some}
use Rattle.std.proofs.lemmas.Iterator.Consumers.{YieldsList-from_first, YieldsList-turn}
use Rattle.std.proofs.lemmas.Option.{slice_get_read}
use Rattle.std.specs.List.{slice_get}
use Rattle.ghcn_fields.specs.Lines.{numbered_lines}
use Rattle.explanations.proofs.again.line_at.Goals as goal

-- the line that was yielded has the number that is looked for
pub returns-then-count-number : goal.returns-then-count-number
returns-then-count-number c =
    let listed = numbered_lines c.args.text.now in
    let given = YieldsList-from_first (λ item. (item.0, item.1.now)) (λ rest. rest) listed
    (c.into_iter-count-iterator.ensures.into_iter_gives ∙ c.lines-count-items.ensures) in
    let turn =
    YieldsList-turn given c.loop-count.yielded _ c.loop-count.yielded_by _ _ _ c.in-Some.is c.next.ensures.steps in
    record {
      place = length c.loop-count.yielded;
      there = subst (λ (n : ℕ). slice_get listed (length c.loop-count.yielded) ≡ Some (n, c.in-Some.line.now))
          c.if-count-number.true
          (slice_get_read listed _ _ (c.in-Some.count, c.in-Some.line.now) refl turn.0 turn.1);
    }

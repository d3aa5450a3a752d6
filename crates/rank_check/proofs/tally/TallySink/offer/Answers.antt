use Rattle.std.proofs.Common.{rules, ◌≡◌, false, ℤ, Some, to_z, of_z, w64, sym, ap, ◌∙◌}
use Rattle.rank_check.specs.Survey.{Tally, reaches, raised, tally_with}
use Rattle.rank_check.specs.Marks.{may_reach}
use Rattle.rank_check.proofs.Surveying.{rows-behind, low-behind}
use Rattle.rank_check.proofs.Marks.{rows-offered}
use Rattle.rank_check.proofs.tally.TallySink.offer.Goals as goal

-- a candidate that isn't after the last row is taken into account at the marks
pub returns-then-may_reach : goal.returns-then-may_reach
returns-then-may_reach c =
    let met =
    rows-offered c.self.inside.last c.args.candidate c.self.inside.marks.items c.meet.new.marks.items
    c.self.inside.rows.items c.self.invariant.behind c.self.invariant.marked c.meet.ensures.reached
    c.meet.ensures.behind in
    let back : to_z w64 (of_z w64 c.raised.result) ≡ c.raised.result = search rules in
    let own : to_z w64 (of_z w64 c.args.candidate.score) ≡ c.args.candidate.score = search rules in
    let highest = ap (λ (z : ℤ). Some z) (back ∙ c.raised.ensures ∙ ap (raised c.self.inside.highest) own) in
    (λ i. record { rows = met i; count = c.saturating_add-self-inside.ensures i; highest = highest i })
    ∙ ap (λ (t : Tally). tally_with t c.args.candidate) c.self.view_is

-- a candidate that scores less changes none
pub returns-else-may_reach : goal.returns-else-may_reach
returns-else-may_reach c =
    let own : to_z w64 (of_z w64 c.args.candidate.score) ≡ c.args.candidate.score = search rules in
    let low : reaches c.self.inside.last c.args.candidate ≡ false =
    low-behind c.self.inside.last c.args.candidate
    (ap (may_reach c.self.inside.last) (sym own) ∙ sym c.may_reach.ensures ∙ c.if-may_reach.false) in
    let same =
    sym (rows-behind c.self.inside.last c.args.candidate c.self.inside.marks.items c.self.inside.rows.items
    c.self.invariant.behind low) in
    let back : to_z w64 (of_z w64 c.raised.result) ≡ c.raised.result = search rules in
    let highest = ap (λ (z : ℤ). Some z) (back ∙ c.raised.ensures ∙ ap (raised c.self.inside.highest) own) in
    (λ i. record { rows = same i; count = c.saturating_add-self-inside.ensures i; highest = highest i })
    ∙ ap (λ (t : Tally). tally_with t c.args.candidate) c.self.view_is

use Rattle.std.proofs.Common.{◌≡◌, Bool, true, ◌||◌, sym, ap, ◌∙◌}
use Rattle.rank_check.specs.Marks.{is_met, is_met_before}
use Rattle.rank_check.proofs.Marks.{met-before}
use Rattle.rank_check.proofs.tally.is_met.Goals as goal

-- if its mark comes before its place it has one
pub returns-then-is_met_before : goal.returns-then-is_met_before
returns-then-is_met_before c =
    let marks = c.args.marks.now in
    let d = c.args.candidate.now in
    let there : is_met_before c.args.place marks d ≡ true = sym c.is_met_before.ensures ∙ c.if-is_met_before.true in
    c.if-is_met_before.true ∙ sym (ap (λ (b : Bool). b || is_met marks d) there) ∙ met-before c.args.place marks d

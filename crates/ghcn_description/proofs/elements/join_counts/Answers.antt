use Rattle.std.proofs.Common.{◌≡◌, ◌<◌, ℕ, length, get_or, arith, subst, ◌∙◌}
use Rattle.std.proofs.lemmas.List.{get_or_default}
use Rattle.ghcn_description.specs.declared.counts.ElementCounts.{ElementCounts}
use Rattle.ghcn_description.specs.Steps.{JoinsCounts}
use Rattle.ghcn_description.proofs.JoinedLines.{done-more}
use Rattle.ghcn_description.proofs.elements.join_counts.Goals as goal

-- one element more has what was counted on both
pub loop-at-preserved : goal.loop-at-preserved
loop-at-preserved c =
    let at : ℕ = c.loop-at.at in
    let lt : at < length c.loop-at.elements = omega arith in
    let within : at < length c.args.next.now = omega arith in
    done-more (λ i e. (d : ElementCounts) → JoinsCounts (get_or c.args.elements.now i d) (get_or c.args.next.now i d) e)
    at c.args.elements.now c.loop-at.elements c.join.new.self lt
    (λ d.
    let mine : ElementCounts = get_or c.loop-at.elements at c.index-elements-at.result in
    let first : mine ≡ get_or c.args.elements.now at d =
    get_or_default c.loop-at.elements at c.index-elements-at.result d lt
    ∙ c.loop-at.invariant.kept at (omega arith) d in
    subst (λ e. JoinsCounts e (get_or c.args.next.now at d) c.join.new.self) first
    (subst (λ e. JoinsCounts mine e c.join.new.self) (get_or_default c.args.next.now at c.index-next-at.result d within)
    c.in_ok-join.ensures))
    c.loop-at.invariant

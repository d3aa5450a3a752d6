use Rattle.std.proofs.Common.{◌≡◌, refl, List, Option, true, false, not, sym, ap, ◌∙◌, ℤ, ◌||◌}
use Rattle.std.specs.Option.{option_copied}
use Rattle.rank_scores.specs.declared.candidate.Candidate.{Candidate}
use Rattle.rank_scores.specs.Order.{bound_is_below}
use Rattle.rank_papers.specs.Papers.{candidates_of}
use Rattle.rank_check.specs.Pieces.{has_all}
use Rattle.rank_check.proofs.Failing.{is_low}
use Rattle.rank_check.proofs.Piecing.{last-by}
use Rattle.rank_check.proofs.QueryMembers.{so}
use Rattle.rank_check.proofs.pieces.line_fault.Goals as goal

-- a candidate is above the bound
pub returns-then-not-is_at_most : goal.returns-then-not-is_at_most
returns-then-not-is_at_most c =
    let rows : List Candidate = candidates_of c.args.rows.now in
    let worst : Option Candidate = option_copied c.args.worst in
    let all : has_all c.args.query.now (option_copied c.args.worst) (candidates_of c.args.rows.now) c.args.series.now
    ≡ true =
    so _ (ap (λ (o : Option Candidate). not (has_all c.args.query.now o (candidates_of c.args.rows.now)
    c.args.series.now)) (sym c.copied.ensures) ∙ sym c.reach-found.ensures.left_out ∙ c.if-found.false) in
    let above = ap (is_low c.args.line.now.bound) (sym c.reach-found.ensures.highest) ∙ sym c.is_at_most.ensures
    ∙ c.if-not-is_at_most.true in
    sym (last-by c.args.query.now c.args.series.now c.args.line.now rows worst true false _ all above refl)

-- a skip isn't below the k-th score
pub returns-then-not-may_stand : goal.returns-then-not-may_stand
returns-then-not-may_stand c =
    let rows : List Candidate = candidates_of c.args.rows.now in
    let worst : Option Candidate = option_copied c.args.worst in
    let all : has_all c.args.query.now (option_copied c.args.worst) (candidates_of c.args.rows.now) c.args.series.now
    ≡ true =
    so _ (ap (λ (o : Option Candidate). not (has_all c.args.query.now o (candidates_of c.args.rows.now)
    c.args.series.now)) (sym c.copied.ensures) ∙ sym c.reach-found.ensures.left_out ∙ c.if-found.false) in
    let above = ap (is_low c.args.line.now.bound) (sym c.reach-found.ensures.highest) ∙ sym c.is_at_most.ensures
    ∙ c.if-not-is_at_most.false in
    let low = ap (λ (o : Option ℤ). not c.args.line.now.skipped || bound_is_below o c.args.line.now.bound)
    (sym c.score_of.ensures) ∙ sym c.may_stand.ensures ∙ c.if-not-may_stand.true in
    sym (last-by c.args.query.now c.args.series.now c.args.line.now rows worst true true false all above low)

-- no test fails
pub returns : goal.returns
returns c =
    let rows : List Candidate = candidates_of c.args.rows.now in
    let worst : Option Candidate = option_copied c.args.worst in
    let all : has_all c.args.query.now (option_copied c.args.worst) (candidates_of c.args.rows.now) c.args.series.now
    ≡ true =
    so _ (ap (λ (o : Option Candidate). not (has_all c.args.query.now o (candidates_of c.args.rows.now)
    c.args.series.now)) (sym c.copied.ensures) ∙ sym c.reach-found.ensures.left_out ∙ c.if-found.false) in
    let above = ap (is_low c.args.line.now.bound) (sym c.reach-found.ensures.highest) ∙ sym c.is_at_most.ensures
    ∙ c.if-not-is_at_most.false in
    let low = ap (λ (o : Option ℤ). not c.args.line.now.skipped || bound_is_below o c.args.line.now.bound)
    (sym c.score_of.ensures) ∙ sym c.may_stand.ensures ∙ c.if-not-may_stand.false in
    sym (last-by c.args.query.now c.args.series.now c.args.line.now rows worst true true true all above low)

use Rattle.rank_query.proofs.Cited.{◌≡◌, rules, FitsSigned, to_z, of_z, to_z-of_z, w32, ℤ, pos, ◌-ℤ◌, ◌≤ℤ◌, refl}
use Rattle.rank_query.proofs.Cited.{IsTrue, arith, ints, is_day, neg_ℤ}
use Rattle.rank_query.proofs.Edges.{before_edge, far_edge, after_edge}
use Rattle.rank_query.proofs.season.days_on_one_side.Goals as goal
use Rattle.rank_query.proofs.season.days_on_one_side.Goals.{else-ahead-ge0-via-then-ahead-ge0+else-ahead-most}
use Rattle.rank_query.proofs.season.days_on_one_side.Goals.{else-ahead-ge0-via-else-ahead-ge0}

-- how many days are left before the edge, as it is computed
ahead_is : (number day read : ℤ) → neg_ℤ (pos 1_000_000) ≤ℤ number → number ≤ℤ pos 3_000_000 → IsTrue (is_day day)
    → read ≡ day → to_z w32 (of_z w32 (to_z w32 (of_z w32 (to_z w32 (of_z w32 number) -ℤ pos 1))
    -ℤ to_z w32 (of_z w32 read))) ≡ number -ℤ pos 1 -ℤ day
ahead_is number day read low high is same =
    let number-fits : FitsSigned w32 number = grind (arith, ints) in
    let before : FitsSigned w32 (number -ℤ pos 1) = grind (arith, ints) in
    let day-fits : FitsSigned w32 read = grind (arith, ints) in
    let ahead : FitsSigned w32 (number -ℤ pos 1 -ℤ day) = grind (arith, ints) in
    rw (to_z-of_z number-fits, to_z-of_z before, to_z-of_z day-fits, same, to_z-of_z ahead) refl

-- days before the edge
pub returns-then-ahead-most-clause-alike : goal.returns-then-ahead-most-clause-alike
returns-then-ahead-most-clause-alike c = λ d from to.
    let value = ahead_is c.args.number c.args.day c.number.result c.requires.low c.requires.high c.number.ensures.range
    c.number.ensures.value in
    before_edge c.args.number c.args.day d (rw value at c.if-ahead-ge0.true) (rw value at to)

-- all days, before an edge that is further away or after one
pub returns-clause-alike : goal.returns-clause-alike
returns-clause-alike c = λ d from to.
    let value = ahead_is c.args.number c.args.day c.number.result c.requires.low c.requires.high c.number.ensures.range
    c.number.ensures.value in
    let most : FitsSigned w32 c.args.most = search rules in
    elim c.else-ahead-ge0.branch [
      | else-ahead-ge0-via-then-ahead-ge0+else-ahead-most w ↦ far_edge c.args.number c.args.day c.args.most d
          (rw (value, to_z-of_z most) at w.if-ahead-most.false) (rw value at w.if-ahead-ge0.true)
          (rw (to_z-of_z most) at to)
      | else-ahead-ge0-via-else-ahead-ge0 w ↦ after_edge c.args.number c.args.day d (rw value at w.if-ahead-ge0.false)
          from
    ]

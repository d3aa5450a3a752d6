use Rattle.std.proofs.Common.{FitsSigned, w32, w64, arith, rules, refl, ℕ, ℤ, List, pos, ◌+ℤ◌, get_or, to_z, to_z-of_z}
use Rattle.std.proofs.lemmas.Int.{ints}
use Rattle.rank_scores.proofs.RowSums.{one_more}
use Rattle.rank_scores.proofs.window.sum_of.Goals as goal

-- one value more is added
pub loop-value-preserved : goal.loop-value-preserved
loop-value-preserved c =
    let values : List ℤ = c.args.values.now in
    let i : ℕ = c.loop-value.value-index in
    let v : ℤ = get_or values i (pos 0) in
    let s : ℤ = to_z w64 c.loop-value.sum-bits in
    let small : FitsSigned w32 v = search rules in
    let wide : FitsSigned w64 v = search rules in
    let next = one_more values i s v c.loop-value-test.true refl (grind (arith, ints)) (grind (arith, ints)) c.loop-value.invariant in
    let low = next.low in let high = next.high in
    let fits : FitsSigned w64 (s +ℤ v) = grind (arith, ints, c.requires) in
    rw (to_z-of_z small, to_z-of_z wide, to_z-of_z fits) next

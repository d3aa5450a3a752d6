use Rattle.rank_blocks.proofs.Cited.{◌<◌, length, get_or, pos, SFits, w32, ap, arith, rules, ints, drop_more, total}
use Rattle.rank_blocks.proofs.values.total.Goals as goal

-- with one more value
pub loop-value-preserved : goal.loop-value-preserved
loop-value-preserved c =
    let values = c.args.values.now in
    let i = c.loop-value.value-index in
    let within : i < length values = (let size = c.told-values in let lt = c.loop-value-test.true in omega arith) in
    let fits : SFits w32 (get_or values i (pos 0)) = search rules in
    let left = ap total (drop_more values i (pos 0) within) in
    record { low = omega (arith, ints); high = omega (arith, ints); whole = omega (arith, ints) }

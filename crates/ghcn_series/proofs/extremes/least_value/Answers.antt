use Rattle.ghcn_series.proofs.Cited.{arith, rules, ints, ◌≡◌, to_z, of_z, w32, neg_ℤ}
use Rattle.ghcn_series.proofs.BlockExtremes.{greatest-shown, greatest-alone}
use Rattle.ghcn_series.proofs.extremes.least_value.Goals as goal

-- no 0 is the least, or each day is usable
pub returns-then-word-eq4294967295 : goal.returns-then-word-eq4294967295
returns-then-word-eq4294967295 c =
    let z = c.least_number-least.result in
    let read : to_z w32 (of_z w32 z) ≡ z = omega (arith, ints) in
    rw read (greatest-shown neg_ℤ c.args.word c.args.values.now (neg_ℤ z) c.requires.zeros
    (grind (arith, ints, read)) c.least_number-least.ensures)

-- the usable days stand for the others
pub returns-else-word-eq4294967295 : goal.returns-else-word-eq4294967295
returns-else-word-eq4294967295 c = search (rules, arith, greatest-alone)

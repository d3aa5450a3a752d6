use Rattle.ghcn_series.proofs.Cited.{arith, rules, ints, ◌≡◌, to_z, of_z, w32}
use Rattle.ghcn_series.proofs.BlockExtremes.{greatest-shown, greatest-alone}
use Rattle.ghcn_series.proofs.extremes.greatest_value.Goals as goal

-- no 0 is the greatest, or each day is usable
pub returns-then-word-eq4294967295 : goal.returns-then-word-eq4294967295
returns-then-word-eq4294967295 c =
    let z = c.greatest_number-greatest.result in
    let read : to_z w32 (of_z w32 z) ≡ z = omega (arith, ints) in
    rw read (greatest-shown (λ v. v) c.args.word c.args.values.now z c.requires.zeros
    (grind (arith, ints, read)) c.greatest_number-greatest.ensures)

-- the usable days stand for the others
pub returns-else-word-eq4294967295 : goal.returns-else-word-eq4294967295
returns-else-word-eq4294967295 c = search (rules, arith, greatest-alone)

use Rattle.std.proofs.Common.{List, ℕ, get_or, arith, refl}
use Rattle.ghcn_fields.proofs.FieldLanes.{two_fields, sixteen_are}
use Rattle.ghcn_fields.proofs.lanes.good_columns.Goals as goal

-- there is a lane for each column
pub returns-clause-many : goal.returns-clause-many
returns-clause-many c = rw (sixteen_are c.args.columns.now (omega arith)) refl

-- the lanes say whether one of the two fields is bad
pub returns-clause-good : goal.returns-clause-good
returns-clause-good c =
    let xs : List ℕ = c.args.columns.now in
    let at = λ (j : ℕ). get_or xs j 0 in
    rw (sixteen_are xs (omega arith)) (two_fields (at 0) (at 1) (at 2) (at 3) (at 4) (at 5) (at 6) (at 7) (at 8) (at 9)
    (at 10) (at 11) (at 12) (at 13) (at 14) (at 15))

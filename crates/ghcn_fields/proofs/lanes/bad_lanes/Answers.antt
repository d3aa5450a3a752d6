use Rattle.std.proofs.Common.{List, ℕ, get_or, refl}
use Rattle.ghcn_fields.proofs.FieldLanes.{sixteen_are}
use Rattle.ghcn_fields.proofs.ClearLanes.{two_clear, byte_at}
use Rattle.ghcn_fields.proofs.lanes.bad_lanes.Goals as goal

-- there is a lane for each column
pub returns-clause-many : goal.returns-clause-many
returns-clause-many c = rw (sixteen_are c.args.bytes c.requires) refl

-- the lanes say whether one of the two fields is bad
pub returns-clause-bad : goal.returns-clause-bad
returns-clause-bad c =
    let xs : List ℕ = c.args.bytes in
    let at = λ (j : ℕ). get_or xs j 0 in
    let fits = byte_at xs c.fits-bytes.1 in
    rw (sixteen_are xs c.requires) (two_clear (at 0) (at 1) (at 2) (at 3) (at 4) (at 5) (at 6) (at 7) (at 8) (at 9)
    (at 10) (at 11) (at 12) (at 13) (at 14) (at 15) (fits 0) (fits 1) (fits 2) (fits 3) (fits 4) (fits 8) (fits 9)
    (fits 10) (fits 11) (fits 12))

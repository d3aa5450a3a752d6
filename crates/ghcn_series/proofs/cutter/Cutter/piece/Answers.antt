use Rattle.ghcn_series.proofs.Cited.{arith, ◌<◌, length, nat_tests}
use Rattle.ghcn_series.proofs.KeptFaults as kept
use Rattle.ghcn_series.proofs.cutter.Cutter.piece.Goals as goal

-- a piece that is looked at belongs to a file with a number
pub read-requires-clause-few : goal.read-requires-clause-few
read-requires-clause-few g c =
    let some : 0 < length c.args.bytes.now = grind (arith, nat_tests, c.if-is_empty.false, c.is_empty.ensures) in
    kept.piece-few c.args.self.now c.args.bytes.now some (rw c.if-is_reading.true at c.is_reading.ensures) c.requires

-- before it, lines were read
pub read-requires-clause-read : goal.read-requires-clause-read
read-requires-clause-read g c =
    let some : 0 < length c.args.bytes.now = grind (arith, nat_tests, c.if-is_empty.false, c.is_empty.ensures) in
    kept.piece-some c.args.self.now c.args.bytes.now some (rw c.if-is_reading.true at c.is_reading.ensures) c.requires

-- it is read
pub returns-then-is_reading-clause-fed : goal.returns-then-is_reading-clause-fed
returns-then-is_reading-clause-fed g c =
    let some : 0 < length c.args.bytes.now = grind (arith, nat_tests, c.if-is_empty.false, c.is_empty.ensures) in
    kept.takes-read c.args.self.now c.read.new.self c.args.bytes.now c.read.result c.err-self.result some
    (rw c.if-is_reading.true at c.is_reading.ensures) c.read.ensures.ended c.read.ensures.begun c.read.ensures.read
    c.read.ensures.fault c.err-self.ensures.value

-- and more can follow
pub returns-then-is_reading-clause-going : goal.returns-then-is_reading-clause-going
returns-then-is_reading-clause-going g c =
    kept.going-piece _ _ c.args.bytes.now (returns-then-is_reading-clause-fed g c) c.requires

-- or it is skipped
pub returns-else-is_reading-clause-fed : goal.returns-else-is_reading-clause-fed
returns-else-is_reading-clause-fed g c =
    let some : 0 < length c.args.bytes.now = grind (arith, nat_tests, c.if-is_empty.false, c.is_empty.ensures) in
    kept.takes-passed c.args.self.now c.args.bytes.now some (rw c.if-is_reading.false at c.is_reading.ensures)

-- and more can follow
pub returns-else-is_reading-clause-going : goal.returns-else-is_reading-clause-going
returns-else-is_reading-clause-going g c =
    kept.going-piece _ _ c.args.bytes.now (returns-else-is_reading-clause-fed g c) c.requires

use Rattle.std.proofs.Common.{arith}
use Rattle.std.specs.Prelude.{◌||◌}
use Rattle.ghcn_description.proofs.JoinedLines.{zipped}
use Rattle.ghcn_description.proofs.elements.join_station.Goals as goal

-- all marks are those of both
pub returns : goal.returns
returns c =
    zipped ◌||◌ c.args.marks.now c.args.others.now c.loop-at.marks (omega arith) c.loop-at.invariant.long
    (λ i lt d. c.loop-at.invariant.done i (omega (arith, lt)) d d)

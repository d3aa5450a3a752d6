use Rattle.std.proofs.Common.{arith}
use Rattle.std.specs.Prelude.{◌||◌}
use lib.Lanes.{zip2}
use Rattle.ghcn_description.proofs.JoinedLines.{zipped}
use Rattle.ghcn_description.proofs.elements.join_marks.Goals as goal

-- all stations have the marks of both
pub returns : goal.returns
returns c =
    zipped (zip2 ◌||◌) c.args.marks.now c.args.others.now c.loop-place.marks c.requires c.loop-place.invariant.long
    (λ i lt d. c.loop-place.invariant.done i (omega (arith, lt)) d d)

use Rattle.std.proofs.Common.{[], ◌∷◌}
use Rattle.extremes.proofs.PrintedLines.{lines-then}
use Rattle.extremes.proofs.print.refused_input.Goals as goal

-- the line of the error comes before that of its place
pub returns-clause-lines : goal.returns-clause-lines
returns-clause-lines g c =
    lines-then g.M.Messages.prints _ _ _ (_ ∷ []) _ c.refused-ending.ensures.line c.print_place.ensures

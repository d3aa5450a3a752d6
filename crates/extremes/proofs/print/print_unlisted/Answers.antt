use Rattle.extremes.proofs.PrintedLines.{line-alone, unlisted-some}
use Rattle.extremes.proofs.print.print_unlisted.Goals as goal

-- the line is printed if there are such lines
pub returns-then-unlisted-gt0 : goal.returns-then-unlisted-gt0
returns-then-unlisted-gt0 g c =
    line-alone g.M.Messages.prints _ _ _ _ (unlisted-some c.args.unlisted c.if-unlisted-gt0.true) c.print.ensures

use Rattle.extremes.proofs.PrintedLines.{answer-after}
use Rattle.extremes.proofs.print.print_ranked.Goals as goal

-- the warnings come before the report
pub returns : goal.returns
returns g c =
    answer-after g.M.Messages.prints _ _ _ _ _ _ c.print_warnings.ensures _ c.args.ranked.answer c.in-Ok.papers _ _ _
    c.in-Ok.is c.print_papers-ending.ensures

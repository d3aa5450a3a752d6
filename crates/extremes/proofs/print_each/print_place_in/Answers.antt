use Rattle.extremes.proofs.EachPrinting.{place-in-printed}
use Rattle.extremes.proofs.print_each.print_place_in.Goals as goal

-- the line is printed
pub returns : goal.returns
returns g c = place-in-printed g.M.Messages.prints _ _ c.args.path.now c.args.line c.print.ensures

use Rattle.extremes.proofs.PrintedLines.{odd-printed, odd-unprinted}
use Rattle.extremes.proofs.print.print_odd.Goals as goal

-- the line is printed with the path of the file of the first odd line
pub returns-in-Some-get : goal.returns-in-Some-get
returns-in-Some-get g c =
    odd-printed g.M.Messages.prints c.args.files.now c.get.result _ _ c.args.odd c.in-Some.field-0
    c.in-Some-get.path _ c.as_str.ensures.value c.in-Some.is c.get.ensures.lookup c.in-Some-get.is c.print.ensures

-- or it isn't, if there is no such file
pub returns-in_default-get : goal.returns-in_default-get
returns-in_default-get g c =
    odd-unprinted g.M.Messages.prints c.args.files.now c.get.result _ c.args.odd c.in-Some.field-0
    c.in-Some.is c.get.ensures.lookup c.in_default-get.not-Some

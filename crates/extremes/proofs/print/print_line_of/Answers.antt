use Rattle.extremes.proofs.PrintedLines.{line-of-printed, line-of-unprinted, unnumbered-unprinted}
use Rattle.extremes.proofs.print.print_line_of.Goals as goal

-- no file has number 0
pub returns-in_default : goal.returns-in_default
returns-in_default g c =
    unnumbered-unprinted g.M.Messages.prints _ c.args.paths.now c.args.file c.args.line c.checked_sub.result
    c.checked_sub.ensures c.in_default.not-Some

-- the line is printed with the path of the file
pub returns-in-Some-get : goal.returns-in-Some-get
returns-in-Some-get g c =
    line-of-printed g.M.Messages.prints c.args.paths.now c.get.result c.args.file c.in-Some.place c.args.line
    c.checked_sub.result c.checked_sub.ensures c.in-Some.is c.get.ensures.lookup _ _ c.in-Some-get.path _ c.as_str.ensures.value c.in-Some-get.is
    c.print.ensures

-- or it isn't, if there is no such file
pub returns-in_default-get : goal.returns-in_default-get
returns-in_default-get g c =
    line-of-unprinted g.M.Messages.prints c.args.paths.now c.get.result c.args.file c.in-Some.place c.args.line
    c.checked_sub.result c.checked_sub.ensures c.in-Some.is c.get.ensures.lookup _ c.in_default-get.not-Some

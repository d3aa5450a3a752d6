use Rattle.extremes.proofs.PrintedLines.{foreign-printed, foreign-unprinted}
use Rattle.extremes.proofs.print.print_foreign.Goals as goal

-- the line is printed with the path of the first foreign file
pub returns-in-Some-get : goal.returns-in-Some-get
returns-in-Some-get g c =
    foreign-printed g.M.Messages.prints c.args.files.now c.get.result _ _ c.args.foreign c.in-Some.place
    c.in-Some-get.path _ c.as_str.ensures.value c.in-Some.is c.get.ensures.lookup c.in-Some-get.is c.print.ensures

-- or it isn't, if there is no such file
pub returns-in_default-get : goal.returns-in_default-get
returns-in_default-get g c =
    foreign-unprinted g.M.Messages.prints c.args.files.now c.get.result _ c.args.foreign c.in-Some.place
    c.in-Some.is c.get.ensures.lookup c.in_default-get.not-Some

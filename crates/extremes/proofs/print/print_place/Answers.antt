use Rattle.std.proofs.Common.{map}
use Rattle.std.specs.Prelude.{string_bytes}
use Rattle.extremes.proofs.PrintedLines.{place-absent, place-numbered, place-printed}
use Rattle.extremes.proofs.print.print_place.Goals as goal

-- nothing is printed if the arguments are the paths
pub returns-then-are_arguments : goal.returns-then-are_arguments
returns-then-are_arguments g c =
    place-numbered g.M.Messages.prints c.args.messages.now (map string_bytes c.args.files.arguments.now)
    (map string_bytes c.args.files.paths.now) c.args.fault _ c.are_arguments.ensures c.if-are_arguments.true

-- the place of a bad daily line is printed
pub returns-in-DailyLine : goal.returns-in-DailyLine
returns-in-DailyLine g c =
    place-printed g.M.Messages.prints _ _ (map string_bytes c.args.files.arguments.now)
    (map string_bytes c.args.files.paths.now) c.args.fault _ c.are_arguments.ensures _ _ _ c.if-are_arguments.false
    c.in-DailyLine.is c.print_line_of.ensures

-- and nothing for another error
pub returns-in_default : goal.returns-in_default
returns-in_default g c =
    place-absent g.M.Messages.prints c.args.messages.now (map string_bytes c.args.files.arguments.now)
    (map string_bytes c.args.files.paths.now) c.args.fault _ c.are_arguments.ensures c.if-are_arguments.false
    c.in_default.not-DailyLine

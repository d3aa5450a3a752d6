use Rattle.std.proofs.Common.{[], ◌∷◌}
use Rattle.std.specs.Prelude.{Some}
use Rattle.rank_input.specs.declared.queries.QueriesFault.TheVariants.{Line, NotText}
use Rattle.rank_input.specs.Input.{of_query}
use Rattle.extremes.specs.FaultTexts.{fault_line}
use Rattle.extremes.specs.Messages.{not_read_line, place_text}
use Rattle.extremes.proofs.EachPrinting.{list-lines}
use Rattle.extremes.proofs.PrintedLines.{lines-then}
use Rattle.extremes.proofs.print_each.refused_list.Goals as goal

-- the line of the error comes before that of the place
pub returns-in-Line-clause-lines : goal.returns-in-Line-clause-lines
returns-in-Line-clause-lines g c =
    let prints = g.M.Messages.prints in
    list-lines prints c.args.messages.now c.print_place_in.new.messages fault_line c.args.list.now c.args.fault
    (Line c.in-Line.line c.in-Line.fault) c.in-Line.is
    (lines-then prints c.args.messages.now c.refused-ending.new.messages c.print_place_in.new.messages
    (fault_line (of_query c.in-Line.fault) ∷ []) (Some (place_text c.in-Line.line c.args.list.now) ∷ [])
    (rw c.from.ensures at c.refused-ending.ensures.line) c.print_place_in.ensures)

-- so does the line on a list that isn't text
pub returns-in-NotText-clause-lines : goal.returns-in-NotText-clause-lines
returns-in-NotText-clause-lines g c =
    let prints = g.M.Messages.prints in
    list-lines prints c.args.messages.now c.print_place_in-in-NotText.new.messages fault_line c.args.list.now c.args.fault
    (NotText c.in-NotText.line) c.in-NotText.is
    (lines-then prints c.args.messages.now c.not_read-ending.new.messages c.print_place_in-in-NotText.new.messages
    (not_read_line c.args.list.now ∷ []) (Some (place_text c.in-NotText.line c.args.list.now) ∷ [])
    c.not_read-ending.ensures.line c.print_place_in-in-NotText.ensures)

use Rattle.std.proofs.Common.{◌∙◌, inl, inr, refl}
use Rattle.extremes.specs.Messages.{ArePrintedLines, streams}
use Rattle.extremes.proofs.PrintedLines.{shown_of}
use Rattle.extremes.proofs.commands.describe_named.Goals as goal

-- the description is printed
pub returns-in-Ok : goal.returns-in-Ok
returns-in-Ok g c = inr (record {
  answer = c.in-Ok.described;
  described = c.in-Ok.ensures.describes;
  shown = shown_of _
      (streams (ArePrintedLines g.M.Messages.prints c.args.messages.now c.print_description-ending.new.messages)
      (g.W.Write.contents c.args.out.now) (g.W.Write.contents c.print_description-ending.new.out))
      c.daily_paths-files.result.paths.now c.args.describing.now.files.items c.daily_paths-files.result.arguments.now
      c.args.named.now.paths.items c.print_description-ending.result (c.daily_paths-files.ensures.paths ∙ c.deref.ensures.value)
      c.daily_paths-files.ensures.arguments _ c.print_description-ending.ensures;
})

-- or a file can't be read
pub returns-in-Err : goal.returns-in-Err
returns-in-Err g c = inl (record {
  path = c.in-Err.path.now;
  stops = c.in-Err.ensures.stopped;
  ends = c.not_read.ensures.ending;
  unprinted = refl;
  said = c.not_read.ensures.line;
})

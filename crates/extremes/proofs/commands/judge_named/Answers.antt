use Rattle.std.proofs.Common.{◌∙◌, inl, inr, refl}
use Rattle.extremes.specs.Messages.{ArePrintedLines, streams}
use Rattle.extremes.proofs.PrintedLines.{told_of}
use Rattle.extremes.proofs.commands.judge_named.Goals as goal

-- the judgement is printed
pub returns-in-Ok : goal.returns-in-Ok
returns-in-Ok g c =
    inr (record {
      answer = c.in-Ok.judged;
      judged = c.in-Ok.ensures.judges;
      told = told_of _
          (streams (ArePrintedLines g.M.Messages.prints c.args.messages.now c.print_judgement-ending.new.messages)
          (g.W.Write.contents c.args.out.now) (g.W.Write.contents c.print_judgement-ending.new.out))
          c.daily_paths-files.result.paths.now c.args.judging.now.files.items c.daily_paths-files.result.arguments.now
          c.args.named.now.paths.items c.print_judgement-ending.result (c.daily_paths-files.ensures.paths ∙ c.deref.ensures.value)
          c.daily_paths-files.ensures.arguments _ c.print_judgement-ending.ensures;
    })

-- or a file can't be read
pub returns-in-Err : goal.returns-in-Err
returns-in-Err g c = inl (record {
  path = c.in-Err.path.now;
  stops = c.in-Err.ensures.stopped;
  ends = c.not_read.ensures.ending;
  unprinted = refl;
  said = c.not_read.ensures.line;
})

use Rattle.std.proofs.Common.{◌∙◌, inl, inr, refl}
use Rattle.extremes.specs.FaultTexts.{fault_line}
use Rattle.extremes.specs.Messages.{ArePrintedLines, streams}
use Rattle.extremes.proofs.JudgeEachPrinting.{verdicts-as}
use Rattle.extremes.proofs.run_judge_each.judge_each_asked.Goals as goal

-- the verdicts are printed
pub returns-then-were_judged : goal.returns-then-were_judged
returns-then-were_judged g c = λ lines asks. inr (record {
  answer = c.in-Ok.judged;
  judged = c.in-Ok.ensures.judges lines asks;
  told = verdicts-as fault_line
      (streams (ArePrintedLines g.M.Messages.prints c.args.messages.now c.print_verdicts-ending.new.messages)
      (g.W.Write.contents c.args.out.now) (g.W.Write.contents c.print_verdicts-ending.new.out))
      c.daily_paths-files.result.paths.now c.args.judging.now.files.items c.daily_paths-files.result.arguments.now
      c.args.named.now.paths.items c.print_verdicts-ending.result
      (c.daily_paths-files.ensures.paths ∙ c.deref.ensures.value)
      c.daily_paths-files.ensures.arguments c.in-Ok.judged c.print_verdicts-ending.ensures;
})

-- or why there are none
pub returns-else-were_judged : goal.returns-else-were_judged
returns-else-were_judged g c = λ lines asks. inr (record {
  answer = c.in-Ok.judged;
  judged = c.in-Ok.ensures.judges lines asks;
  told = verdicts-as fault_line
      (streams (ArePrintedLines g.M.Messages.prints c.args.messages.now c.print_verdicts-ending.new.messages)
      (g.W.Write.contents c.args.out.now) (g.W.Write.contents c.print_verdicts-ending.new.out))
      c.daily_paths-files.result.paths.now c.args.judging.now.files.items c.daily_paths-files.result.arguments.now
      c.args.named.now.paths.items c.print_verdicts-ending.result
      (c.daily_paths-files.ensures.paths ∙ c.deref.ensures.value)
      c.daily_paths-files.ensures.arguments c.in-Ok.judged c.print_verdicts-ending.ensures;
})

-- or a file can't be read
pub returns-in-Err : goal.returns-in-Err
returns-in-Err g c = λ lines asks. inl (record {
  path = c.in-Err.path.now;
  stops = c.in-Err.ensures.stopped;
  ends = c.not_read.ensures.ending;
  unprinted = refl;
  said = c.not_read.ensures.line;
})

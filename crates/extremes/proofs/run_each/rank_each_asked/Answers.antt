use Rattle.std.proofs.Common.{◌∙◌, inl, inr, refl}
use Rattle.extremes.specs.FaultTexts.{fault_line}
use Rattle.extremes.specs.Messages.{ArePrintedLines, streams}
use Rattle.extremes.proofs.EachPrinting.{reports-as}
use Rattle.extremes.proofs.run_each.rank_each_asked.Goals as goal

-- the reports are printed
pub returns-in-Ok : goal.returns-in-Ok
returns-in-Ok g c = λ lines asks. inr (record {
  answer = c.in-Ok.ranked.reports;
  warnings = c.in-Ok.ranked.warnings;
  unlisted = c.in-Ok.ranked.unlisted;
  ranked = c.in-Ok.ensures.ranks lines asks;
  printed = reports-as fault_line
      (streams (ArePrintedLines g.M.Messages.prints c.args.messages.now c.print_each-ending.new.messages)
      (g.W.Write.contents c.args.out.now) (g.W.Write.contents c.print_each-ending.new.out))
      c.daily_paths-files.result.paths.now c.args.ranking.now.files.items c.daily_paths-files.result.arguments.now
      c.args.named.now.paths.items c.print_each-ending.result (c.daily_paths-files.ensures.paths ∙ c.deref.ensures.value)
      c.daily_paths-files.ensures.arguments c.in-Ok.ranked.reports c.in-Ok.ranked.warnings c.in-Ok.ranked.unlisted
      c.print_each-ending.ensures;
})

-- or a file can't be read
pub returns-in-Err : goal.returns-in-Err
returns-in-Err g c = λ lines asks. inl (
  c.in-Err.ensures.kept,
  record {
    path = c.in-Err.path.now;
    stops = c.in-Err.ensures.stopped;
    ends = c.not_read.ensures.ending;
    unprinted = refl;
    said = c.not_read.ensures.line;
  },
)

use Rattle.std.proofs.Common.{◌∙◌, sym}
use Rattle.rank_table.proofs.FirstReports.{more_passed, none_passed, report_ends, report_is_whole}
use Rattle.rank_table.proofs.cutting.after_report.Goals as goal

-- no line was passed
pub loop-line-init : goal.loop-line-init
loop-line-init c = none_passed c.args.text.now

-- a line that isn't the last was passed
pub loop-line-preserved : goal.loop-line-preserved
loop-line-preserved c =
    more_passed c.args.text.now c.loop-line.rest.now c.in-Some.line.now c.in-Some.behind.now c.loop-line.invariant
    c.in-Some.ensures (sym c.is_last.ensures ∙ c.if-is_last.false)

-- the last line of the report was found
pub returns-then-is_last : goal.returns-then-is_last
returns-then-is_last c =
    report_ends c.args.text.now c.loop-line.rest.now c.in-Some.line.now c.in-Some.behind.now c.loop-line.invariant
    c.in-Some.ensures (sym c.is_last.ensures ∙ c.if-is_last.true)

-- no line is the last
pub returns : goal.returns
returns c = report_is_whole c.args.text.now c.loop-line.rest.now c.loop-line.invariant c.in_default.ensures

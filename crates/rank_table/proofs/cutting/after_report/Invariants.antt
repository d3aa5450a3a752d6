use Rattle.std.proofs.Common.{length}
use Rattle.rank_table.proofs.FirstReports.{HasPassed}
use Rattle.rank_table.proofs.cutting.after_report.Given as goal

-- no line before the rest is the last of a report
abbrev pub invariant-loop-line : goal.invariant-loop-line
invariant-loop-line l = HasPassed l.text l.rest

abbrev pub decreases-loop-line : goal.decreases-loop-line
decreases-loop-line l = length l.rest

use Rattle.std.proofs.Common.{length, map}
use Rattle.rank_papers.specs.ReportLines.{named_in, report_end, row_behind}
use Rattle.rank_papers.proofs.LinesRead.{HasRead}
use Rattle.rank_papers.proofs.report_lines.read_rows.Given as goal

-- the rows so far and those of the rest are those of the text
abbrev pub invariant-loop-line : goal.invariant-loop-line
invariant-loop-line l = HasRead 3 (row_behind l.query) (report_end l.query) l.text (map named_in l.found.items) l.rest

abbrev pub decreases-loop-line : goal.decreases-loop-line
decreases-loop-line l = length l.rest

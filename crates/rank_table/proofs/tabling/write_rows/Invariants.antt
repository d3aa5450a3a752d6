use Rattle.std.proofs.Common.{take, map, Some, option_map}
use Rattle.rank_papers.specs.ReportLines.{named_in}
use Rattle.rank_table.specs.Reports.{placed_report}
use Rattle.rank_table.proofs.RowsOfReports.{rows_from}
use Rattle.rank_table.proofs.Written.{HasWrittenRows}
use Rattle.rank_table.proofs.tabling.write_rows.Given as goal

-- the rows so far were written
abbrev pub invariant-loop-place : goal.invariant-loop-place
invariant-loop-place l = HasWrittenRows (λ v. Some v.items) (option_map (λ s. s.now) l.stations) l.fn.writer l.writer
    (rows_from (placed_report l.report) 1 (map named_in (take l.place l.report.report.rows.items)))

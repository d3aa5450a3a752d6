use Rattle.std.proofs.Common.{take, Some, option_map}
use Rattle.rank_table.specs.Reports.{placed_in}
use Rattle.rank_table.specs.Tables.{rows_of}
use Rattle.rank_table.proofs.Written.{HasWrittenRows}
use Rattle.rank_table.proofs.tabling.write_table.Given as goal

-- the rows of the reports so far were written after the header
abbrev pub invariant-loop-report : goal.invariant-loop-report
invariant-loop-report l = HasWrittenRows (λ v. Some v.items) (option_map (λ s. s.now) l.stations) l.initial.writer
    l.writer (rows_of (placed_in (take l.report-index l.reports)))

use Rattle.std.proofs.Common.{length}
use Rattle.rank_table.specs.Reports.{placed_in}
use Rattle.rank_table.proofs.Adding.{HasAdded}
use Rattle.rank_table.proofs.reading.add_reports.Given as goal

-- the reports of the rest follow those that were found
abbrev pub invariant-reports : goal.invariant-reports
invariant-reports l = HasAdded l.file l.text (placed_in l.fn.found.items) l.before l.rest (placed_in l.found.items)

abbrev pub decreases-reports : goal.decreases-reports
decreases-reports l = length l.rest

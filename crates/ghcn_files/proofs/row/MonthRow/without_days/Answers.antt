use Rattle.ghcn_files.proofs.Rows.{no-days}
use Rattle.ghcn_files.proofs.row.MonthRow.without_days.Goals as goal

-- the row has what the month says before its days, and none of these
pub returns : goal.returns
returns c m of =
    record { id = of.id; element = of.element; year = of.year; month = of.month; days = no-days }

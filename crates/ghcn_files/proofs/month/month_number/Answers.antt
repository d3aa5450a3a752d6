use Rattle.std.proofs.Common.{ap, ◌∙◌}
use Rattle.ghcn_files.specs.StationLines.{natural_up_to}
use Rattle.ghcn_files.proofs.Months.{month_columns}
use Rattle.ghcn_files.proofs.month.month_number.Goals as goal

-- the blanks in front say nothing
pub returns-clause-value : goal.returns-clause-value
returns-clause-value c =
    c.number_up_to.ensures.value ∙ ap (natural_up_to 12) (month_columns c.args.line.now c.requires)

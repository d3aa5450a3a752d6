use Rattle.std.proofs.Common.{ap, ◌∙◌}
use Rattle.ghcn_files.specs.StationLines.{natural_up_to}
use Rattle.ghcn_files.proofs.Months.{year_columns}
use Rattle.ghcn_files.proofs.month.year_of.Goals as goal

-- the blank in front says nothing
pub returns-clause-value : goal.returns-clause-value
returns-clause-value c =
    c.number_up_to.ensures.value ∙ ap (natural_up_to 9999) (year_columns c.args.line.now c.requires)

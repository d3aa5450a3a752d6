use Rattle.std.proofs.Common.{◌+◌, sym, ap, ◌∙◌}
use Rattle.ghcn_fields.specs.Numbers.{int_field}
use Rattle.ghcn_files.proofs.Readings.{malformed, well_formed}
use Rattle.ghcn_files.proofs.month.reading_of.Goals as goal

-- a value that isn't a number
pub returns-then-is_bad : goal.returns-then-is_bad
returns-then-is_bad c =
    malformed c.args.line.now (c.args.day + 1) c.value_field-field.result
    (c.value_field-field.ensures ∙ ap int_field c.value_column.ensures) (sym c.is_bad.ensures ∙ c.if-is_bad.true)

-- any other value
pub returns : goal.returns
returns c =
    well_formed c.args.line.now (c.args.day + 1) c.value_field-field.result _ _
    (c.value_field-field.ensures ∙ ap int_field c.value_column.ensures) (sym c.is_bad.ensures ∙ c.if-is_bad.false)
    c.unless_missing.ensures c.is_flagged.ensures

use Rattle.std.proofs.Common.{◌∙◌}
use Rattle.ghcn_fields.proofs.FieldsByKind.{field-found}
use Rattle.ghcn_fields.proofs.value.value_field.Goals as goal

-- blanks
pub returns-in-Blanks : goal.returns-in-Blanks
returns-in-Blanks c =
    field-found c.sum_of-sum.result _ c.args.column.now c.sum_of-sum.ensures c.form_of.ensures c.in-Blanks.is

-- no number
pub returns-in-Malformed : goal.returns-in-Malformed
returns-in-Malformed c =
    field-found c.sum_of-sum.result _ c.args.column.now c.sum_of-sum.ensures c.form_of.ensures c.in-Malformed.is

-- a number
pub returns-in-Plain : goal.returns-in-Plain
returns-in-Plain c =
    c.signed_field.ensures
    ∙ field-found c.sum_of-sum.result _ c.args.column.now c.sum_of-sum.ensures c.form_of.ensures c.in-Plain.is

-- a number below zero
pub returns-in-Negative : goal.returns-in-Negative
returns-in-Negative c =
    c.signed_field-in-Negative.ensures
    ∙ field-found c.sum_of-sum.result _ c.args.column.now c.sum_of-sum.ensures c.form_of.ensures c.in-Negative.is

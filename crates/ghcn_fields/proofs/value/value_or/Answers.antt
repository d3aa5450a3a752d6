use Rattle.std.proofs.Common.{rules}
use Rattle.std.proofs.lemmas.Int.{to_z-of_z}
use Rattle.ghcn_fields.proofs.FieldsByKind.{form_field, form-cases}
use Rattle.ghcn_fields.proofs.value.value_or.Goals as goal

-- the form says whether the field is bad
pub returns-clause-bad : goal.returns-clause-bad
returns-clause-bad c = search (rules, form_field, form-cases)

-- and which number it has
pub returns-clause-number : goal.returns-clause-number
returns-clause-number c = search (rules, to_z-of_z, form_field, form-cases)

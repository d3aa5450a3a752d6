use Rattle.ghcn_fields.proofs.FieldNumbers.{scaled_field-number}
use Rattle.ghcn_fields.proofs.laws.fields_have_numbers.Goals as goal

-- a field is read as the number that it has
pub returns : goal.returns
returns c = scaled_field-number

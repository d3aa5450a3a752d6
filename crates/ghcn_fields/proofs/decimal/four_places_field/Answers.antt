use Rattle.ghcn_fields.proofs.FieldNumbers.{numbers_by}
use Rattle.ghcn_fields.proofs.decimal.four_places_field.Goals as goal

-- the field has the number that its text spells
pub returns-in-Some-clause-number : goal.returns-in-Some-clause-number
returns-in-Some-clause-number c = numbers_by 4 c.args.columns.now c.in-Some.field c.in-Some.ensures

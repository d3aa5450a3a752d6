use Rattle.std.proofs.Common.{arith, rules}
use Rattle.std.proofs.lemmas.Grind.{common_steps}
use Rattle.ghcn_fields.specs.Numbers.{natural, signed_by}
use Rattle.ghcn_fields.proofs.FieldNumbers.{whole_numbers_by, blank_by}
use Rattle.ghcn_fields.proofs.field.int_field.Goals as goal

-- a field without a text is blank
pub returns-in-empty-clause-value : goal.returns-in-empty-clause-value
returns-in-empty-clause-value c = search rules

-- and has no number
pub returns-in-empty-clause-number : goal.returns-in-empty-clause-number
returns-in-empty-clause-number c = whole_numbers_by c.args.field.now _ (returns-in-empty-clause-value c)

-- since it is blanks alone
pub returns-in-empty-clause-blank : goal.returns-in-empty-clause-blank
returns-in-empty-clause-blank c = blank_by (signed_by natural) c.args.field.now _ (returns-in-empty-clause-value c)

-- after a minus the digits are read
pub returns-in-45-clause-value : goal.returns-in-45-clause-value
returns-in-45-clause-value c = grind (arith, common_steps)

-- it has the number that its text spells
pub returns-in-45-clause-number : goal.returns-in-45-clause-number
returns-in-45-clause-number c = whole_numbers_by c.args.field.now c.signed_field.result (returns-in-45-clause-value c)

-- and isn't blank
pub returns-in-45-clause-blank : goal.returns-in-45-clause-blank
returns-in-45-clause-blank c = blank_by (signed_by natural) c.args.field.now c.signed_field.result
    (returns-in-45-clause-value c)

-- without a minus all of the text is read
pub returns-in_default-clause-value : goal.returns-in_default-clause-value
returns-in_default-clause-value c = search rules

-- it has the number that its text spells
pub returns-in_default-clause-number : goal.returns-in_default-clause-number
returns-in_default-clause-number c = whole_numbers_by c.args.field.now c.signed_field-in_default.result
    (returns-in_default-clause-value c)

-- and isn't blank
pub returns-in_default-clause-blank : goal.returns-in_default-clause-blank
returns-in_default-clause-blank c = blank_by (signed_by natural) c.args.field.now c.signed_field-in_default.result
    (returns-in_default-clause-value c)

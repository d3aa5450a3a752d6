use Rattle.std.proofs.Common.{◌≡◌, ℕ, true, get_or, refl}
use Rattle.std.specs.Prelude.{◌==◌}
use Rattle.std.proofs.lemmas.Bool.{agree_below_at}
use Rattle.ghcn_fields.specs.declared.value.TheConstants.{FORMS}
use Rattle.ghcn_fields.specs.declared.value.Form.{Form}
use Rattle.ghcn_fields.specs.declared.value.Form.TheVariants.{Blanks, Plain, Negative, Malformed}
use Rattle.ghcn_fields.specs.FieldForms.{form_of_kinds}
use Rattle.ghcn_fields.proofs.value.form_of.Goals as goal

-- a number for each form
abbrev number_of : Form → ℕ
number_of Blanks = 0
number_of Plain = 1
number_of Negative = 2
number_of Malformed = 3

-- forms of one number are the same
same_form : (a b : Form) → (number_of a == number_of b) ≡ true → a ≡ b
same_form Blanks Blanks e = refl
same_form Blanks Plain e = absurd cc
same_form Blanks Negative e = absurd cc
same_form Blanks Malformed e = absurd cc
same_form Plain Blanks e = absurd cc
same_form Plain Plain e = refl
same_form Plain Negative e = absurd cc
same_form Plain Malformed e = absurd cc
same_form Negative Blanks e = absurd cc
same_form Negative Plain e = absurd cc
same_form Negative Negative e = refl
same_form Negative Malformed e = absurd cc
same_form Malformed Blanks e = absurd cc
same_form Malformed Plain e = absurd cc
same_form Malformed Negative e = absurd cc
same_form Malformed Malformed e = refl

-- the table has the form of each five kinds
pub returns : goal.returns
returns c = same_form (get_or FORMS c.args.kinds Blanks) (form_of_kinds c.args.kinds) (agree_below_at
    (λ n. number_of (get_or FORMS n Blanks) == number_of (form_of_kinds n)) (λ _. true) 1024 c.args.kinds refl
    c.requires)

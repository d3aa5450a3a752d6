use Rattle.std.proofs.Common.{◌≡◌, ℕ, ◌+◌, ◌-◌, ◌*◌, ◌%◌, List, [], ◌∷◌, get_or, IfSome, Option, refl, sym, ap, subst}
use Rattle.std.proofs.Common.{◌∙◌, arith}
use Rattle.ghcn_fields.specs.declared.field.Field.{Field}
use Rattle.ghcn_fields.specs.declared.value.Form.{Form}
use Rattle.ghcn_fields.specs.Numbers.{scaled_field}
use Rattle.ghcn_fields.specs.FieldForms.{field_of_size}
use Rattle.ghcn_fields.proofs.PointedFields.{tenths, six_are}
use Rattle.ghcn_fields.proofs.decimal.pointed_tenths.Goals as goal

-- the field of the form and the size is that of the columns
pub returns : goal.returns
returns c =
    let xs : List ℕ = c.args.columns.now in
    let at = λ (k : ℕ). get_or xs k 0 in
    let s : ℕ = c.sum_of-whole.result in
    let size : ℕ = s % 131072 * 10 + (at 5 - 48) in
    let six : List ℕ = at 0 ∷ at 1 ∷ at 2 ∷ at 3 ∷ at 4 ∷ at 5 ∷ [] in
    let found = tenths (at 0) (at 1) (at 2) (at 3) (at 4) (at 5) s size c.if-point-ne46.false
    (sym c.is_ascii_digit.ensures.value ∙ c.if-not-is_ascii_digit.false) c.sum_of-whole.ensures refl
    (omega arith) in
    subst (λ (columns : List ℕ). IfSome c.field_of_size.result (λ field. field ≡ scaled_field 1 columns))
    (sym (six_are xs c.told-columns))
    (subst (λ (o : Option Field). IfSome o (λ field. field ≡ scaled_field 1 six))
    (sym (c.field_of_size.ensures ∙ ap (λ (f : Form). field_of_size f size) c.form_of.ensures)) found)

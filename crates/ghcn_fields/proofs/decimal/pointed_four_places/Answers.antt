use Rattle.std.proofs.Common.{◌≡◌, ℕ, ◌+◌, ◌*◌, ◌%◌, List, [], ◌∷◌, get_or, IfSome, Option, refl, sym, ap, subst}
use Rattle.std.proofs.Common.{◌∙◌, arith}
use Rattle.ghcn_fields.specs.declared.field.Field.{Field}
use Rattle.ghcn_fields.specs.declared.value.Form.{Form}
use Rattle.ghcn_fields.specs.Numbers.{scaled_field}
use Rattle.ghcn_fields.specs.FieldForms.{field_of_size, is_plain}
use Rattle.ghcn_fields.proofs.PointedFields.{four_places, nine_are}
use Rattle.ghcn_fields.proofs.decimal.pointed_four_places.Goals as goal

-- the field of the form and the size is that of the columns
pub returns : goal.returns
returns c =
    let xs : List ℕ = c.args.columns.now in
    let at = λ (k : ℕ). get_or xs k 0 in
    let s : ℕ = c.sum_of-whole.result in
    let t : ℕ = c.sum_of-part.result in
    let size : ℕ = s % 131072 * 10_000 + t % 131072 in
    let nine : List ℕ = at 0 ∷ at 1 ∷ at 2 ∷ at 3 ∷ at 4 ∷ at 5 ∷ at 6 ∷ at 7 ∷ at 8 ∷ [] in
    let plain = ap is_plain (sym c.form_of.ensures) ∙ sym c.is_plain.ensures ∙ c.if-not-is_plain.false in
    let found = four_places (at 0) (at 1) (at 2) (at 3) (at 4) (at 5) (at 6) (at 7) (at 8) s t size
    c.if-point-ne46.false c.sum_of-part.ensures plain c.sum_of-whole.ensures refl (omega arith) in
    subst (λ (columns : List ℕ). IfSome c.field_of_size.result (λ field. field ≡ scaled_field 4 columns))
    (sym (nine_are xs c.told-columns))
    (subst (λ (o : Option Field). IfSome o (λ field. field ≡ scaled_field 4 nine))
    (sym (c.field_of_size.ensures ∙ ap (λ (f : Form). field_of_size f size) c.form_of-2.ensures)) found)

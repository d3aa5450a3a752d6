use Rattle.std.proofs.Common.{◌≡◌, Bool, true, false, cond, Some, None, ℤ, neg_ℤ, refl, sym, ap, ◌∙◌}
use Rattle.std.specs.Prelude.{◌&&◌, int_le}
use Rattle.std.proofs.Math.Facts.{to_z-of_z}
use Rattle.ghcn_fields.specs.declared.field.Field.{Field}
use Rattle.ghcn_fields.specs.declared.field.Field.TheVariants.{Number}
use Rattle.ghcn_files.specs.StationLines.{is_number_within, number_of}
use Rattle.ghcn_files.proofs.station.degrees.Goals as goal

-- the number of a field that has one, if it is within a limit
number_if : (limit n : ℤ) (f : Field) (b : Bool) → f ≡ Number n → (int_le (neg_ℤ limit) n && int_le n limit) ≡ b
    → cond b (Some n) None ≡ cond (is_number_within (neg_ℤ limit) limit f) (Some (number_of f)) None
number_if limit n f b is within =
    sym (ap (λ (x : Field). cond (is_number_within (neg_ℤ limit) limit x) (Some (number_of x)) None) is
    ∙ ap (λ (t : Bool). cond t (Some n) None) within)

-- a number and a limit, as 32 bits hold them
within_bits : (limit n l m : ℤ) (b : Bool) → l ≡ limit → m ≡ n → (int_le (neg_ℤ l) m && int_le m l) ≡ b
    → (int_le (neg_ℤ limit) n && int_le n limit) ≡ b
within_bits limit n l m b p q is =
    ap (λ (z : ℤ). int_le (neg_ℤ z) n && int_le n z) (sym p)
    ∙ ap (λ (z : ℤ). int_le (neg_ℤ l) z && int_le z l) (sym q) ∙ is

-- a number within the limit
pub returns-in-Number : goal.returns-in-Number
returns-in-Number c =
    let fits = ((c.in-Number.ensures.number c.in-Number.number).0 refl).1 in
    let within = within_bits c.args.limit c.in-Number.number _ _ true (to_z-of_z c.ranges.limit) (to_z-of_z fits)
    (sym c.is_within.ensures ∙ c.if-is_within.true) in
    ap Some (to_z-of_z fits) ∙ number_if c.args.limit c.in-Number.number _ true
    (sym c.four_places_field.ensures.value ∙ c.in-Number.is) within

-- and one beyond it
pub returns-in_default : goal.returns-in_default
returns-in_default c =
    let fits = ((c.in-Number.ensures.number c.in-Number.number).0 refl).1 in
    let within = within_bits c.args.limit c.in-Number.number _ _ false (to_z-of_z c.ranges.limit) (to_z-of_z fits)
    (sym c.is_within.ensures ∙ c.if-is_within.false) in
    number_if c.args.limit c.in-Number.number _ false (sym c.four_places_field.ensures.value ∙ c.in-Number.is) within

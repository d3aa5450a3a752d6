use Rattle.std.proofs.Common.{◌∙◌, ◌^◌, sym}
use Rattle.ghcn_fields.proofs.WholeParts.{no_number, number_whole, number_joined}
use Rattle.ghcn_fields.proofs.field.small_decimal.Goals as goal

-- without a whole part there isn't a number
pub returns-in_err-whole : goal.returns-in_err-whole
returns-in_err-whole c =
    c.from_residual.ensures
    ∙ sym (no_number c.args.places (2 ^ 31) c.args.text.now (sym c.in_err-whole.ensures.number))

-- without a point the digits are whole units
pub returns-in_default-empty : goal.returns-in_default-empty
returns-in_default-empty c =
    let whole = c.in_ok-whole.field-0.0 in
    let is = number_whole c.args.places (2 ^ 31) whole c.args.text.now c.in_ok-whole.field-0.1.now
    c.in_ok-whole.ensures.number c.in_ok-whole.ensures.rest c.in_default-empty.len_below in
    rw (is, sym c.units.ensures.units) c.small.ensures

-- with one there is a part after it
pub returns-in_default-len1-up : goal.returns-in_default-len1-up
returns-in_default-len1-up c =
    let whole = c.in_ok-whole.field-0.0 in
    let is = number_joined c.args.places (2 ^ 31) whole c.args.text.now c.in_ok-whole.field-0.1.now
    c.in_ok-whole.ensures.number c.in_ok-whole.ensures.rest c.in_default-len1-up.len_at_least in
    rw is c.small_joined.ensures

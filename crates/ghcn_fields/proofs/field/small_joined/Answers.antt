use Rattle.std.proofs.Common.{◌∙◌, ◌^◌, length, Some, sym, arith}
use Rattle.std.proofs.lemmas.Nat.{mul-le}
use Rattle.ghcn_fields.specs.Numbers.{natural}
use Rattle.ghcn_fields.proofs.Decimals.{up_to-some, joined-part_over}
use Rattle.ghcn_fields.proofs.field.small_joined.Goals as goal

-- the part after the point has to be digits, and not too great
pub returns-in_err-small_natural : goal.returns-in_err-small_natural
returns-in_err-small_natural c =
    c.from_residual.ensures
    ∙ sym (joined-part_over (2 ^ 31) c.args.places (length c.args.part.now) (Some c.args.whole)
    (natural c.args.part.now) (sym c.small_natural.ensures ∙ c.in_err-small_natural.was))

-- a whole part and a part after the point fit 64 bits together
pub overflow_add-branch : goal.overflow_add-branch
overflow_add-branch c =
    let part = up_to-some (2 ^ 31) c.in_ok-small_natural.field-0 (natural c.args.part.now)
    (sym c.small_natural.ensures ∙ c.in_ok-small_natural.was) in
    let high = mul-le c.args.whole c.units.result (2 ^ 31) 10000 c.requires.small c.units.ensures.few in
    let low = mul-le c.in_ok-small_natural.field-0 c.units-2.result (2 ^ 31) 10000 part.1 c.units-2.ensures.few in
    omega (arith, high, low)

use Rattle.rank_query.proofs.Cited.{◌≡◌, List, ℕ, ◌+◌, ◌-◌, min, length, take, drop, Some, None, sym, ap, ◌∙◌, arith}
use Rattle.rank_query.proofs.Cited.{option_map, common_steps, IsFirstByte, is_byte, natural, joined}
use Rattle.ghcn_fields.proofs.Decimals.{decimal_number-whole, decimal_number-point}
use Rattle.rank_query.proofs.Numerals.{joined-zero}
use Rattle.rank_query.proofs.values.decimal_up_to_most.Goals as goal

-- without a point there are whole degrees
pub returns-in-None : goal.returns-in-None
returns-in-None c =
    let text : List ℕ = c.args.text.now in
    let nowhere : IsFirstByte (is_byte 46) text None = rw c.in-None.is at c.memchr.ensures in
    c.joined_up_to_most.ensures
    ∙ ap (option_map (min 1001)) (joined-zero (natural text) ∙ sym (decimal_number-whole 1 text nowhere))

-- with a point there are two parts
pub returns-in-Some : goal.returns-in-Some
returns-in-Some c =
    let text : List ℕ = c.args.text.now in
    let point : ℕ = c.in-Some.point in
    let first : IsFirstByte (is_byte 46) text (Some point) = rw c.in-Some.is at c.memchr.ensures in
    let rest : take (length text - (point + 1)) (drop (point + 1) text) ≡ drop (point + 1) text =
    grind (arith, common_steps) in
    c.joined_up_to_most-in-Some.ensures
    ∙ ap (λ (part : List ℕ). option_map (min 1001) (joined 1 (natural (take point text)) (natural part) (length part)))
    rest ∙ sym (ap (option_map (min 1001)) (decimal_number-point 1 text point first))

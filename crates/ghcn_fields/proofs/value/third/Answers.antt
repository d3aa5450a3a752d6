use Rattle.std.proofs.Common.{◌+◌, ◌*◌, true, [], get_or, refl, arith}
use Rattle.std.specs.Prelude.{◌==◌}
use Rattle.std.proofs.lemmas.Bool.{agree_below_at, eqb-true}
use Rattle.ghcn_fields.specs.declared.value.TheConstants.{COLUMNS}
use Rattle.ghcn_fields.specs.FieldForms.{digit_of, kind_of}
use Rattle.ghcn_fields.proofs.value.third.Goals as goal

-- the table has what is said at each byte
pub returns : goal.returns
returns c = eqb-true _ _ (agree_below_at
    (λ b. get_or (get_or COLUMNS 2 []) b 0 == 100 * digit_of b + 2097152 * kind_of b)
    (λ _. true) 256 c.args.byte refl (omega arith))

use Rattle.std.proofs.Common.{◌≡◌, length}
use Rattle.ghcn_fields.specs.Numbers.{after_blanks}
use Rattle.ghcn_fields.proofs.field.after_blanks.Given as goal

-- the blanks that are taken off don't change what follows the blanks
abbrev pub invariant-loop-rest : goal.invariant-loop-rest
invariant-loop-rest l = after_blanks l.rest ≡ after_blanks l.fn.field

-- bytes that are left
abbrev pub decreases-loop-rest : goal.decreases-loop-rest
decreases-loop-rest l = length l.rest

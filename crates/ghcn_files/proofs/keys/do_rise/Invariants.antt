use Rattle.std.proofs.Common.{◌≡◌}
use Rattle.std.specs.declared.cmp.Ordering.TheVariants.{Less}
use Rattle.std.specs.List.{AllAdjacentBelow}
use Rattle.ghcn_files.specs.KeptStations.{id_key, key_cmp}
use Rattle.ghcn_files.proofs.keys.do_rise.Given as goal

-- each of the keys so far is below the next
abbrev pub invariant-loop-place : goal.invariant-loop-place
invariant-loop-place l = AllAdjacentBelow (λ a b. key_cmp (id_key a) (id_key b) ≡ Less) l.keys l.place

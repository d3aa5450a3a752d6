use Rattle.std.proofs.Common.{ℕ, List, map, get_or, refl, ◌∙◌, arith}
use Rattle.std.specs.List.{range_with_len}
use Rattle.ghcn_fields.proofs.FieldLanes.{sixteen_are, set_mask_but}
use Rattle.ghcn_fields.proofs.VisibleLanes.{lane, behind_eleven, eleven_show}
use Rattle.ghcn_fields.proofs.visible.eleven_are_visible.Goals as goal

-- the mask is full if each byte shows
pub returns : goal.returns
returns c =
    let xs : List ℕ = c.args.bytes.now in
    let at = λ (j : ℕ). get_or xs j 0 in
    rw (sixteen_are xs (omega arith))
    (set_mask_but behind_eleven (map lane (map at (range_with_len 0 16))) refl refl ∙ eleven_show at)

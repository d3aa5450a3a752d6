use Rattle.std.proofs.Common.{map, arith, ap, ◌∙◌, sym, refl}
use Rattle.ghcn_files.proofs.ColumnSlices.{columns-slice}
use Rattle.ghcn_description.specs.Lines.{shown}
use Rattle.ghcn_description.proofs.others.shown_code.Goals as goal

-- the line has the columns of the code
pub slice_bounds-copy_from_slice-end-2 : goal.slice_bounds-copy_from_slice-end-2
slice_bounds-copy_from_slice-end-2 c = omega (arith, c.requires)

-- they are shown
pub returns : goal.returns
returns c =
    c.make_visible.ensures
    ∙ ap (map shown) (c.copy_from_slice.ensures.after
    ∙ sym (columns-slice 18 21 17 21 c.args.line.now refl refl (omega arith) c.requires))

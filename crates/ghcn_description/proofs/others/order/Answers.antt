use Rattle.std.proofs.Common.{◌∙◌, ap₂}
use Rattle.std.specs.Ordering.{nat_cmp}
use Rattle.ghcn_files.proofs.KeyOrder.{four_cmp}
use Rattle.ghcn_description.proofs.others.order.Goals as goal

-- numbers are in the order of their bytes
pub returns : goal.returns
returns c =
    c.cmp.ensures ∙ ap₂ nat_cmp c.from_be_bytes.ensures c.from_be_bytes-2.ensures
    ∙ four_cmp c.args.code.now c.args.other.now c.told-code c.told-other c.fits-code c.fits-other

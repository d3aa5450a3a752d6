use Rattle.std.proofs.Common.{◌∙◌, Global, sym}
use Rattle.std.specs.Prelude.{bytes_eq, string_bytes}
use Rattle.std.specs.Cmp.Derive.Mapped.{pointwise-map}
use Rattle.extremes.proofs.print.are_arguments.Goals as goal

-- texts are compared byte by byte
pub returns : goal.returns
returns c = c.eq.ensures ∙ sym (pointwise-map (string_bytes {Z = Global}) bytes_eq c.args.files.paths.now
    c.args.files.arguments.now)

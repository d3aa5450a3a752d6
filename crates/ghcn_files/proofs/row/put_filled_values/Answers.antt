use Rattle.std.proofs.Common.{◌∙◌, ◌-◌, length}
use Rattle.ghcn_files.proofs.WholeLines.{filled-says, same-why, same-values}
use Rattle.ghcn_files.proofs.row.put_filled_values.Goals as goal

-- a line with blanks after it passes the tests of its values
pub values_in-requires : goal.values_in-requires
values_in-requires c =
    let line = c.args.line.now in
    same-why c.with_blanks.result line
    (rw (c.with_blanks.ensures) (filled-says line (269 - length line) c.requires.long)) ∙ c.requires.fine

-- and says the same values
pub returns : goal.returns
returns c =
    let line = c.args.line.now in
    same-values c.with_blanks.result line _
    (rw (c.with_blanks.ensures) (filled-says line (269 - length line) c.requires.long)) c.values_in.ensures

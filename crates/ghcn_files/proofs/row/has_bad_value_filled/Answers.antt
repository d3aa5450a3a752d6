use Rattle.std.proofs.Common.{◌∙◌, ◌-◌, length, sym}
use Rattle.ghcn_files.proofs.WholeLines.{filled-says, same-why}
use Rattle.ghcn_files.proofs.row.has_bad_value_filled.Goals as goal

-- a line with blanks after it says what it says
pub returns : goal.returns
returns c = λ none.
    let line = c.args.line.now in
    sym (same-why c.with_blanks.result line
    (rw (c.with_blanks.ensures) (filled-says line (269 - length line) c.requires.long)))
    ∙ c.has_bad_value_in.ensures none

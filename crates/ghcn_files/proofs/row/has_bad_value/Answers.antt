use Rattle.std.proofs.Common.{◌∙◌, sym}
use Rattle.ghcn_files.proofs.WholeLines.{first-say, same-why}
use Rattle.ghcn_files.proofs.row.has_bad_value.Goals as goal

-- the first columns of a line say what it says
pub returns-in-Some : goal.returns-in-Some
returns-in-Some c = λ none.
    let line = c.args.line.now in
    let whole = c.in-Some.whole.now in
    let chunk = c.in-Some.ensures.cases in
    sym (same-why whole line (first-say whole line chunk.enough chunk.same)) ∙ c.has_bad_value_in.ensures none

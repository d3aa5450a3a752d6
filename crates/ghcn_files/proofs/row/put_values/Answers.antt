use Rattle.std.proofs.Common.{◌∙◌}
use Rattle.ghcn_files.proofs.WholeLines.{first-say, same-why, same-values}
use Rattle.ghcn_files.proofs.row.put_values.Goals as goal

-- the first columns of a line pass the tests of its values
pub values_in-requires : goal.values_in-requires
values_in-requires c =
    let line = c.args.line.now in
    let whole = c.in-Some.whole.now in
    let chunk = c.in-Some.ensures.cases in
    same-why whole line (first-say whole line chunk.enough chunk.same) ∙ c.requires.fine

-- and say the same values
pub returns-in-Some : goal.returns-in-Some
returns-in-Some c =
    let line = c.args.line.now in
    let whole = c.in-Some.whole.now in
    let chunk = c.in-Some.ensures.cases in
    same-values whole line _ (first-say whole line chunk.enough chunk.same) c.values_in.ensures

use Rattle.std.proofs.Common.{◌+◌, ◌*◌, take, ap, ◌∙◌}
use Rattle.std.proofs.lemmas.List.{take_rest}
use Rattle.ghcn_files.proofs.month.four_groups.Goals as goal

-- they are what is there
pub returns : goal.returns
returns c =
    c.in-Some.ensures.cases.same ∙ ap (take 32) (take_rest c.args.line.now (21 + 8 * c.args.day))

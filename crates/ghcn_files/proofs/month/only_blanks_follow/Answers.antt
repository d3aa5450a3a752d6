use Rattle.std.proofs.Common.{◌-◌, length, drop, sym, ap, ◌∙◌, arith, length-drop}
use Rattle.std.proofs.lemmas.List.{take_all, drop_all}
use Rattle.std.proofs.lemmas.Bool.{le-leb}
use Rattle.ghcn_fields.specs.Meaning.Bytes.{is_blank}
use Rattle.ghcn_files.proofs.month.only_blanks_follow.Goals as goal

-- nothing follows a line that isn't longer
pub returns-then-line-le-COLUMNS : goal.returns-then-line-le-COLUMNS
returns-then-line-le-COLUMNS c =
    le-leb (length c.args.line.now) 269 c.if-line-le-COLUMNS.true
    ∙ sym (ap is_blank (drop_all 269 c.args.line.now c.if-line-le-COLUMNS.true))

-- what follows a longer one is tested
pub returns-else-line-le-COLUMNS : goal.returns-else-line-le-COLUMNS
returns-else-line-le-COLUMNS c =
    let rest = drop 269 c.args.line.now in
    c.is_blank.ensures ∙ ap is_blank (take_all (length c.args.line.now - 269) rest
    (omega (arith, length-drop 269 c.args.line.now)))

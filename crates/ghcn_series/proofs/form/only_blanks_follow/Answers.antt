use Rattle.ghcn_series.proofs.Cited.{◌-◌, length, drop, ap, ◌∙◌, arith, length-drop, take_all, is_blank}
use Rattle.ghcn_series.proofs.form.only_blanks_follow.Goals as goal

-- all that follows is tested
pub returns : goal.returns
returns c =
    c.is_blank.ensures ∙ ap is_blank (take_all (length c.args.line.now - 269) (drop 269 c.args.line.now)
    (omega (arith, length-drop 269 c.args.line.now)))

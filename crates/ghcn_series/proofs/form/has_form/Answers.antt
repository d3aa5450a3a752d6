use Rattle.ghcn_series.proofs.Cited.{length, le-leb, drop_all}
use Rattle.ghcn_series.proofs.form.has_form.Goals as goal

-- nothing follows the last column of a line that isn't longer
pub returns-then-line-le-COLUMNS : goal.returns-then-line-le-COLUMNS
returns-then-line-le-COLUMNS c =
    rw (drop_all 269 c.args.line.now c.if-line-le-COLUMNS.true, ← c.has_code.ensures, c.if-has_code.true)
    (le-leb (length c.args.line.now) 269 c.if-line-le-COLUMNS.true)

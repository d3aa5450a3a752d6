use Rattle.std.proofs.Common.{◌∙◌, sym, map}
use Rattle.std.specs.Option.{option_copied}
use Rattle.rank_papers.specs.ReportLines.{named_in}
use Rattle.rank_check.proofs.Piecing.{right_piece}
use Rattle.rank_check.proofs.pieces.check_line.Goals as goal

-- no test fails if and only if the line is right
pub returns-clause-accepted : goal.returns-clause-accepted
returns-clause-accepted c =
    let rows = map named_in c.args.rows.now in
    let law = right_piece c.args.query.now c.args.station.now (option_copied c.args.series) c.args.line.now
    c.args.printed rows (option_copied c.args.worst) c.requires in
    (λ e. law.0 (sym c.first_fault.ensures ∙ e), λ h. c.first_fault.ensures ∙ law.1 h)
